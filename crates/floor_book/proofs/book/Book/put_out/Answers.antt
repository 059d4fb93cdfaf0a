use Rattle.std.proofs.Common.{sym, subst}
use Rattle.tournament_rules.specs.Valid.{IsValid}
use Rattle.floor_book.specs.Fields.{book_of}
use Rattle.floor_book.proofs.Begun.{put_out_by_steps}
use Rattle.floor_book.proofs.book.Book.put_out.Goals as goal

pub invariant_of-self : goal.invariant_of-self
invariant_of-self c =
    let state = put_out_by_steps (book_of c.self.inside) c.args.self.now c.args.start c.from.result
    c.set_status.new.self c.deal_in.new.seats c.args.next.now c.hands.result c.status.result c.self.view_is
    c.from.ensures c.requires.next c.hands.ensures c.status.ensures.status c.set_status.ensures.same c.deal_in.ensures
    c.requires.start in
    subst IsValid (sym state) c.requires.valid

pub returns : goal.returns
returns c =
    put_out_by_steps (book_of c.self.inside) c.args.self.now c.args.start c.from.result c.set_status.new.self
    c.deal_in.new.seats c.args.next.now c.hands.result c.status.result c.self.view_is c.from.ensures c.requires.next
    c.hands.ensures c.status.ensures.status c.set_status.ensures.same c.deal_in.ensures c.requires.start
