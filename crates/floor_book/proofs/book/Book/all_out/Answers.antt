use Rattle.std.proofs.Common.{◌≡◌, ◌∙◌, ◌<◌, List, length, ap, sym, subst}
use Rattle.std.specs.List.{All}
use Rattle.place_list.specs.declared.standing.Standing.{Standing}
use Rattle.tournament_rules.specs.Report.{standings_in}
use Rattle.tournament_rules.proofs.Standings.{standings_entered}
use Rattle.floor_book.specs.Fields.{book_of}
use Rattle.floor_book.proofs.book.Book.all_out.Goals as goal

pub outs_reported-requires : goal.outs_reported-requires
outs_reported-requires c =
    let book = book_of c.self.inside in
    let same : c.deref.result.now ≡ standings_in book = c.deref.ensures.value
    ∙ (c.in_ok-standings.ensures ∙ ap standings_in (sym c.self.view_is)) in
    subst (λ (standings : List Standing). All (λ standing. standing.player < length book.entries) standings) (sym same)
    (standings_entered book c.self.invariant)
