use Rattle.std.proofs.Common.{◌≡◌, ◌∙◌, sym, ap, subst}
use Rattle.std.specs.Prelude.{Some, None}
use Rattle.seat_book.specs.Players.{sits_in}
use Rattle.balance_rule.specs.Balance.{balance_move}
use Rattle.balance_rule.proofs.Movers.{found-numbered}
use Rattle.tournament_events.specs.declared.event.Event.TheVariants.{Balance}
use Rattle.tournament_rules.specs.Books.{BookState}
use Rattle.tournament_rules.specs.Checks.{book_refusal}
use Rattle.tournament_rules.specs.Valid.{IsValid}
use Rattle.tournament_rules.proofs.Balances.{valid_balanced}
use Rattle.floor_book.specs.Fields.{book_of}
use Rattle.floor_book.proofs.Rearranged.{balance_refusal, balanced_state}
use Rattle.floor_book.proofs.book.Book.balance.Goals as goal

pub reseat-requires-clause-sits : goal.reseat-requires-clause-sits
reseat-requires-clause-sits c =
    found-numbered (sits_in c.in_ok-move_.move_.from) (book_of c.self.inside).seating.players c.mover-player.result
    c.self.invariant.tables.lawful.apart c.mover-player.ensures.player

pub invariant_of-self : goal.invariant_of-self
invariant_of-self c =
    let book = book_of c.self.inside in
    let from = c.args.from in
    let to = c.args.to in
    let moves : balance_move (book_of c.self.inside).seating from to ≡ Some c.in_ok-move_.move_ =
    ap (λ (book : BookState). balance_move book.seating from to) c.self.view_is ∙ c.in_ok-move_.ensures.move_ in
    let state = balanced_state book from to c.in_ok-move_.move_ c.mover-player.result c.reseat.new.seats moves
    c.mover-player.ensures.number c.mover-player.ensures.place c.reseat.ensures.moved in
    let passed : book_refusal (book_of c.self.inside) (Balance from to) ≡ None =
    ap (λ (book : BookState). book_refusal book (Balance from to)) c.self.view_is
    ∙ (balance_refusal c.args.self.now from to ∙ c.in_ok-move_.ensures.checked) in
    subst IsValid (sym state) (valid_balanced book from to c.self.invariant passed)
