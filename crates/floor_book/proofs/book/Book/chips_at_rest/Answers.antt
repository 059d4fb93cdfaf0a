use Rattle.std.proofs.Common.{◌≡◌, ap, List, arith}
use Rattle.std.specs.Prelude.{sum_by}
use Rattle.seat_book.specs.declared.seated.Seated.{Seated}
use Rattle.seat_book.specs.Players.{players_in}
use Rattle.tournament_rules.specs.Chips.{rest_in}
use Rattle.tournament_rules.proofs.Begins.{few_chips}
use Rattle.floor_book.specs.Fields.{book_of}
use Rattle.floor_book.proofs.book.Book.chips_at_rest.Goals as goal

pub rest_of-requires : goal.rest_of-requires
rest_of-requires c =
    let book = book_of c.self.inside in
    let kept = c.self.invariant.chips in
    let few = few_chips book c.self.invariant in
    let same : sum_by (λ (player : Seated). player.stack) (players_in c.slots.result.now) ≡ rest_in book =
    ap (λ (players : List Seated). sum_by (λ (player : Seated). player.stack) players) c.slots.ensures.players in
    omega (arith, kept, few, same)
