-- What the end of a round writes.
use Rattle.std.proofs.Common.{◌≡◌, refl, ◌+◌}
use Rattle.hand_rounds.specs.Rounds.{round_closed}
use Rattle.seat_book.specs.Seatings.{Seating}
use Rattle.tournament_rules.specs.Books.{BookState}
use Rattle.tournament_rules.specs.Effects.{round_ended}

-- The fields that the end of a round writes make the book of the definition.
pub round_ended_state : (book : BookState) (seats : Seating) → seats ≡ round_closed book.seating
    → record book { seating = seats; group = book.group + 1; accepted = book.accepted + 1 } ≡ round_ended book
round_ended_state book seats seats_is = rw seats_is refl
