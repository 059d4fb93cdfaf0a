use Rattle.seat_book.specs.Counts.{count_at}
use Rattle.break_draw.proofs.NextSeats.{next-is, is-next, filled-in_turn}
use Rattle.break_draw.proofs.laws.the_next_seat_is_where_the_fewest_are.Goals as goal

pub returns-clause-next : goal.returns-clause-next
returns-clause-next c =
    λ seating table chosen place. (next-is seating table chosen place, is-next seating table chosen place)

pub returns-clause-in_turn : goal.returns-clause-in_turn
returns-clause-in_turn c = λ seating table fill before after place.
    filled-in_turn seating table (count_at seating.players table) fill before after place
