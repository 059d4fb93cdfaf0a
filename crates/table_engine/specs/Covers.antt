-- Who of a hand is covered.
use Rattle.std.specs.Prelude.{Bool, ◌==◌, ◌&&◌, nat_le}
use Rattle.std.specs.List.{list_any}
use Rattle.std.specs.Option.{is_some}
use Rattle.rulebook.specs.Seats.{next_occupied_after}
use Rattle.table_engine.specs.declared.start.HandStart.{HandStart}
use Rattle.table_engine.specs.declared.start.StartSeat.{StartSeat}
use Rattle.table_engine.specs.Hands.{HandTerms, is_live, player_of, put_in_hand}

-- A player is covered where some live player has put in during the hand at least as much as he.
abbrev pub is_covered : HandTerms → StartSeat → Bool
is_covered hand player =
    list_any (λ other. is_live hand other && nat_le (put_in_hand hand player) (put_in_hand hand other)) hand.start.seats

-- The player in the big mark's seat is the next who is dealt in after the small mark's seat, clockwise: nobody is dealt
-- in between the two.
abbrev pub is_big_next : HandStart → Bool
is_big_next start =
    next_occupied_after start.seat_count (λ seat. is_some (player_of start seat)) start.marks.small == start.marks.big
