-- Who may move, and where to. This project's own.
use Rattle.std.specs.Prelude.{◌≡◌, true, List}
use Rattle.std.specs.List.{list_all}
use Rattle.rulebook.specs.Pairs.{are_distinct}
use Rattle.seat_book.specs.declared.place.Place.{Place}
use Rattle.seat_book.specs.Places.{is_place_of}
use Rattle.seat_book.specs.Seatings.{Seating}
use Rattle.balance_rule.specs.EmptySeats.{is_empty_seat}
use Rattle.balance_rule.specs.Filling.{is_same_place}

-- These places may be taken, each by one player: the tables have them, nobody sits there, and no two are one.
pub record AreFree (seating : Seating) (places : List Place) : Type 0 where
  pub within : list_all (is_place_of seating.table_count seating.seat_count) places ≡ true
  pub empty : list_all (λ place. is_empty_seat seating.players place.table place.seat) places ≡ true
  pub apart : are_distinct is_same_place places ≡ true
