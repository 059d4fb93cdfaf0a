-- The search for a person along seats. Robert's Rules of Poker: play goes clockwise, from seat to seat.
use Rattle.std.specs.Prelude.{ℕ, Bool, ◌==◌, ◌&&◌, nat_le, List, [], ◌∷◌, Option, None, find}
use Rattle.std.specs.List.{list_all}
use Rattle.std.specs.Option.{option_or}

-- The first person who is wanted along these seats: whoever sits at the first seat is looked at, and then at the next.
abbrev pub found_along : {A : Type 0} → (A → ℕ) → (A → Bool) → List A → List ℕ → Option A
found_along seat_of wanted people [] = None
found_along seat_of wanted people (seat ∷ seats) = option_or (find
    (λ person. seat_of person == seat && wanted person) people) (found_along seat_of wanted people seats)

-- Each person sits at a seat of the table.
abbrev pub are_at_table : {A : Type 0} → (A → ℕ) → ℕ → List A → Bool
are_at_table seat_of seats people =
    list_all (λ person. nat_le 1 (seat_of person) && nat_le (seat_of person) seats) people
