-- The seats of a table and their order. Robert's Rules of Poker: the button, the blinds and the deal go clockwise.
use Rattle.std.specs.Prelude.{ℕ, zero, suc, ◌+◌, ◌-◌, Bool, if◌then◌else◌, nat_lt, not, List, [], ◌∷◌, ◌++◌, filter, find, unwrap_or}

-- Clockwise is rising number, and 1 follows the last.
abbrev pub seat_after : ℕ → ℕ → ℕ
seat_after seats seat = if nat_lt seat seats then seat + 1 else 1

-- Counter-clockwise is falling number, and the last comes before 1.
abbrev pub seat_before : ℕ → ℕ → ℕ
seat_before seats seat = if nat_lt 1 seat then seat - 1 else seats

-- The seats that so many steps lead to, one after another, from a seat that is not among them yet.
abbrev pub walk : (ℕ → ℕ) → ℕ → ℕ → List ℕ
walk step zero seat = []
walk step (suc steps) seat = step seat ∷ walk step steps (step seat)

-- All seats of the table clockwise, from the seat after this one; this one itself comes last.
abbrev pub clockwise_after : ℕ → ℕ → List ℕ
clockwise_after seats seat = walk (seat_after seats) seats seat

-- All seats of the table counter-clockwise, from the seat before this one; this one itself comes last.
abbrev pub counter_clockwise_before : ℕ → ℕ → List ℕ
counter_clockwise_before seats seat = walk (seat_before seats) seats seat

-- The occupied seats clockwise, from the seat after this one.
abbrev pub occupied_clockwise_after : ℕ → (ℕ → Bool) → ℕ → List ℕ
occupied_clockwise_after seats occupied seat = filter occupied (clockwise_after seats seat)

-- The next occupied seat after this one: the first that is occupied clockwise, and this one itself where no seat is.
abbrev pub next_occupied_after : ℕ → (ℕ → Bool) → ℕ → ℕ
next_occupied_after seats occupied seat = unwrap_or (find occupied (clockwise_after seats seat)) seat

-- The nearest occupied seat before this one: the first that is occupied counter-clockwise, and this one itself where no
-- seat is.
abbrev pub nearest_occupied_before : ℕ → (ℕ → Bool) → ℕ → ℕ
nearest_occupied_before seats occupied seat = unwrap_or (find occupied (counter_clockwise_before seats seat)) seat

-- The lowest occupied seat: clockwise the first after the last seat.
abbrev pub lowest_occupied : ℕ → (ℕ → Bool) → ℕ
lowest_occupied seats occupied = next_occupied_after seats occupied seats

-- People who are listed in rising seat, clockwise from the seat after this one: those at higher seats, and then the
-- others.
abbrev pub people_clockwise_after : {A : Type 0} → (A → ℕ) → List A → ℕ → List A
people_clockwise_after seat_of people seat =
    filter (λ person. nat_lt seat (seat_of person)) people
    ++ filter (λ person. not (nat_lt seat (seat_of person))) people
