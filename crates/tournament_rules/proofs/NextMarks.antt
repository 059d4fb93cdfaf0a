-- The next marks are seats of the table.
use Rattle.std.proofs.Common.{ℕ, zero, suc, ◌≤◌, Bool, true, false, cond, List, inl, inr, refl, arith}
use Rattle.std.specs.Prelude.{Option, Some, None, find, unwrap_or}
use Rattle.std.specs.Option.{ForSome}
use Rattle.std.proofs.lemmas.Bool.{cases_Bool}
use Rattle.std.proofs.lemmas.Bool.Decides.{nat_tests}
use Rattle.rulebook.specs.Seats.{seat_after, seat_before, walk, next_occupied_after, nearest_occupied_before, lowest_occupied}
use Rattle.rulebook.proofs.OccupiedSeats.{seat_after-within}
use Rattle.button_blinds.specs.SeatSets.{no_seats, has_seat}
use Rattle.button_blinds.specs.Marks.{AreMarksOf, is_heads_up, first_marks, heads_up_marks, moved_marks, marks_after, waiting_between, leaves_fewer_than_three}
use Rattle.button_blinds.specs.declared.marks.Marks.{Marks}

-- A number is that of one of so many seats.
pub record IsSeatOf (seats seat : ℕ) : Type 0 where
  pub first : 1 ≤ seat
  pub last : seat ≤ seats

-- What a walk finds is a seat of the table, where each step leads to one.
walk_seat : (seats : ℕ) (step : ℕ → ℕ) (occupied : ℕ → Bool)
    → ((seat : ℕ) → IsSeatOf seats seat → IsSeatOf seats (step seat)) → (steps seat fallback : ℕ) → IsSeatOf seats seat
    → IsSeatOf seats fallback
    → IsSeatOf seats (unwrap_or (find occupied (walk step steps seat)) fallback)
walk_seat seats step occupied each zero seat fallback here other = other
walk_seat seats step occupied each (suc steps) seat fallback here other = by_test (occupied (step seat))
    (walk_seat seats step occupied each steps (step seat) fallback (each seat here) other)
  where
    by_test : (b : Bool) → IsSeatOf seats (unwrap_or (find occupied (walk step steps (step seat))) fallback)
        → IsSeatOf seats (unwrap_or (cond b (Some (step seat)) (find occupied (walk step steps (step seat)))) fallback)
    by_test true later = each seat here
    by_test false later = later

before_first : (seats seat : ℕ) → 1 ≤ seat → seat ≤ seats → 1 ≤ seat_before seats seat
before_first seats seat first last = grind (arith, nat_tests)

before_last : (seats seat : ℕ) → 1 ≤ seat → seat ≤ seats → seat_before seats seat ≤ seats
before_last seats seat first last = grind (arith, nat_tests)

-- The next occupied seat is a seat of the table.
pub next_seat : (seats : ℕ) (occupied : ℕ → Bool) (seat : ℕ) → IsSeatOf seats seat
    → IsSeatOf seats (next_occupied_after seats occupied seat)
next_seat seats occupied seat here =
    walk_seat seats (seat_after seats) occupied
    (λ seat here. let within = seat_after-within seats seat (omega (arith, here.first, here.last)) in
    record { first = within.0; last = within.1 })
    seats seat seat here here

-- The nearest occupied seat before one is a seat of the table.
pub nearest_seat : (seats : ℕ) (occupied : ℕ → Bool) (seat : ℕ) → IsSeatOf seats seat
    → IsSeatOf seats (nearest_occupied_before seats occupied seat)
nearest_seat seats occupied seat here =
    walk_seat seats (seat_before seats) occupied (λ seat here. record
    { first = before_first seats seat here.first here.last; last = before_last seats seat here.first here.last })
    seats seat seat here here

marks_of : (seats : ℕ) (marks : Marks) → IsSeatOf seats marks.button → IsSeatOf seats marks.small
    → IsSeatOf seats marks.big → AreMarksOf seats marks
marks_of seats marks button small big =
    record { button = (button.first, button.last); small = (small.first, small.last); big = (big.first, big.last) }

first_within : (occupied : List Bool) (seats : ℕ) → 1 ≤ seats → AreMarksOf seats (first_marks occupied seats)
first_within occupied seats some = by_test (is_heads_up occupied)
  where
    lowest : IsSeatOf seats (lowest_occupied seats (has_seat occupied))
    lowest = next_seat seats (has_seat occupied) seats (record { first = some; last = omega arith })

    by_test : (b : Bool) → AreMarksOf seats (record {
      button = lowest_occupied seats (has_seat occupied);
      small = cond b (lowest_occupied seats (has_seat occupied))
          (next_occupied_after seats (has_seat occupied) (lowest_occupied seats (has_seat occupied)));
      big = next_occupied_after seats (has_seat occupied) (cond b (lowest_occupied seats (has_seat occupied))
          (next_occupied_after seats (has_seat occupied) (lowest_occupied seats (has_seat occupied))));
    })
    by_test true = marks_of seats _ lowest lowest (next_seat seats (has_seat occupied) _ lowest)
    by_test false = marks_of seats _ lowest (next_seat seats (has_seat occupied) _ lowest)
        (next_seat seats (has_seat occupied) _ (next_seat seats (has_seat occupied) _ lowest))

moved_within : (old : Marks) (occupied : List Bool) (seats big : ℕ) → AreMarksOf seats old → IsSeatOf seats big
    → AreMarksOf seats (moved_marks old occupied seats big).marks
moved_within old occupied seats big marks at =
    elim (cases_Bool (leaves_fewer_than_three occupied (waiting_between occupied seats old.small old.big))) [
      | inl few ↦ rw few (marks_of seats _ (nearest_seat seats (has_seat occupied) old.big small) small at)
      | inr many ↦ rw many (marks_of seats _ (record { first = marks.small.0; last = marks.small.1 }) small at)
    ]
  where
    small : IsSeatOf seats old.big
    small = record { first = marks.big.0; last = marks.big.1 }

-- The next marks are seats of the table, where the old ones were.
pub marks-within : (old : Option Marks) (occupied : List Bool) (seats : ℕ) → 1 ≤ seats → ForSome old (AreMarksOf seats)
    → AreMarksOf seats (marks_after old occupied seats).marks
marks-within None occupied seats some before = first_within occupied seats some
marks-within (Some old) occupied seats some before = by_test (is_heads_up occupied)
  where
    big : IsSeatOf seats (next_occupied_after seats (has_seat occupied) old.big)
    big = next_seat seats (has_seat occupied) old.big (let marks = before old refl in record
        { first = marks.big.0; last = marks.big.1 })

    by_test : (b : Bool)
        → AreMarksOf seats (cond b (record {
          marks = heads_up_marks occupied seats (next_occupied_after seats (has_seat occupied) old.big);
          waiting
              = no_seats;
        }) (moved_marks old occupied seats
        (next_occupied_after seats (has_seat occupied) old.big))).marks
    by_test true = marks_of seats _ (next_seat seats (has_seat occupied) _ big)
        (next_seat seats (has_seat occupied) _ big) big
    by_test false = moved_within old occupied seats _ (before old refl) big
