-- Big is a player's seat, and only players wait.
use Rattle.std.proofs.Common.{ℕ, ◌≤◌, List, [], ◌∷◌, Bool, inl, inr, arith}
use Rattle.std.specs.Prelude.{IsTrue, ◌==◌, not, filter, take_while}
use Rattle.std.proofs.lemmas.Bool.{cases_Bool}
use Rattle.rulebook.specs.Seats.{clockwise_after, next_occupied_after}
use Rattle.rulebook.proofs.OccupiedSeats.{next_occupied_after-occupied}
use Rattle.button_blinds.specs.SeatSets.{no_seats, has_seat, with_seat, with_seats, seat_count, AreSeatsOf}
use Rattle.button_blinds.specs.Marks.{first_marks, waiting_between}
use Rattle.button_blinds.proofs.SeatSetLaws.{some-seat, has_seat-with_seat, no_seats-none}

-- At a table with players, the next occupied seat is a player's.
pub next-sits : (occupied : List Bool) (seats seat : ℕ) → AreSeatsOf seats occupied → 2 ≤ seat_count occupied
    → seat ≤ seats
    → IsTrue (has_seat occupied (next_occupied_after seats (has_seat occupied) seat))
next-sits occupied seats seat table players at =
    let player = some-seat occupied (omega arith) in
    next_occupied_after-occupied (has_seat occupied) seats seat player.0 at player.1
    (table.within player.0 player.2) player.2

-- A seat that is in a set after the players of a list are put in was in it or is a player's.
pub with_seats-sit : (occupied set : List Bool) (order : List ℕ)
    → ((seat : ℕ) → IsTrue (has_seat set seat) → IsTrue (has_seat occupied seat))
    → (seat : ℕ) → IsTrue (has_seat (with_seats set (filter (has_seat occupied) order)) seat)
    → IsTrue (has_seat occupied seat)
with_seats-sit occupied set [] before seat is = before seat is
with_seats-sit occupied set (next ∷ more) before seat is =
    elim (cases_Bool (has_seat occupied next)) [
      | inl sits ↦
          with_seats-sit occupied (with_seat set next) more
          (λ other there. elim (has_seat-with_seat set next other there)
          [ inl same ↦ rw same sits | inr was ↦ before other was ])
          seat (rw sits at is)
      | inr empty ↦ with_seats-sit occupied set more before seat (rw empty at is)
    ]

-- Only players wait.
pub waiting_between-sit : (occupied : List Bool) (seats button small seat : ℕ)
    → IsTrue (has_seat (waiting_between occupied seats button small) seat) → IsTrue (has_seat occupied seat)
waiting_between-sit occupied seats button small seat is =
    with_seats-sit occupied no_seats (take_while (λ other. not (other == small)) (clockwise_after seats button))
    (λ other there. let none = no_seats-none other in absurd cc) seat is

-- At a first hand big is a player's seat.
pub first-big-sits : (occupied : List Bool) (seats : ℕ) → AreSeatsOf seats occupied → 2 ≤ seat_count occupied
    → (first_marks occupied seats).small ≤ seats
    → IsTrue (has_seat occupied (first_marks occupied seats).big)
first-big-sits occupied seats table players at =
    next-sits occupied seats (first_marks occupied seats).small table players at
