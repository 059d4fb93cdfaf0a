-- What holds of the next marks, whatever the old ones were.
use Rattle.std.proofs.Common.{◌≡◌, ◌∙◌, ℕ, ◌+◌, ◌≤◌, List, Bool, true, false, cond, refl, sym, arith}
use Rattle.std.specs.Prelude.{Option, Some, None, IsTrue, nat_lt}
use Rattle.std.specs.Option.{ForSome}
use Rattle.std.proofs.lemmas.Bool.Decides.{nat_tests}
use Rattle.rulebook.specs.Seats.{next_occupied_after, lowest_occupied}
use Rattle.button_blinds.specs.SeatSets.{no_seats, has_seat, seat_count, AreSeatsOf}
use Rattle.button_blinds.specs.Marks.{AreMarksOf, is_heads_up, first_marks, heads_up_marks, moved_marks, marks_after, waiting_between, leaves_fewer_than_three}
use Rattle.button_blinds.specs.declared.marks.Marks.{Marks}
use Rattle.button_blinds.specs.declared.marks.NextMarks.{NextMarks}
use Rattle.button_blinds.proofs.SeatSetLaws.{no_seats-none}
use Rattle.button_blinds.proofs.WhoPlays.{next-sits}
use Rattle.button_blinds.proofs.Distances.{IsSeat, seat_low}
use Rattle.button_blinds.proofs.BigPlays.{big-plays, next-apart}

-- What holds of the next marks, and of who waits.
pub record AreFit (occupied : List Bool) (next : NextMarks) : Type 0 where
  pub big_sits : IsTrue (has_seat occupied next.marks.big)
  pub big_plays : has_seat next.waiting next.marks.big ≡ false
  pub apart : next.marks.small ≡ next.marks.big → ⊥
  pub two_play : seat_count next.waiting + 2 ≤ seat_count occupied

-- With two players or more at a table, the next occupied seat after any seat is one of the table's.
pub next-seat : (occupied : List Bool) (seats seat : ℕ) → AreSeatsOf seats occupied → 2 ≤ seat_count occupied
    → seat ≤ seats → IsSeat seats (next_occupied_after seats (has_seat occupied) seat)
next-seat occupied seats seat table players at =
    let sits = next-sits occupied seats seat table players at in (
      seat_low occupied (next_occupied_after seats (has_seat occupied) seat) sits,
      table.within
          (next_occupied_after seats (has_seat occupied) seat) sits,
    )

-- Where big is the next occupied seat after small, and nobody waits.
nobody-waits : (occupied : List Bool) (seats : ℕ) (marks : Marks) → AreSeatsOf seats occupied → 2 ≤ seat_count occupied
    → IsSeat seats marks.small → marks.big ≡ next_occupied_after seats (has_seat occupied) marks.small
    → AreFit occupied (record { marks = marks; waiting = no_seats })
nobody-waits occupied seats marks table players small is = record {
  big_sits = rw is (next-sits occupied seats marks.small table players small.1);
  big_plays = no_seats-none marks.big;
  apart = λ same. next-apart occupied seats marks.small table players small (sym is ∙ sym same);
  two_play = omega (arith, players);
}

first-small : (occupied : List Bool) (seats : ℕ) → AreSeatsOf seats occupied → 2 ≤ seat_count occupied
    → IsSeat seats (first_marks occupied seats).small
first-small occupied seats table players = by_test (is_heads_up occupied)
  where
    by_test : (b : Bool) → IsSeat seats
        (cond b (lowest_occupied seats (has_seat occupied))
        (next_occupied_after seats (has_seat occupied) (lowest_occupied seats (has_seat occupied))))
    by_test true = next-seat occupied seats seats table players (omega arith)
    by_test false = next-seat occupied seats (lowest_occupied seats (has_seat occupied)) table players
        (next-seat occupied seats seats table players (omega arith)).1

-- With two players big is the next occupied seat after the old big, and small is the other.
pub heads-up-fit : (occupied : List Bool) (seats big : ℕ) → AreSeatsOf seats occupied → 2 ≤ seat_count occupied
    → IsSeat seats big → IsTrue (has_seat occupied big)
    → AreFit occupied (record { marks = heads_up_marks occupied seats big; waiting = no_seats })
heads-up-fit occupied seats big table players at sits = record {
  big_sits = sits;
  big_plays = no_seats-none big;
  apart = λ same. next-apart occupied seats big table players at same;
  two_play = omega (arith, players);
}

-- Where the marks of the hand before move on, big sits and plays, small is another seat, and at least two play.
pub moved-fit : (occupied : List Bool) (old : Marks) (seats : ℕ) → seats ≤ 10 → AreSeatsOf seats occupied
    → 2 ≤ seat_count occupied → AreMarksOf seats old
    → AreFit occupied (moved_marks old occupied seats (next_occupied_after seats (has_seat occupied) old.big))
moved-fit occupied old seats most table players marks =
    by_test (leaves_fewer_than_three occupied (waiting_between occupied seats old.small old.big)) refl
  where
    enough : (players waiting : ℕ) → nat_lt players (waiting + 3) ≡ false → waiting + 2 ≤ players
    enough players waiting many = grind (arith, nat_tests)

    by_test : (b : Bool) → leaves_fewer_than_three occupied (waiting_between occupied seats old.small old.big) ≡ b
        → AreFit occupied (moved_marks old occupied seats (next_occupied_after seats (has_seat occupied) old.big))
    by_test true few = rw few (nobody-waits occupied seats _ table players marks.big refl)
    by_test false many = rw many (record {
      big_sits = next-sits occupied seats old.big table players marks.big.1;
      big_plays = big-plays occupied old seats most table players marks many;
      apart = λ same. next-apart occupied seats old.big table players marks.big (sym same);
      two_play = enough (seat_count occupied) (seat_count (waiting_between occupied seats old.small old.big)) many;
    })

-- The big blind sits and plays, the small mark is another seat, and at least two play.
pub marks-fit : (old : Option Marks) (occupied : List Bool) (seats : ℕ) → seats ≤ 10 → AreSeatsOf seats occupied
    → 2 ≤ seat_count occupied → ForSome old (AreMarksOf seats) → AreFit occupied (marks_after old occupied seats)
marks-fit None occupied seats most table players marks =
    nobody-waits occupied seats (first_marks occupied seats) table players
    (first-small occupied seats table players) refl
marks-fit (Some old) occupied seats most table players marks = by_test (is_heads_up occupied)
  where
    by_test : (b : Bool) → AreFit occupied
        (cond b (record {
          marks =
              heads_up_marks occupied seats (next_occupied_after seats (has_seat occupied) old.big);
          waiting = no_seats;
        })
        (moved_marks old occupied seats (next_occupied_after seats (has_seat occupied) old.big)))
    by_test true =
        let at = marks old refl in
        heads-up-fit occupied seats (next_occupied_after seats (has_seat occupied) old.big) table players
        (next-seat occupied seats old.big table players at.big.1)
        (next-sits occupied seats old.big table players at.big.1)
    by_test false = moved-fit occupied old seats most table players (marks old refl)
