-- The button, the blinds and who waits. Robert's Rules of Poker and the Poker TDA Rules: the button is dead, so the big
-- blind goes to the player due for it, and the small blind and the button are placed behind it even at an empty seat.
use Rattle.std.specs.Prelude.{ℕ, ◌+◌, ◌≤◌, Bool, not, ◌==◌, if◌then◌else◌, nat_lt, List, Option, Some, None, filter, take_while}
use Rattle.rulebook.specs.Seats.{clockwise_after, next_occupied_after, nearest_occupied_before, lowest_occupied}
use Rattle.button_blinds.specs.SeatSets.{no_seats, has_seat, with_seats, seat_count}
use Rattle.button_blinds.specs.declared.marks.Marks.{Marks}
use Rattle.button_blinds.specs.declared.marks.NextMarks.{NextMarks}

-- A mark is one of the seats 1 to so many.
pub record AreMarksOf (seats : ℕ) (marks : Marks) : Type 0 where
  pub button : (1 ≤ marks.button) × (marks.button ≤ seats)
  pub small : (1 ≤ marks.small) × (marks.small ≤ seats)
  pub big : (1 ≤ marks.big) × (marks.big ≤ seats)

-- Two players sit at the table.
abbrev pub is_heads_up : List Bool → Bool
is_heads_up occupied = seat_count occupied == 2

-- A table's first hand: the button is at the lowest occupied seat (this project's own). With two players the other is
-- big and the button is also small; with more, small is the next occupied seat after the button and big the next
-- occupied after small.
abbrev pub first_marks : List Bool → ℕ → Marks
first_marks occupied seats =
    let button = lowest_occupied seats (has_seat occupied) in
    let small = if is_heads_up occupied then button else next_occupied_after seats (has_seat occupied) button in
    record { button = button; small = small; big = next_occupied_after seats (has_seat occupied) small }

-- The next big blind: at a first hand that of the first marks, later the next occupied seat after the old big.
abbrev pub big_after : Option Marks → List Bool → ℕ → ℕ
big_after None occupied seats = (first_marks occupied seats).big
big_after (Some old) occupied seats = next_occupied_after seats (has_seat occupied) old.big

-- The players who sit at the seats of a list that come before this one.
abbrev pub players_before : List Bool → ℕ → List ℕ → List ℕ
players_before occupied seat seats_in_order =
    filter (has_seat occupied) (take_while (λ other. not (other == seat)) seats_in_order)

-- The players strictly between button and small, clockwise, wait until the button has passed them (the Poker TDA Rules:
-- there alone a player who came is not dealt in).
abbrev pub waiting_between : List Bool → ℕ → ℕ → ℕ → List Bool
waiting_between occupied seats button small =
    with_seats no_seats (players_before occupied small (clockwise_after seats button))

-- With these players waiting, fewer than three would be dealt in.
abbrev pub leaves_fewer_than_three : List Bool → List Bool → Bool
leaves_fewer_than_three occupied waiting = nat_lt (seat_count occupied) (seat_count waiting + 3)

-- Two players in a later hand: the one who is not big is small and has the button (the Poker TDA Rules: heads up the
-- small blind is on the button).
abbrev pub heads_up_marks : List Bool → ℕ → ℕ → Marks
heads_up_marks occupied seats big =
    let small = next_occupied_after seats (has_seat occupied) big in
    record { button = small; small = small; big = big }

-- Three or more players in a later hand: small is the old big's seat and the button the old small's seat, occupied or
-- not, and players strictly between the two wait. If fewer than three would then be dealt in, nobody waits and the
-- button is the nearest occupied seat before small (this project's own).
abbrev pub moved_marks : Marks → List Bool → ℕ → ℕ → NextMarks
moved_marks old occupied seats big =
    let waiting = waiting_between occupied seats old.small old.big in
    if leaves_fewer_than_three occupied waiting
    then record {
      marks = record {
        button = nearest_occupied_before seats (has_seat occupied) old.big;
        small = old.big;
        big = big;
      };
      waiting = no_seats;
    }
    else record { marks = record { button = old.small; small = old.big; big = big }; waiting = waiting }

-- The marks and who waits at the next hand, by the marks of the hand before, if there was one, and by who sits where.
abbrev pub marks_after : Option Marks → List Bool → ℕ → NextMarks
marks_after None occupied seats = record { marks = first_marks occupied seats; waiting = no_seats }
marks_after (Some old) occupied seats =
    let big = big_after (Some old) occupied seats in
    if is_heads_up occupied
    then record { marks = heads_up_marks occupied seats big; waiting = no_seats }
    else moved_marks old occupied seats big
