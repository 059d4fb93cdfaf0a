-- Lawful moves: a balance of two tables, and the break of one. This project's own.
use Rattle.std.specs.Prelude.{◌≡◌, ◌<◌, ◌≤◌, ◌+◌, ℕ, true, false, List, Some, IsPermutation}
use Rattle.seat_book.specs.declared.place.Place.{Place}
use Rattle.seat_book.specs.Places.{IsTableOf}
use Rattle.seat_book.specs.Counts.{count_at, is_open}
use Rattle.seat_book.specs.Tables.{status_at}
use Rattle.seat_book.specs.Seatings.{Seating, is_race_pending, is_round_open}
use Rattle.balance_rule.specs.declared.balance.Move.{Move}
use Rattle.balance_rule.specs.Balance.{balance_move}
use Rattle.balance_rule.specs.Filling.{fill_seats, names_at}

-- A move of the floor: a balance from one table to another with the move of its player, or the break of a table with
-- an order of the seats to fill and an order of its players' names.
pub data FloorMove : Type 0 where
  Balance : ℕ → ℕ → Move → FloorMove
  Break : ℕ → List Place → List (List ℕ) → FloorMove

-- A table has at least one player, and plays no hand.
pub record IsFreeTable (seating : Seating) (table : ℕ) : Type 0 where
  pub number : IsTableOf seating.table_count table
  pub opened : is_open seating.players table ≡ true
  pub playing : (status_at seating.tables table).playing ≡ false

-- A lawful balance.
pub record IsLawfulBalance (seating : Seating) (from to : ℕ) (move_ : Move) : Type 0 where
  -- the one table is open and is not playing
  pub free : IsFreeTable seating from
  -- no open table has more players than it
  pub fullest : (other : ℕ) → IsTableOf seating.table_count other → is_open seating.players other ≡ true
      → count_at seating.players other ≤ count_at seating.players from
  -- the other is open
  pub number : IsTableOf seating.table_count to
  pub opened : is_open seating.players to ≡ true
  -- no open table has fewer players than it
  pub fewest : (other : ℕ) → IsTableOf seating.table_count other → is_open seating.players other ≡ true
      → count_at seating.players to ≤ count_at seating.players other
  -- their counts differ by two or more
  pub gap : count_at seating.players to + 2 ≤ count_at seating.players from
  -- and the next big blind of the one moves to the worst empty seat of the other
  pub carried : balance_move seating from to ≡ Some move_

-- A lawful break.
pub record IsLawfulBreak (seating : Seating) (table : ℕ) (seats : List Place) (names : List (List ℕ))
    : Type 0 where
  -- the table is open and is not playing
  pub free : IsFreeTable seating table
  -- no open table has a higher number
  pub last : (other : ℕ) → IsTableOf seating.table_count other → table < other
      → is_open seating.players other ≡ false
  -- there is room, and the seats are those of the fill list in some order
  pub fill : (chosen : List Place) × ((fill_seats seating table ≡ Some chosen) × IsPermutation chosen seats)
  -- and the names are those of the table's players in some order
  pub players : IsPermutation (names_at seating table) names

abbrev pub IsLawfulOf : Seating → FloorMove → Type 0
IsLawfulOf seating (Balance from to move_) = IsLawfulBalance seating from to move_
IsLawfulOf seating (Break table seats names) = IsLawfulBreak seating table seats names

-- A lawful move: a lawful balance or a lawful break, while no race is pending at any table and no table has begun in
-- a round of hand-for-hand.
pub record IsLawfulMove (seating : Seating) (move : FloorMove) : Type 0 where
  pub no_race : is_race_pending seating ≡ false
  pub no_round : is_round_open seating ≡ false
  pub lawful : IsLawfulOf seating move
