-- How unevenly the players sit at the tables, and balances that follow one another. This project's own.
use Rattle.std.specs.Prelude.{ℕ, ◌*◌, List, [], ◌∷◌, sum_by}
use Rattle.seat_book.specs.Counts.{count_at, table_numbers}
use Rattle.seat_book.specs.Seatings.{Seating, IsSeating}
use Rattle.balance_rule.specs.declared.balance.Move.{Move}
use Rattle.balance_rule.specs.Balance.{after_move}
use Rattle.balance_rule.specs.Moves.{Balance, IsLawfulMove}

-- The square of a table's count.
abbrev pub count_squared : Seating → ℕ → ℕ
count_squared seating table = count_at seating.players table * count_at seating.players table

-- How unevenly the players sit: the sum of the squares of the tables' counts.
unfoldable pub spread : Seating → ℕ
spread seating = sum_by (count_squared seating) (table_numbers seating.table_count)

-- A balance, with the move of its player.
pub record Balancing : Type 0 where
  pub from : ℕ
  pub to : ℕ
  pub carried : Move

-- Balances follow one another from a seating: each is lawful where those before it lead.
abbrev pub AreBalances : Seating → List Balancing → Type 0
AreBalances seating [] = Unit {0}
AreBalances seating (one ∷ more) =
    IsSeating seating
    × (IsLawfulMove seating (Balance one.from one.to one.carried)
    × AreBalances (after_move one.carried seating) more)
