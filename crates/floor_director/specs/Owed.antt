-- The order that the floor owes, among all lawful moves. This project's own.
use Rattle.std.specs.Prelude.{◌≡◌, ◌≤◌, ℕ, List, Option, None, Some}
use Rattle.seat_book.specs.declared.place.Place.{Place}
use Rattle.seat_book.specs.Seatings.{Seating}
use Rattle.balance_rule.specs.declared.balance.Move.{Move}
use Rattle.balance_rule.specs.Filling.{fill_seats, names_at}
use Rattle.balance_rule.specs.Moves.{FloorMove, IsLawfulMove}
use Rattle.balance_rule.specs.Moves.{Balance as ByBalance, Break as ByBreak}
use Rattle.break_draw.specs.declared.random.DrawKind.TheVariants.{Seats, Names}
use Rattle.break_draw.specs.Generator.{drawn_order}
use Rattle.tournament_events.specs.declared.event.Event.{Event}
use Rattle.tournament_events.specs.declared.event.Event.TheVariants as events

-- A break is lawful, and its orders are those of the draw.
pub record IsOwedBreak (seating : Seating) (seed : List ℕ) (number table : ℕ) (seats : List Place)
    (names : List (List ℕ)) : Type 0 where
  pub lawful : IsLawfulMove seating (ByBreak table seats names)
  -- the seats of its fill list, in the order of the draw
  pub fill : (chosen : List Place)
      × ((fill_seats seating table ≡ Some chosen) × (seats ≡ drawn_order seed Seats number chosen))
  -- the names of its players in rising seat, in an order of their own
  pub players : names ≡ drawn_order seed Names number (names_at seating table)

-- A balance of two tables is lawful, and it is the first.
pub record IsOwedBalance (seating : Seating) (from to : ℕ) : Type 0 where
  -- no break is lawful
  pub no_break : (table : ℕ) (seats : List Place) (names : List (List ℕ))
      → ¬ IsLawfulMove seating (ByBreak table seats names)
  pub lawful : (move_ : Move) × IsLawfulMove seating (ByBalance from to move_)
  -- no lawful balance is from a table with a lower number
  pub lowest_from : (other another : ℕ) (move_ : Move) → IsLawfulMove seating (ByBalance other another move_)
      → from ≤ other
  -- and none from the same table is to one with a lower number
  pub lowest_to : (another : ℕ) (move_ : Move) → IsLawfulMove seating (ByBalance from another move_) → to ≤ another

-- What the floor owes next: the lawful break where one is; else the lawful balance from the lowest table, and of these
-- the one to the lowest; nothing exactly where no move is lawful.
abbrev pub IsNextOrder : Seating → List ℕ → ℕ → Option Event → Type 0
IsNextOrder seating seed number None = (move : FloorMove) → ¬ IsLawfulMove seating move
IsNextOrder seating seed number (Some (events.Break table seats names)) =
    IsOwedBreak seating seed number table seats names
IsNextOrder seating seed number (Some (events.Balance from to)) = IsOwedBalance seating from to
IsNextOrder seating seed number (Some order) = ⊥
