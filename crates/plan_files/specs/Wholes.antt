-- A source that is read to its end. This project's own.
use Rattle.std.specs.Prelude.{◌≡◌, ◌↔◌, ℕ, ◌<◌, ◌≤◌, List, length, drop, Option, Some}

-- of a source that had some bytes left so many were taken, the first ones, and these are more than a limit exactly
-- where it says so
pub record TakesUpTo (limit : ℕ) (old : List ℕ) (new : Option (List ℕ)) (IsTooLong : Type 0) : Type 0 where
  pub taken : ℕ
  pub within : taken ≤ length old
  pub rest : new ≡ Some (drop taken old)
  pub too_long : IsTooLong ↔ (limit < taken)
