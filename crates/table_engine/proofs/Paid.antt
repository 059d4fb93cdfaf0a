-- What a player gets is within what all get.
use Rattle.std.proofs.Common.{ℕ, ◌-◌, ◌≤◌, Bool, true, false, List, sum, arith, length, inl, inr}
use Rattle.std.specs.Prelude.{slice_index_or}
use Rattle.std.proofs.lemmas.Bool.{cases_lt}
use Rattle.std.proofs.lemmas.List.{get_or_past}
use Rattle.std.proofs.lemmas.List.Sums.{get_or-le-sum_by}
use Rattle.table_engine.specs.declared.awards.Awards.{Awards}
use Rattle.table_engine.specs.declared.awards.Awards.TheVariants.{Sole, BySeat}
use Rattle.table_engine.specs.Awards.{award_in, most_awarded}

number-within : (numbers : List ℕ) (index : ℕ) → slice_index_or numbers index 0 ≤ sum numbers
number-within numbers index =
    elim (cases_lt index (length numbers)) [
      | inl within ↦ get_or-le-sum_by (λ (n : ℕ). n) numbers index 0 within
      | inr past ↦ omega (arith, get_or_past numbers index 0 past)
    ]

-- What the player in a seat gets is at most all that is awarded.
pub award-most : (awards : Awards) (seat : ℕ) (live : Bool) → award_in awards seat live ≤ most_awarded awards
award-most (Sole pot) seat true = omega arith
award-most (Sole pot) seat false = omega arith
award-most (BySeat awards) seat live = number-within awards (seat - 1)
