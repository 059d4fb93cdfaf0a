-- Histories: lists of entries, each with the number of its caller.
use Rattle.std.specs.Prelude.{◌≡◌, ◌==◌, ℕ, ◌<◌, List, [], ◌++◌, All, filter}

module _ {E : Type 0} (caller_of : E → ℕ) where
  -- The entries of caller k, in order.
  abbrev pub entries_by : ℕ → List E → List E
  entries_by k log = filter (λ e. caller_of e == k) log

  -- The later history is the earlier one with entries of caller k alone added to it.
  abbrev pub IsGrownBy : ℕ → List E → List E → Type 0
  IsGrownBy k before after = (added : List E) × (after ≡ before ++ added) × All (λ e. caller_of e ≡ k) added

  -- The later history is the earlier one with entries of callers below n alone added to it.
  abbrev pub IsGrownByPasses : ℕ → List E → List E → Type 0
  IsGrownByPasses n before after = (added : List E) × (after ≡ before ++ added) × All (λ e. caller_of e < n) added

  -- The later history is the earlier one, to which callers other than k alone have added.
  abbrev pub IsGrownByOthers : ℕ → List E → List E → Type 0
  IsGrownByOthers k before after = (added : List E) × (after ≡ before ++ added) × (entries_by k added ≡ [])
