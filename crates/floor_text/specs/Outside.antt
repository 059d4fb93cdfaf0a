-- The outside: where bytes come from and go to, and how often it failed. This project's own.
use Rattle.std.specs.Prelude.{◌≡◌, ℕ, ◌<◌, ◌≤◌, ◌⊎◌, ◌++◌, List, length, take, drop, Option, Some, Result, IsErr, MatchResult}

-- the last value of a count, where it can rise no more
abbrev pub last_count : ℕ
last_count = 18446744073709551615

-- A count of faults rose: it is greater than before, or it stands at its last value, where it can rise no more.
abbrev pub Rose : ℕ → ℕ → Type 0
Rose before now = (before < now) ⊎ (last_count ≤ now)

-- A failure has its cause in this very object: its count never falls, and it rose where the call failed.
pub record HasCause {T E : Type 0} (before now : ℕ) (result : Result T E) : Type 0 where
  pub later : before ≤ now
  pub failed : IsErr result → Rose before now

-- what a source that tells its bytes does in a take of n bytes into a buffer: they are its first, at the front
pub record Takes (old : List ℕ) (new : Option (List ℕ)) (buffer : List ℕ) (n : ℕ) : Type 0 where
  pub within : n ≤ length old
  pub rest : new ≡ Some (drop n old)
  pub given : take n buffer ≡ take n old
  -- none come only at the end, or where there is no room
  pub at_end : n ≡ 0 → (length buffer ≡ 0) ⊎ (length old ≡ 0)

-- what a sink that tells its bytes has after a put: all of the bytes, or where it failed a front of them
abbrev pub Puts : {E : Type 0} → List ℕ → List ℕ → Option (List ℕ) → Result (Unit {0}) E → Type 0
Puts old bytes new result =
    MatchResult result (λ _. new ≡ Some (old ++ bytes)) (λ _. (n : ℕ) × (new ≡ Some (old ++ take n bytes)))

-- bytes that end with these
abbrev pub EndsWith : List ℕ → List ℕ → Type 0
EndsWith bytes last = (front : List ℕ) × (bytes ≡ front ++ last)
