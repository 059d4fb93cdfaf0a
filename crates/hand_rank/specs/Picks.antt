-- The highest rank that passes a test. This project's own.
use Rattle.std.specs.Prelude.{ℕ, zero, suc, Bool, ◌==◌, cond, Option, Some, None}

-- the highest number below a bound that passes a test
unfoldable pub highest_below : (ℕ → Bool) → ℕ → Option ℕ
highest_below test zero = None
highest_below test (suc n) = cond (test n) (Some n) (highest_below test n)

-- how often ranks occur without one of them
abbrev pub without : ℕ → (ℕ → ℕ) → ℕ → ℕ
without rank count r = cond (r == rank) 0 (count r)
