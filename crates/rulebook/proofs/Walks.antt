-- What a walk finds and has, and what is left of it after each step.
use Rattle.std.proofs.Common.{◌≡◌, ◌∙◌, refl, ℕ, zero, suc, ◌+◌, ◌-◌, ◌<◌, ◌∷◌, length, get_or, Bool, true, false, Some, ap, arith}
use Rattle.std.specs.Prelude.{find, unwrap_or}
use Rattle.rulebook.specs.Seats.{walk}

-- While steps are left, the walk goes to the next seat and has one step less.
pub walk-next : (step : ℕ → ℕ) (steps taken seat : ℕ) → taken < steps
    → walk step (steps - taken) seat ≡ step seat ∷ walk step (steps - (taken + 1)) (step seat)
walk-next step steps taken seat within =
    let left : steps - taken ≡ suc (steps - (taken + 1)) = omega arith in
    ap (λ (n : ℕ). walk step n seat) left

-- While steps are left, a walk whose next seat passes a test finds that seat.
pub find_found : (test : ℕ → Bool) (step : ℕ → ℕ) (steps taken seat : ℕ) → taken < steps → test (step seat) ≡ true
    → find test (walk step (steps - taken) seat) ≡ Some (step seat)
find_found test step steps taken seat within found = rw (walk-next step steps taken seat within, found)

-- While steps are left, a walk whose next seat fails a test finds what the rest of it finds.
pub find_passed : (test : ℕ → Bool) (step : ℕ → ℕ) (steps taken seat : ℕ) → taken < steps → test (step seat) ≡ false
    → find test (walk step (steps - taken) seat) ≡ find test (walk step (steps - (taken + 1)) (step seat))
find_passed test step steps taken seat within passed = rw (walk-next step steps taken seat within, passed)

-- A walk whose first seat is not occupied finds what the rest of it finds.
pub walk-passed : (occupied : ℕ → Bool) (step : ℕ → ℕ) (steps taken seat fallback : ℕ) → taken < steps
    → occupied (step seat) ≡ false
    → unwrap_or (find occupied (walk step (steps - taken) seat)) fallback
    ≡ unwrap_or (find occupied (walk step (steps - (taken + 1)) (step seat))) fallback
walk-passed occupied step steps taken seat fallback within passed =
    ap (λ found. unwrap_or found fallback) (find_passed occupied step steps taken seat within passed)

-- A walk that counts up has so many steps.
pub length-walk : (steps from : ℕ) → length (walk suc steps from) ≡ steps
length-walk zero from = refl
length-walk (suc steps) from = ap suc (length-walk steps (suc from))

-- At each index of a walk that counts up is the number that comes so many after the first.
pub get_or-walk : (steps from index other : ℕ) → index < steps
    → get_or (walk suc steps from) index other ≡ suc (from + index)
get_or-walk zero from index other within = absurd (omega arith)
get_or-walk (suc steps) from zero other within = omega arith
get_or-walk (suc steps) from (suc index) other within =
    get_or-walk steps (suc from) index other (omega arith) ∙ omega arith
