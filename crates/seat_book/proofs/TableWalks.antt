-- A walk over the tables by number, a table at a time.
use Rattle.std.proofs.Common.{◌≡◌, ◌∙◌, sym, ap, ℕ, suc, ◌+◌, ◌-◌, ◌<◌, ◌≤◌, Bool, [], ◌∷◌, add-one, arith}
use Rattle.std.specs.Prelude.{◌||◌}
use Rattle.std.specs.List.{list_any}
use Rattle.rulebook.specs.Seats.{walk}
use Rattle.rulebook.proofs.Walks.{walk-next}

-- While tables are left, the walk goes to the next.
pub tables-next : (tables below : ℕ) → below < tables
    → walk suc (tables - below) below ≡ (below + 1) ∷ walk suc (tables - (below + 1)) (below + 1)
tables-next tables below within = walk-next suc tables below below within
    ∙ ap (λ (n : ℕ). n ∷ walk suc (tables - (below + 1)) n) (sym (add-one below))

-- While tables are left, some passes a test where the next does or one of the rest.
pub any-next : (test : ℕ → Bool) (tables below : ℕ) → below < tables
    → list_any test (walk suc (tables - below) below)
    ≡ (test (below + 1) || list_any test (walk suc (tables - (below + 1)) (below + 1)))
any-next test tables below within = ap (list_any test) (tables-next tables below within)

-- No table is left once all are passed.
pub tables-over : (tables below : ℕ) → tables ≤ below → walk suc (tables - below) below ≡ []
tables-over tables below over = let none : tables - below ≡ 0 = omega arith in ap (λ (n : ℕ). walk suc n below) none
