-- A walk over the tables by number, until one passes a test.
use Rattle.std.proofs.Common.{◌≡◌, ◌∙◌, sym, ap, ℕ, suc, ◌+◌, ◌-◌, ◌<◌, ◌≤◌, Bool, true, false}
use Rattle.std.proofs.Math.Nat.{sub-zero}
use Rattle.std.specs.Prelude.{◌&&◌, ◌||◌, nat_lt}
use Rattle.std.specs.List.{list_any}
use Rattle.rulebook.specs.Seats.{walk}
use Rattle.seat_book.specs.Counts.{count_at, table_numbers}
use Rattle.tournament_rules.specs.Books.{BookState}
use Rattle.tournament_rules.specs.Checks.{may_be_entered}
use Rattle.seat_book.proofs.TableWalks.{any-next, tables-over}

-- some of the tables that are left pass a test
abbrev pub any_left : (ℕ → Bool) → ℕ → ℕ → Bool
any_left test tables below = list_any test (walk suc (tables - below) below)

-- a table may be entered and has fewer players than another
abbrev pub has_fewer : BookState → ℕ → ℕ → Bool
has_fewer book table other =
    may_be_entered book other
    && nat_lt (count_at book.seating.players other) (count_at book.seating.players table)

-- At first all are left.
pub left-first : (test : ℕ → Bool) (tables : ℕ) → any_left test tables 0 ≡ list_any test (table_numbers tables)
left-first test tables = ap (λ (n : ℕ). list_any test (walk suc n 0)) (sub-zero tables)

-- The next passes.
pub left-found : (test : ℕ → Bool) (tables below : ℕ) (all : Bool) → any_left test tables below ≡ all
    → below < tables → test (below + 1) ≡ true → true ≡ all
left-found test tables below all is within passes =
    let next : any_left test tables below ≡ true = any-next test tables below within
    ∙ ap (λ (b : Bool). b || any_left test tables (below + 1)) passes in
    sym next ∙ is

-- The next does not pass.
pub left-next : (test : ℕ → Bool) (tables below : ℕ) (all : Bool) → any_left test tables below ≡ all
    → below < tables → test (below + 1) ≡ false → any_left test tables (below + 1) ≡ all
left-next test tables below all is within fails =
    let next : any_left test tables below ≡ any_left test tables (below + 1) = any-next test tables below within
    ∙ ap (λ (b : Bool). b || any_left test tables (below + 1)) fails in
    sym next ∙ is

-- None is left.
pub left-none : (test : ℕ → Bool) (tables below : ℕ) (all : Bool) → any_left test tables below ≡ all
    → tables ≤ below → false ≡ all
left-none test tables below all is over = sym (ap (list_any test) (tables-over tables below over)) ∙ is
