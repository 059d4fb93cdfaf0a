-- Pots of whole units.
use Rattle.std.proofs.Common.{◌≡◌, ℕ, ◌+◌, ◌%◌, List, [], ◌∷◌, ◌++◌, Bool, true, min}
use Rattle.std.specs.Prelude.{◌==◌}
use Rattle.std.specs.List.{list_any}
use Rattle.std.proofs.lemmas.Bool.{and_parts, eq-eqb, eqb-true}
use Rattle.rulebook.proofs.Multiples.{multiple-add, multiple-min, multiple-sum}
use Rattle.rulebook.proofs.Tests.{list_all-follows}
use Rattle.pot_layers.specs.declared.put.Put.{Put}
use Rattle.pot_layers.specs.declared.pot_list.Pot.{Pot}
use Rattle.pot_layers.specs.Tallies.{total_put, total_to}
use Rattle.pot_layers.specs.PotTests.{are_whole_pots, are_whole_puts}
use Rattle.pot_layers.proofs.Heights.{is_live_at, live_at-passes}

-- What is put in up to a height that is a multiple of the unit is one.
pub total_to-whole : (puts : List Put) (height unit : ℕ) → are_whole_puts unit puts ≡ true → height % unit ≡ 0
    → total_to puts height % unit ≡ 0
total_to-whole puts height unit whole level =
    multiple-sum unit (λ (put : Put). min put.amount height) puts
    (list_all-follows (λ (put : Put). put.amount % unit == 0) (λ put. min put.amount height % unit == 0) puts
    (λ put own. eq-eqb (min put.amount height % unit) 0
    (multiple-min unit put.amount height (eqb-true (put.amount % unit) 0 own) level)) whole)

-- All that is put in is a multiple of the unit.
pub total_put-whole : (puts : List Put) (unit : ℕ) → are_whole_puts unit puts ≡ true → total_put puts % unit ≡ 0
total_put-whole puts unit whole = multiple-sum unit (λ (put : Put). put.amount) puts whole

-- An amount that a live player has put in is a multiple of the unit.
pub there-whole : (puts : List Put) (amount unit : ℕ) → are_whole_puts unit puts ≡ true
    → list_any (is_live_at amount) puts ≡ true → amount % unit ≡ 0
there-whole puts amount unit whole there =
    eqb-true (amount % unit) 0 (live_at-passes (λ n. n % unit == 0) amount puts whole there)

-- Chips in whole units added to the highest pot leave whole pots.
pub last-whole : (unit : ℕ) (below : List Pot) (amount more : ℕ) (eligible : List Bool)
    → are_whole_pots unit (below ++ record { amount = amount; eligible = eligible } ∷ []) ≡ true → more % unit ≡ 0
    → are_whole_pots unit (below ++ record { amount = amount + more; eligible = eligible } ∷ []) ≡ true
last-whole unit [] amount more eligible whole rest =
    let own = eqb-true (amount % unit) 0 (and_parts (amount % unit == 0) true whole).0 in
    rw (eq-eqb ((amount + more) % unit) 0 (multiple-add unit amount more own rest))
last-whole unit (pot ∷ below) amount more eligible whole rest =
    let first = (and_parts (pot.amount % unit == 0)
    (are_whole_pots unit (below ++ record { amount = amount; eligible = eligible } ∷ [])) whole).0 in
    let others = last-whole unit below amount more eligible
    (and_parts (pot.amount % unit == 0)
    (are_whole_pots unit (below ++ record { amount = amount; eligible = eligible } ∷ [])) whole).1 rest in
    rw (first, others)
