-- The names of entrants are names.
use Rattle.std.proofs.Common.{◌≡◌, refl, ℕ, ◌+◌, ◌%◌, ◌^◌, ◌<◌, ◌≤◌, true, ◌∷◌, length, arith}
use Rattle.std.specs.Prelude.{◌&&◌, nat_le}
use Rattle.std.specs.Fmt.{decimal}
use Rattle.std.specs.List.{list_all}
use Rattle.std.proofs.lemmas.Bool.{and_from, le-leb}
use Rattle.std.proofs.lemmas.Fmt.{decimal_by_steps, length-decimal-le}
use Rattle.std.proofs.lemmas.List.Folds.{list_all-append}
use Rattle.std.proofs.lemmas.Nat.{mod_below}
use Rattle.rulebook.specs.Limits.{most_entries}
use Rattle.card_set.proofs.Computed.{all_below, holds_below}
use Rattle.floor_text.specs.Limits.{longest_name}
use Rattle.floor_text.specs.Names.{is_name, is_name_byte}
use Rattle.simulation_rules.specs.Entrants.{entrant_name}

digit-named : (digit : ℕ) → digit < 10 → (is_name_byte (48 + digit) && true) ≡ true
unfolding all_below
digit-named digit few = and_from (is_name_byte (48 + digit)) true
    (holds_below (λ digit. is_name_byte (48 + digit)) 10 digit refl few) refl

decimal-named : (n : ℕ) → n < 2 ^ 64 → list_all is_name_byte (decimal n) ≡ true
decimal-named n few =
    decimal_by_steps (λ n digits. list_all is_name_byte digits ≡ true) (λ n small. digit-named n small)
    (λ n digits more rest. rw (list_all-append, rest) (digit-named (n % 10) (mod_below n 10 (omega arith)))) n few

-- Who enters after fewer than 640 others has a name.
pub entrant-named : (before : ℕ) → before < most_entries → is_name (entrant_name before) ≡ true
entrant-named before few =
    let digits = decimal (before + 1) in
    let short : length digits ≤ 3 = length-decimal-le 3 (before + 1) (omega arith) (omega (arith, few)) (omega (arith, few)) in
    and_from (list_all is_name_byte digits) (nat_le (length (112 ∷ digits)) longest_name && true)
    (decimal-named (before + 1) (omega (arith, few)))
    (and_from (nat_le (length (112 ∷ digits)) longest_name) true
    (le-leb (length (112 ∷ digits)) longest_name (omega (arith, short))) refl)
