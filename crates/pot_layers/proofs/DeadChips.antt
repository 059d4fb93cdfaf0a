-- The pots with the dead chips in the main pot.
use Rattle.std.proofs.Common.{◌≡◌, ◌∙◌, ℕ, ◌+◌, ◌-◌, ◌%◌, ◌<◌, List, [], ◌∷◌, ◌++◌, Bool, true, false, length, refl, ap, sym, arith}
use Rattle.std.specs.Prelude.{◌==◌, nat_le}
use Rattle.std.specs.List.{list_all, list_any}
use Rattle.std.proofs.lemmas.Bool.{and_from, and_parts, eq-eqb, eqb-true, leb-true}
use Rattle.std.proofs.lemmas.List.Sums.{sum_by-cons}
use Rattle.rulebook.proofs.Multiples.{multiple-add}
use Rattle.pot_layers.specs.declared.put.Put.{Put}
use Rattle.pot_layers.specs.declared.pot_list.Pot.{Pot}
use Rattle.pot_layers.specs.Layers.{height_pots, is_contested, is_eligible, layers, with_dead}
use Rattle.pot_layers.specs.Tallies.{total_put}
use Rattle.pot_layers.specs.PotTests.{IsOwnPot, are_for, are_others_within, are_whole_pots, are_whole_puts, has_put, have_somebody, live_seats, total_of}
use Rattle.pot_layers.proofs.OwnPot.{own-height_pot}
use Rattle.pot_layers.proofs.PotLaws.{height_pots-live, height_pots-somebody, total_of-height_pots}
use Rattle.pot_layers.proofs.WholeLayers.{height_pots-whole}

-- The dead chips are in the main pot, where there is one.
pub total_of-with_dead : (dead : ℕ) (pots : List Pot) → 0 < total_of pots
    → total_of (with_dead dead pots) ≡ total_of pots + dead
total_of-with_dead dead [] some = absurd (omega arith)
total_of-with_dead dead (main ∷ more) some =
    let before = sum_by-cons (λ (pot : Pot). pot.amount) main more in
    let after = sum_by-cons (λ (pot : Pot). pot.amount) (record main { amount = main.amount + dead }) more in
    omega (arith, before, after)

-- They change nothing of who may win a pot.
with_dead-eligible : (test : List Bool → Bool) (dead : ℕ) (pots : List Pot)
    → list_all (λ pot. test pot.eligible) (with_dead dead pots) ≡ list_all (λ pot. test pot.eligible) pots
with_dead-eligible test dead [] = refl
with_dead-eligible test dead (main ∷ more) = refl

with_dead-whole : (unit dead : ℕ) (pots : List Pot) → are_whole_pots unit pots ≡ true → dead % unit ≡ 0
    → are_whole_pots unit (with_dead dead pots) ≡ true
with_dead-whole unit dead [] whole rest = refl
with_dead-whole unit dead (main ∷ more) whole rest =
    let parts = and_parts (main.amount % unit == 0) (are_whole_pots unit more) whole in
    and_from _ _
    (eq-eqb ((main.amount + dead) % unit) 0
    (multiple-add unit main.amount dead (eqb-true (main.amount % unit) 0 parts.0) rest)) parts.1

with_dead-own : (dead index amount : ℕ) (pots below : List Pot) (pot : Pot) → pots ≡ below ++ pot ∷ []
    → (own : IsOwnPot pots index amount) → own.pot ≡ pot
    → IsOwnPot (with_dead dead pots) index amount
with_dead-own dead index amount pots [] pot is own his = record {
  below = [];
  pot = record pot { amount = pot.amount + dead };
  highest = ap (with_dead dead) is;
  own = ap (λ (p : Pot). p.eligible) (sym his) ∙ own.own;
  holds = let holds = own.holds in let mine = ap (λ (p : Pot). p.amount) his in omega (arith, holds, mine);
}
with_dead-own dead index amount pots (main ∷ below) pot is own his = record {
  below = record main { amount = main.amount + dead } ∷ below;
  pot = pot;
  highest = ap (with_dead dead) is;
  own = ap (λ (p : Pot). p.eligible) (sym his) ∙ own.own;
  holds = let holds = own.holds in let mine = ap (λ (p : Pot). p.amount) his in omega (arith, holds, mine);
}

-- A live player who has put in chips has put in some of all.
pub contested-some : (puts : List Put) → is_contested puts ≡ true → 0 < total_put puts
contested-some [] contested = cc
contested-some (put ∷ more) contested =
    let all = sum_by-cons (λ (p : Put). p.amount) put more in
    by_test (is_eligible 1 put) refl contested (λ rest. contested-some more rest) all
  where
    by_test : (eligible : Bool) → is_eligible 1 put ≡ eligible → list_any (is_eligible 1) (put ∷ more) ≡ true
        → (list_any (is_eligible 1) more ≡ true → 0 < total_put more)
        → total_put (put ∷ more) ≡ put.amount + total_put more → 0 < total_put (put ∷ more)
    by_test true is any later all =
        let one = leb-true 1 put.amount (and_parts put.live (nat_le 1 put.amount) is).1 in omega (arith, one, all)
    by_test false is any later all = let rest = later (rw is at any) in omega (arith, rest, all)

-- The pots sum to all that was put in and the dead chips, where there is a pot.
pub total_of-layers : (puts : List Put) (dead : ℕ) → 0 < total_put puts
    → total_of (layers puts dead) ≡ total_put puts + dead
unfolding layers
total_of-layers puts dead some =
    let all = total_of-height_pots puts in
    let more = total_of-with_dead dead (height_pots puts) (omega (arith, all, some)) in
    omega (arith, all, more)

-- Only live players may win a pot.
pub layers-live : (puts : List Put) (dead : ℕ) → are_for (live_seats puts) (layers puts dead) ≡ true
unfolding layers
layers-live puts dead = with_dead-eligible _ dead (height_pots puts) ∙ height_pots-live puts

-- Each pot can be won by somebody, where a live player has put in chips.
pub layers-somebody : (puts : List Put) (dead : ℕ) → is_contested puts ≡ true → have_somebody (layers puts dead) ≡ true
unfolding layers
layers-somebody puts dead contested =
    with_dead-eligible _ dead (height_pots puts) ∙ height_pots-somebody puts contested

-- The pots are of whole units, where all that was put in and the dead chips are.
pub layers-whole : (puts : List Put) (dead unit : ℕ) → are_whole_puts unit puts ≡ true → dead % unit ≡ 0
    → are_whole_pots unit (layers puts dead) ≡ true
unfolding layers
layers-whole puts dead unit whole rest =
    with_dead-whole unit dead (height_pots puts) (height_pots-whole puts unit whole) rest

-- A live player who has put in more than every other has a pot of his own, of at least what is above them.
pub own-pot : (puts : List Put) (dead index amount reached : ℕ) → length puts ≡ 10
    → has_put puts index amount ≡ true → are_others_within puts index reached ≡ true → reached < amount
    → IsOwnPot (layers puts dead) index (amount - reached)
unfolding layers
own-pot puts dead index amount reached ten put_in others above =
    let own = own-height_pot puts index amount reached ten put_in others above in
    with_dead-own dead index (amount - reached) (height_pots puts) own.below own.pot own.highest own refl
