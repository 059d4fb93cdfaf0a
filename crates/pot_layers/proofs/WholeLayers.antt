-- Where all that was put in is of whole units, so is each pot.
use Rattle.std.proofs.Common.{◌≡◌, ◌∙◌, ℕ, zero, suc, ◌+◌, ◌-◌, ◌%◌, List, [], ◌∷◌, Bool, true, false, cond, refl, ap, sym, inl, inr, arith}
use Rattle.std.specs.Prelude.{◌==◌, ◌&&◌, ◌||◌, nat_le}
use Rattle.std.proofs.lemmas.Bool.{and_from, cases_Bool, eq-eqb, eqb-true}
use Rattle.std.proofs.lemmas.Bool.Decides.{nat_tests}
use Rattle.std.proofs.lemmas.List.Sums.{sum_by-cons}
use Rattle.rulebook.proofs.Multiples.{multiple-sub, multiple-sum}
use Rattle.rulebook.proofs.Passing.{map-agree}
use Rattle.pot_layers.specs.declared.put.Put.{Put}
use Rattle.pot_layers.specs.declared.pot_list.Pot.{Pot}
use Rattle.pot_layers.specs.Layers.{are_same_seats, greatest_put, is_eligible, is_nobody, lay, height_pots, live_payers, payments, pots_to}
use Rattle.pot_layers.specs.PotTests.{are_whole_pots, are_whole_puts, total_of}
use Rattle.pot_layers.specs.Tallies.{total_to}
use Rattle.pot_layers.proofs.Heights.{are_same_seats-self, same_seats-equal, total_to-greatest}
use Rattle.pot_layers.proofs.PotLaws.{list_all-reverse, total_of-pots_to}
use Rattle.pot_layers.proofs.Stretches.{pot_of}
use Rattle.pot_layers.proofs.Units.{total_put-whole, total_to-whole}

-- The highest pot is of whole units where the others and all together are.
top-whole : (top : Pot) (below : List Pot) (unit : ℕ) → are_whole_pots unit below ≡ true
    → total_of (top ∷ below) % unit ≡ 0 → (top.amount % unit == 0) ≡ true
top-whole top below unit others all =
    let parts = sum_by-cons (λ (p : Pot). p.amount) top below in
    let rest : top.amount ≡ total_of (top ∷ below) - total_of below = omega arith in
    eq-eqb (top.amount % unit) 0
    (ap (λ (n : ℕ). n % unit) rest ∙ multiple-sub unit (total_of (top ∷ below)) (total_of below) (omega arith) all
    (multiple-sum unit (λ (p : Pot). p.amount) below others))

-- All pots but the highest are of whole units.
abbrev whole_below : ℕ → List Pot → Bool
whole_below unit [] = true
whole_below unit (top ∷ below) = are_whole_pots unit below

-- The pots up to a height: all hold what was put in up to it, those below the highest are of whole units, and the
-- highest is for the live payers of the height, where it has any.
record IsLaid (puts : List Put) (unit height : ℕ) (pots : List Pot) : Type 0 where
  total : total_of pots ≡ total_to puts height
  below : whole_below unit pots ≡ true
  payers : (top : Pot) (rest : List Pot) → pots ≡ top ∷ rest → is_nobody (live_payers puts height) ≡ false
      → top.eligible ≡ live_payers puts height

-- A height that nobody has put in just so has the live payers of the next.
next-payers : (puts : List Put) (unit height : ℕ) → are_whole_puts unit puts ≡ true → (height % unit == 0) ≡ false
    → live_payers puts height ≡ live_payers puts (suc height)
next-payers puts unit height whole between =
    map-agree (is_eligible height) (is_eligible (suc height)) (λ put. put.amount % unit == 0) puts
    (λ put is. agree put.live put.amount is) whole
  where
    agree : (live : Bool) (amount : ℕ) → (amount % unit == 0) ≡ true
        → (live && nat_le height amount) ≡ (live && nat_le (suc height) amount)
    agree false amount is = refl
    agree true amount is =
        elim (cases_Bool (amount == height)) [
          | inl here ↦
              let same : amount ≡ height = grind (arith, nat_tests) in
              let never : true ≡ false = sym is ∙ ap (λ (n : ℕ). n % unit == 0) same ∙ between in absurd cc
          | inr other ↦ grind (arith, nat_tests)
        ]

lay-whole : (puts : List Put) (unit height : ℕ) (pots after : List Pot) → are_whole_puts unit puts ≡ true
    → IsLaid puts unit height pots
    → after ≡ lay pots (payments puts (suc height)) (live_payers puts (suc height))
    → total_of after ≡ total_to puts (suc height)
    → IsLaid puts unit (suc height) after
lay-whole puts unit height [] after whole laid is total = record {
  total = total;
  below = rw is refl;
  payers = λ top rest same some.
      let both : pot_of (payments puts (suc height)) (live_payers puts (suc height)) ∷ [] ≡ top ∷ rest = sym is
      ∙ same in
      let him : pot_of (payments puts (suc height)) (live_payers puts (suc height)) ≡ top = cc in
      ap (λ (p : Pot). p.eligible) (sym him);
}
lay-whole puts unit height (top ∷ below) after whole laid is total =
    by_test (are_same_seats top.eligible (live_payers puts (suc height))) (is_nobody (live_payers puts (suc height)))
    refl refl is
  where
    by_test : (same nobody : Bool) → are_same_seats top.eligible (live_payers puts (suc height)) ≡ same
        → is_nobody (live_payers puts (suc height)) ≡ nobody
        → after ≡ cond (same || nobody) (pot_of (top.amount + payments puts (suc height)) top.eligible ∷ below)
        (pot_of (payments puts (suc height)) (live_payers puts (suc height)) ∷ top ∷ below)
        → IsLaid puts unit (suc height) after
    by_test true nobody seats none is = record {
      total = total;
      below = rw is laid.below;
      payers = λ first rest same some.
          let both : pot_of (top.amount + payments puts (suc height)) top.eligible ∷ below ≡ first ∷ rest = sym is
          ∙ same in
          let him : pot_of (top.amount + payments puts (suc height)) top.eligible ≡ first = cc in
          ap (λ (p : Pot). p.eligible) (sym him) ∙ same_seats-equal top.eligible (live_payers puts (suc height)) seats;
    }
    by_test false true seats none is = record {
      total = total;
      below = rw is laid.below;
      payers = λ first rest same some. let never : true ≡ false = sym none ∙ some in absurd cc;
    }
    by_test false false seats none is =
        let level : height % unit ≡ 0 = by_level (height % unit == 0) refl seats none in
        let all : total_of (top ∷ below) % unit ≡ 0 = ap (λ (n : ℕ). n % unit) laid.total
        ∙ total_to-whole puts height unit whole level in
        record {
          total = total;
          below = rw is (and_from _ _ (top-whole top below unit laid.below all) laid.below);
          payers = λ first rest same some.
              let both : pot_of (payments puts (suc height)) (live_payers puts (suc height)) ∷ top ∷ below ≡ first ∷
              rest = sym is ∙ same in
              let him : pot_of (payments puts (suc height)) (live_payers puts (suc height)) ≡ first = cc in
              ap (λ (p : Pot). p.eligible) (sym him);
        }
      where
        by_level : (zeroes : Bool) → (height % unit == 0) ≡ zeroes
            → are_same_seats top.eligible (live_payers puts (suc height)) ≡ false
            → is_nobody (live_payers puts (suc height)) ≡ false → height % unit ≡ 0
        by_level true level seats none = eqb-true (height % unit) 0 level
        by_level false level seats none =
            let next = next-payers puts unit height whole level in
            let his = laid.payers top below refl (ap is_nobody next ∙ none) in
            let never : true ≡ false =
            sym (are_same_seats-self (live_payers puts (suc height)))
            ∙ ap (λ (seats : List Bool). are_same_seats seats (live_payers puts (suc height))) (sym (his ∙ next))
            ∙ seats in
            absurd cc

laid-to : (puts : List Put) (unit height : ℕ) → are_whole_puts unit puts ≡ true
    → IsLaid puts unit height (pots_to puts height)
unfolding pots_to
laid-to puts unit zero whole = record {
  total = total_of-pots_to puts zero;
  below = refl;
  payers = λ top rest same some. absurd cc;
}
laid-to puts unit (suc height) whole =
    lay-whole puts unit height (pots_to puts height)
    (lay (pots_to puts height) (payments puts (suc height)) (live_payers puts (suc height))) whole
    (laid-to puts unit height whole) refl (total_of-pots_to puts (suc height))

-- The pots of whole units.
pub height_pots-whole : (puts : List Put) (unit : ℕ) → are_whole_puts unit puts ≡ true
    → are_whole_pots unit (height_pots puts) ≡ true
unfolding height_pots
height_pots-whole puts unit whole =
    list_all-reverse (λ (pot : Pot). pot.amount % unit == 0) (pots_to puts (greatest_put puts))
    (by_pots (pots_to puts (greatest_put puts)) (laid-to puts unit (greatest_put puts) whole))
  where
    by_pots : (pots : List Pot) → IsLaid puts unit (greatest_put puts) pots → are_whole_pots unit pots ≡ true
    by_pots [] laid = refl
    by_pots (top ∷ below) laid =
        let all : total_of (top ∷ below) % unit ≡ 0 =
        ap (λ (n : ℕ). n % unit) (laid.total ∙ total_to-greatest puts) ∙ total_put-whole puts unit whole in
        and_from _ _ (top-whole top below unit laid.below all) laid.below
