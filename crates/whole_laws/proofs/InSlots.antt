-- Items that stand in numbered slots, each in the slot of its number.
use Rattle.std.proofs.Common.{◌≡◌, ◌∙◌, refl, sym, ap, ℕ, zero, suc, ◌<◌, ◌==◌, Bool, true, false, cond, List, [], ◌∷◌, get_or, length, set, Option, Some, None, inl, inr, eq-eqb, arith}
use Rattle.std.specs.Prelude.{Contains, filter, sum_by, if◌then◌else◌}
use Rattle.std.specs.Option.{option_to_list}
use Rattle.std.proofs.lemmas.Bool.{cases_lt, eqb-true, eqb-false}
use Rattle.std.proofs.lemmas.List.{get_or-set_same, get_or-set_other, get_or_past}
use Rattle.std.proofs.lemmas.List.Sums.{sum_by-cons, sum_by-set}
use Rattle.std.proofs.lemmas.Option.{same_Some}

-- A slot in which something stands is one of the slots.
within_slots : {A : Type 0} (slots : List (Option A)) (at : ℕ) (item : A) → get_or slots at None ≡ Some item
    → at < length slots
within_slots slots at item is = elim (cases_lt at (length slots)) [
  | inl within ↦ within
  | inr past ↦ let none = get_or_past slots at None past in absurd cc
]

-- What stands in each slot once one is set.
pub slot-set : {A : Type 0} (slots : List (Option A)) (at other : ℕ) (slot : Option A) → at < length slots
    → get_or (set slots at slot) other None ≡ (if at == other then slot else get_or slots other None)
slot-set {A} slots at other slot within = by_number (at == other) refl
  where
    by_number : (same : Bool) → (at == other) ≡ same
        → get_or (set slots at slot) other None ≡ (if same then slot else get_or slots other None)
    by_number true same =
        ap (λ (place : ℕ). get_or (set slots at slot) place None) (sym (eqb-true at other same))
        ∙ get_or-set_same slots at slot None within
    by_number false apart = get_or-set_other slots at other slot None (λ same. eqb-false at other apart (sym same))

-- What stands in a slot once one is cleared stood there before.
still_there : {A : Type 0} (slots : List (Option A)) (at other : ℕ) (item : A) → at < length slots
    → get_or (set slots at None) other None ≡ Some item → get_or slots other None ≡ Some item
still_there {A} slots at other item within there =
    by_number (at == other) (sym (slot-set slots at other None within) ∙ there)
  where
    by_number : (same : Bool) → (if same then None else get_or slots other None) ≡ Some item
        → get_or slots other None ≡ Some item
    by_number true there = absurd cc
    by_number false there = there

module _ {A : Type 0} (number : A → ℕ) where
  -- The items are those in the slots: of each number there is the one in its slot, or none.
  pub record AreInSlots (items : List A) (slots : List (Option A)) : Type 0 where
    pub each : (at : ℕ) → filter (λ item. number item == at) items ≡ option_to_list (get_or slots at None)

  -- The first of the items stands in its slot, and the others are in the slots without it.
  record IsFirst (first : A) (items : List A) (slots : List (Option A)) : Type 0 where
    within : number first < length slots
    there : get_or slots (number first) None ≡ Some first
    others : AreInSlots items (set slots (number first) None)

  first_in : (first : A) (items : List A) (slots : List (Option A)) → AreInSlots (first ∷ items) slots
      → IsFirst first items slots
  first_in first items slots are = by_slot (get_or slots (number first) None) refl
      (ap (λ (same : Bool). cond same (first ∷ others (number first)) (others (number first)))
      (sym (eq-eqb (number first) (number first) refl)) ∙ are.each (number first))
    where
      others : ℕ → List A
      others at = filter (λ item. number item == at) items

      elsewhere : filter (λ item. number item == number first) items ≡ [] → (at : ℕ) (same : Bool)
          → (number first == at) ≡ same
          → cond same (first ∷ filter (λ item. number item == at) items) (filter (λ item. number item == at) items)
          ≡ option_to_list (get_or slots at None)
          → filter (λ item. number item == at) items
          ≡ option_to_list (if same then None else get_or slots at None)
      elsewhere none at true same all =
          ap (λ (place : ℕ). filter (λ item. number item == place) items) (sym (eqb-true (number first) at same)) ∙ none
      elsewhere none at false apart all = all

      by_slot : (slot : Option A) → get_or slots (number first) None ≡ slot
          → first ∷ filter (λ item. number item == number first) items
          ≡ option_to_list (get_or slots (number first) None)
          → IsFirst first items slots
      by_slot None is all = let none = all ∙ ap option_to_list is in absurd cc
      by_slot (Some found) is all =
          let one = all ∙ ap option_to_list is in
          let same : found ≡ first = cc in
          let none : filter (λ item. number item == number first) items ≡ [] = cc in
          let within = within_slots slots (number first) found is in
          record {
            within = within;
            there = is ∙ ap Some same;
            others = record {
              each = λ at. elsewhere none at (number first == at) refl (are.each at)
                  ∙ ap option_to_list (sym (slot-set slots (number first) at None within));
            };
          }

  -- Where nothing stands in any slot, the slots sum to nothing.
  sum-empty : (size : Option A → ℕ) (slots : List (Option A)) → size None ≡ 0 → AreInSlots [] slots
      → sum_by size slots ≡ 0
  sum-empty size [] nothing are = refl
  sum-empty size (slot ∷ slots) nothing are =
      let rest = sum-empty size slots nothing (record { each = λ at. are.each (suc at) }) in
      let here = by_slot slot (are.each 0) in
      omega (arith, sum_by-cons size slot slots, rest, here)
    where
      by_slot : (slot : Option A) → [] ≡ option_to_list slot → size slot ≡ 0
      by_slot None none = nothing
      by_slot (Some item) none = absurd cc

  -- The items sum to what the slots sum to.
  pub sum-slots : (size : Option A → ℕ) (items : List A) (slots : List (Option A)) → size None ≡ 0
      → AreInSlots items slots → sum_by (λ item. size (Some item)) items ≡ sum_by size slots
  sum-slots size [] slots nothing are = sym (sum-empty size slots nothing are)
  sum-slots size (first ∷ items) slots nothing are =
      let front = first_in first items slots are in
      let rest = sum-slots size items (set slots (number first) None) nothing front.others in
      let taken = sum_by-set size slots (number first) None None front.within in
      let his = ap size front.there in
      omega (arith, sum_by-cons (λ item. size (Some item)) first items, rest, taken, his, nothing)

  -- Where nothing stands in any slot, there are no items.
  pub none_in : (items : List A) (slots : List (Option A)) → AreInSlots items slots
      → ((at : ℕ) → get_or slots at None ≡ None) → items ≡ []
  none_in [] slots are empty = refl
  none_in (first ∷ items) slots are empty =
      let there = (first_in first items slots are).there in
      let none = empty (number first) in
      absurd cc

  -- Each item stands in its slot.
  pub slot-item : (items : List A) (slots : List (Option A)) (item : A) → AreInSlots items slots → Contains items item
      → get_or slots (number item) None ≡ Some item
  slot-item [] slots item are has = let within = has.1 in absurd (omega arith)
  slot-item (first ∷ items) slots item are has =
      by_place has.0 has.1 has.2 (slot-item items (set slots (number first) None) item front.others)
    where
      front : IsFirst first items slots
      front = first_in first items slots are

      by_place : (place : ℕ) → place < length (first ∷ items) → get_or (first ∷ items) place item ≡ item
          → (Contains items item → get_or (set slots (number first) None) (number item) None ≡ Some item)
          → get_or slots (number item) None ≡ Some item
      by_place zero within is later =
          ap (λ (one : A). get_or slots (number one) None) (sym is) ∙ (front.there ∙ ap Some is)
      by_place (suc place) within is later =
          still_there slots (number first) (number item) item front.within (later (place, omega arith, is))

  -- What stands in its slot is one of the items.
  pub item-slot : (items : List A) (slots : List (Option A)) (item : A) → AreInSlots items slots
      → get_or slots (number item) None ≡ Some item → Contains items item
  item-slot [] slots item are is = let all = are.each (number item) ∙ ap option_to_list is in absurd cc
  item-slot (first ∷ items) slots item are is =
      by_number (number first == number item) refl (item-slot items (set slots (number first) None) item front.others)
    where
      front : IsFirst first items slots
      front = first_in first items slots are

      by_number : (same : Bool) → (number first == number item) ≡ same
          → (get_or (set slots (number first) None) (number item) None ≡ Some item → Contains items item)
          → Contains (first ∷ items) item
      by_number true same later =
          let there = ap (λ (at : ℕ). get_or slots at None) (sym (eqb-true (number first) (number item) same))
          ∙ front.there in
          (0, omega arith, same_Some first item (sym there ∙ is))
      by_number false apart later =
          let has = later (slot-set slots (number first) (number item) None front.within
          ∙ ap (λ (here : Bool). if here then None else get_or slots (number item) None) apart ∙ is) in
          (suc has.0, (let within = has.1 in omega arith), has.2)
