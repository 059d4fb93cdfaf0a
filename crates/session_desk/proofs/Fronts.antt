-- Fronts of lists that grow.
use Rattle.std.proofs.Common.{◌≡◌, ◌∙◌, sym, ap, ℕ, ◌≤◌, List, ◌++◌, length, drop, take}
use Rattle.std.proofs.lemmas.List.{take-append-drop, take-append-le, take-take}
use mathlib.Core.List.{IsPrefix}

module _ {A : Type 0} where
  -- A front of a list is one of each longer list.
  pub front-kept : (old new : List A) (n : ℕ) → IsPrefix old new → n ≤ length old → take n old ≡ take n new
  front-kept old new n longer within = sym (take-append-le n old longer.0 within) ∙ ap (take n) longer.1

  -- A front, and what is behind it up to a later place, is the front up to that place.
  pub front-on : (items : List A) (n m : ℕ) → n ≤ m → take n items ++ drop n (take m items) ≡ take m items
  front-on items n m in_order =
      ap (λ (front : List A). front ++ drop n (take m items)) (sym (take-take n m items in_order))
      ∙ take-append-drop n (take m items)

  -- And so it is where the list has grown meanwhile.
  pub front-grown : (old new : List A) (n m : ℕ) → IsPrefix old new → n ≤ length old → n ≤ m
      → take n old ++ drop n (take m new) ≡ take m new
  front-grown old new n m longer within in_order =
      ap (λ (front : List A). front ++ drop n (take m new)) (front-kept old new n longer within)
      ∙ front-on new n m in_order

  -- The list begins with its front.
  pub front-begins : (n : ℕ) (items : List A) → IsPrefix (take n items) items
  front-begins n items = (drop n items, take-append-drop n items)
