-- What holds of the items of two lists, place by place.
use Rattle.std.proofs.Common.{◌≡◌, refl, sym, subst, ℕ, zero, suc, ◌+◌, List, [], ◌∷◌, ◌++◌, Option, Some, length, arith}
use mathlib.Core.List.{reverse, reverse-cons}
use Rattle.std.specs.Prelude.{All, IfSome, slice_get}
use Rattle.std.specs.List.{AllZip}
use Rattle.std.proofs.lemmas.List.Elements.{All-cons, All-nil}
use Rattle.std.proofs.lemmas.Option.{get_or_from_slice_get, slice_get_within}

module _ {A B : Type 0} (R : A → B → Type 0) where
  -- at a place
  pub zip-at : (some : List A) (others : List B) → AllZip R some others → (index : ℕ) (one : A) (other : B)
      → slice_get some index ≡ Some one → slice_get others index ≡ Some other → R one other
  zip-at [] others each index one other at there = absurd (cc (at))
  zip-at (first ∷ some) [] each index one other at there = absurd each
  zip-at (first ∷ some) (second ∷ others) each zero one other at there =
      let same : first ≡ one = cc (at) in let also : second ≡ other = cc (there) in
      subst (λ (p : A × B). R p.0 p.1) (λ i. (same i, also i)) each.0
  zip-at (first ∷ some) (second ∷ others) each (suc index) one other at there =
      zip-at some others each.1 index one other at there

  -- from each place, where there are as many
  pub zip-from : (some : List A) (others : List B) → length others ≡ length some
      → ((index : ℕ) (one : A) (other : B) → slice_get some index ≡ Some one → slice_get others index ≡ Some other
      → R one other) → AllZip R some others
  zip-from [] [] as_many each = tt
  zip-from [] (second ∷ others) as_many each = absurd (omega (arith, as_many))
  zip-from (first ∷ some) [] as_many each = absurd (omega (arith, as_many))
  zip-from (first ∷ some) (second ∷ others) as_many each = (
    each 0 first second refl refl,
    zip-from some others (omega (arith, as_many)) (λ index. each (suc index)),
  )

  -- one more on both sides
  pub zip-push : (some : List A) (others : List B) (one : A) (other : B) → AllZip R some others → R one other
      → AllZip R (some ++ one ∷ []) (others ++ other ∷ [])
  zip-push [] [] one other each last = (last, tt)
  zip-push [] (second ∷ others) one other each last = absurd each
  zip-push (first ∷ some) [] one other each last = absurd each
  zip-push (first ∷ some) (second ∷ others) one other each last =
      (each.0, zip-push some others one other each.1 last)

  -- one fewer on both sides, and those two
  pub zip-pop : (some : List A) (others : List B) (one : A) (other : B)
      → AllZip R (some ++ one ∷ []) (others ++ other ∷ []) → AllZip R some others × R one other
  zip-pop [] [] one other each = (tt, each.0)
  zip-pop [] (second ∷ []) one other each = absurd each.1
  zip-pop [] (second ∷ third ∷ others) one other each = absurd each.1
  zip-pop (first ∷ []) [] one other each = absurd each.1
  zip-pop (first ∷ third ∷ some) [] one other each = absurd each.1
  zip-pop (first ∷ some) (second ∷ others) one other each =
      let rest = zip-pop some others one other each.1 in ((each.0, rest.0), rest.1)

-- what is in a list at each place, all of it is
pub all-from : {A : Type 0} (P : A → Type 0) (items : List A)
    → ((index : ℕ) (item : A) → slice_get items index ≡ Some item → P item) → All P items
all-from P [] each = All-nil P
all-from P (item ∷ items) each =
    All-cons P item items (each 0 item refl) (all-from P items (λ index. each (suc index)))

-- and the other way round
pub all-at : {A : Type 0} (P : A → Type 0) (items : List A) → All P items → (index : ℕ) (item : A)
    → slice_get items index ≡ Some item → P item
all-at P items each index item at =
    subst P (get_or_from_slice_get items index item item at) (each index item (slice_get_within items index item at))

-- what holds of what is found
pub if-found : {A : Type 0} (P : A → Type 0) (found : Option A) (item : A) → found ≡ Some item → IfSome found P → P item
if-found P found item is holds = let held : IfSome (Some item) P = subst (λ o. IfSome o P) is holds in held

module _ {A : Type 0} where
  -- an item before others, and one of those
  pub get-before : (items others : List A) (index : ℕ) (item : A) → slice_get items index ≡ Some item
      → slice_get (items ++ others) index ≡ Some item
  get-before [] others index item at = absurd (cc (at))
  get-before (first ∷ items) others zero item at = at
  get-before (first ∷ items) others (suc index) item at = get-before items others index item at

  pub get-beyond : (items others : List A) (index : ℕ) (item : A) → slice_get others index ≡ Some item
      → slice_get (items ++ others) (length items + index) ≡ Some item
  get-beyond [] others index item at =
      let same : 0 + index ≡ index = omega arith in subst (λ k. slice_get others k ≡ Some item) (sym same) at
  get-beyond (first ∷ items) others index item at =
      let next : suc (length items) + index ≡ suc (length items + index) = omega arith in
      subst (λ k. slice_get (first ∷ (items ++ others)) k ≡ Some item) (sym next)
      (get-beyond items others index item at)

  -- the item behind others
  pub get-behind : (front : List A) (item : A) (back : List A)
      → slice_get (front ++ item ∷ back) (length front) ≡ Some item
  get-behind [] item back = refl
  get-behind (first ∷ front) item back = get-behind front item back

  -- an item before one more, and that one
  pub get-front : (items : List A) (last : A) (index : ℕ) (item : A) → slice_get items index ≡ Some item
      → slice_get (items ++ last ∷ []) index ≡ Some item
  get-front items last = get-before items (last ∷ [])

  pub get-last : (items : List A) (last : A) → slice_get (items ++ last ∷ []) (length items) ≡ Some last
  get-last items last = get-behind items last []

-- two lists that are one longer than two that came before
pub zip-on : {A B : Type 0} (R : A → B → Type 0) (some more : List A) (others another : List B) (one : A) (other : B)
    → more ≡ some ++ one ∷ [] → another ≡ others ++ other ∷ [] → AllZip R some others → R one other
    → AllZip R more another
zip-on {A = A} {B = B} R some more others another one other longer too each last =
    subst (λ (p : List A × List B). AllZip R p.0 p.1) (λ i. (sym longer i, sym too i))
    (zip-push R some others one other each last)

-- the same two lists, each from its end
pub zip-reverse : {A B : Type 0} (R : A → B → Type 0) (some : List A) (others : List B) → AllZip R some others
    → AllZip R (reverse some) (reverse others)
zip-reverse R [] [] each = tt
zip-reverse R [] (second ∷ others) each = absurd each
zip-reverse R (first ∷ some) [] each = absurd each
zip-reverse R (first ∷ some) (second ∷ others) each =
    zip-on R (reverse some) (reverse (first ∷ some)) (reverse others) (reverse (second ∷ others)) first second
    (reverse-cons first some) (reverse-cons second others) (zip-reverse R some others each.1) each.0

-- each of the others has one of the first that it goes with
pub all-right : {A B : Type 0} (R : A → B → Type 0) (some : List A) (others : List B) → AllZip R some others
    → All (λ (other : B). (one : A) × R one other) others
all-right {A = A} R [] [] each = All-nil (λ other. (one : A) × R one other)
all-right R [] (second ∷ others) each = absurd each
all-right R (first ∷ some) [] each = absurd each
all-right {A = A} R (first ∷ some) (second ∷ others) each =
    All-cons (λ other. (one : A) × R one other) second others (first, each.0) (all-right R some others each.1)
