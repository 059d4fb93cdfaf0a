-- What is found, or not.
use Rattle.std.proofs.Common.{◌≡◌, refl, ap, true, false, List, [], ◌∷◌, map, Option, Some, None}
use Rattle.std.specs.Prelude.{IsSome}
use Rattle.std.specs.Option.{is_none, is_some, option_map}

-- Nothing is found where nothing can be.
pub none-found : {A : Type 0} (found : Option A) → ((item : A) → found ≡ Some item → ⊥) → found ≡ None
none-found None never = refl
none-found (Some item) never = absurd (never item refl)

-- Something is found where it cannot be that nothing is.
pub some-found : {A : Type 0} (found : Option A) → (found ≡ None → ⊥) → (item : A) × (found ≡ Some item)
some-found None never = absurd (never refl)
some-found (Some item) never = (item, refl)

-- Nothing is found where it is not so that something is.
pub none-by_test : {A : Type 0} (found : Option A) → is_none found ≡ true → found ≡ None
none-by_test None none = refl
none-by_test (Some item) none = absurd cc

-- Something is found where it is not so that nothing is.
pub some-by_test : {A : Type 0} (found : Option A) → is_none found ≡ false → IsSome found
some-by_test None none = absurd cc
some-by_test (Some item) none = refl

-- Something is in each slot of a list that is made of another where something is in that.
pub somes-made : {A B : Type 0} (f : A → B) (slots : List (Option A))
    → map is_some (map (option_map f) slots) ≡ map is_some slots
somes-made f [] = refl
somes-made f (None ∷ slots) = ap (λ rest. false ∷ rest) (somes-made f slots)
somes-made f (Some item ∷ slots) = ap (λ rest. true ∷ rest) (somes-made f slots)
