-- What a step found that gave a value.
use Rattle.std.proofs.Common.{◌≡◌, Option, Some, None, option_map, option_and_then, refl}
use Rattle.std.proofs.lemmas.Option.{option_and_then_some, same_Some}

-- Where a step behind another found a value, the first found one too, and the second found its value from that: a pair
-- of what std's lemma hands on.
pub bind_found : {A B : Type 0} (o : Option A) (f : A → Option B) (y : B) → option_and_then f o ≡ Some y
    → (x : A) × (o ≡ Some x) × (f x ≡ Some y)
bind_found o f y h = option_and_then_some f o y h (λ x first second. (x, first, second))

-- Where a value was mapped to what was found, it was found itself.
pub map_found : {A B : Type 0} (f : A → B) (o : Option A) (y : B) → option_map f o ≡ Some y
    → (x : A) × (o ≡ Some x) × (f x ≡ y)
map_found f None y h = absurd cc
map_found f (Some x) y h = (x, refl, same_Some (f x) y h)
