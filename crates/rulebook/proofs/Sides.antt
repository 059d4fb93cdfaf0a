-- What one side of an "or" or of an "and" tells of the other.
use Rattle.std.proofs.Common.{◌≡◌, refl, Bool, true, false}
use Rattle.std.specs.Prelude.{◌&&◌, ◌||◌}

-- The first of two holds where one of them does and not the other.
pub first_alone : (first others : Bool) → (first || others) ≡ true → others ≡ false → first ≡ true
first_alone true others some none = refl
first_alone false others some none = cc

-- The others hold where one of two does and not the first.
pub others_alone : (first others : Bool) → (first || others) ≡ true → first ≡ false → others ≡ true
others_alone true others some none = absurd cc
others_alone false others some none = some

-- The first of two fails where not both hold and the other does.
pub first_fails : (first others : Bool) → (first && others) ≡ false → others ≡ true → first ≡ false
first_fails true others not_both holds = absurd cc
first_fails false others not_both holds = refl

-- The others fail where not both of two hold and the first does.
pub others_fail : (first others : Bool) → (first && others) ≡ false → first ≡ true → others ≡ false
others_fail true others not_both holds = not_both
others_fail false others not_both holds = absurd cc
