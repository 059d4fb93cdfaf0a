-- Lists that have nothing in common. This project's own.
use Rattle.std.specs.Prelude.{List, Contains}

-- No item is in both of two lists.
abbrev pub AreApart : {A : Type 0} → List A → List A → Type 0
AreApart {A} one other = (item : A) → Contains one item → Contains other item → ⊥
