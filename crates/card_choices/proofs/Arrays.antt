-- Arrays of two and of five as the lists of their elements.
use Rattle.std.proofs.Common.{◌≡◌, List, [], ◌∷◌, length, get_or, refl, arith}

-- a list of two is its two elements, whatever is read past its end
pub two_of : {A : Type 0} (xs : List A) (a b : A) → length xs ≡ 2 → xs ≡ get_or xs 0 a ∷ get_or xs 1 b ∷ []
two_of [] a b two = absurd (omega arith)
two_of (_ ∷ []) a b two = absurd (omega arith)
two_of (_ ∷ _ ∷ []) a b two = refl
two_of (_ ∷ _ ∷ _ ∷ _) a b two = absurd (omega arith)

-- a list of five is its five elements, whatever is read past its end
pub five_of : {A : Type 0} (xs : List A) (a b c d e : A) → length xs ≡ 5
    → xs ≡ get_or xs 0 a ∷ get_or xs 1 b ∷ get_or xs 2 c ∷ get_or xs 3 d ∷ get_or xs 4 e ∷ []
five_of [] a b c d e five = absurd (omega arith)
five_of (_ ∷ []) a b c d e five = absurd (omega arith)
five_of (_ ∷ _ ∷ []) a b c d e five = absurd (omega arith)
five_of (_ ∷ _ ∷ _ ∷ []) a b c d e five = absurd (omega arith)
five_of (_ ∷ _ ∷ _ ∷ _ ∷ []) a b c d e five = absurd (omega arith)
five_of (_ ∷ _ ∷ _ ∷ _ ∷ _ ∷ []) a b c d e five = refl
five_of (_ ∷ _ ∷ _ ∷ _ ∷ _ ∷ _ ∷ _) a b c d e five = absurd (omega arith)
