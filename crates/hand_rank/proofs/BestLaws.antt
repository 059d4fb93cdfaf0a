-- The greatest of values.
use Rattle.std.proofs.Common.{◌≡◌, ℕ, ◌+◌, ◌<◌, ◌≤◌, List, [], ◌∷◌, ◌++◌, length, take, get_or, refl, sym, ap, ap₂, ◌∙◌, append-nil}
use Rattle.std.specs.Prelude.{map}
use Rattle.std.specs.List.{flat_map}
use Rattle.std.proofs.lemmas.List.{take_more, take_all}
use Rattle.std.proofs.lemmas.Grind.{flat_map-append}
use Rattle.card_set.specs.declared.card.Card.{Card}
use Rattle.card_choices.proofs.ListOrder.{max_assoc, max_upper}
use Rattle.hand_rank.specs.Values.{five_card_value}
use Rattle.hand_rank.specs.BestHigh.{greater, greatest, best_high}

-- the greatest value of some choices and of others is the greater of the two
pub best_high-append : (some others : List (List Card))
    → best_high (some ++ others) ≡ greater (best_high some) (best_high others)
unfolding best_high
best_high-append [] others = sym (max_upper [] (greatest (map five_card_value others)) tt)
best_high-append (cards ∷ some) others =
    ap (greater (five_card_value cards)) (best_high-append some others)
    ∙ sym (max_assoc (five_card_value cards) (best_high some) (best_high others))

-- the greatest value of no choices at all is the empty list
pub best_high-none : best_high [] ≡ []
unfolding best_high
best_high-none = refl

-- the choices with one more pair
pub best_high-pair : {A : Type 0} (hands : A → List (List Card)) (xs : List A) (i : ℕ) (x : A) (best more : List ℕ)
    → i < length xs → x ≡ get_or xs i x → best ≡ best_high (flat_map hands (take i xs)) → more ≡ best_high (hands x)
    → greater best more ≡ best_high (flat_map hands (take (i + 1) xs))
best_high-pair hands xs i x best more within at is last =
    ap₂ greater is last
    ∙ sym (best_high-append (flat_map hands (take i xs)) (hands x))
    ∙ ap (λ hs. best_high (flat_map hands (take i xs) ++ hs)) (sym (append-nil (hands x)))
    ∙ ap (λ y. best_high (flat_map hands (take i xs) ++ flat_map hands (y ∷ []))) at
    ∙ ap best_high (sym (flat_map-append hands (take i xs) (get_or xs i x ∷ []))
    ∙ ap (flat_map hands) (sym (take_more xs i x within)))

-- the greatest value when all choices have been looked at
pub best_high-all : {A : Type 0} (chosen : List A → List (List Card)) (xs ys : List A) (i : ℕ) (best : List ℕ)
    → length xs ≤ i → xs ≡ ys → best ≡ best_high (chosen (take i xs)) → best ≡ best_high (chosen ys)
best_high-all chosen xs ys i best end same is =
    is ∙ ap (λ zs. best_high (chosen zs)) (take_all i xs end ∙ same)

-- a list whose things stay the same stays the same
pub map-itself : {A : Type 0} (xs : List A) → map (λ x. x) xs ≡ xs
map-itself [] = refl
map-itself (x ∷ xs) = ap (λ ys. x ∷ ys) (map-itself xs)
