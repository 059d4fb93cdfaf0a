-- Pairs of hole cards with three board cards.
use Rattle.std.proofs.Common.{◌≡◌, ℕ, zero, suc, ◌<◌, inl, inr, ◌&&◌, eqb, List, [], ◌∷◌, ◌++◌, length, get_or, refl, sym, ap, ◌∙◌, subst, le_trans, arith}
use Rattle.std.specs.Prelude.{map}
use Rattle.card_set.specs.declared.card.Card.{Card}
use Rattle.card_choices.specs.Choices.{choices}
use Rattle.hand_rank.specs.Cards.{AreOnce}
use Rattle.hand_rank.proofs.Chosen.{IsChoice, count-choice, skip}

-- so many of a list are a choice of it
record IsOf {A : Type 0} (n : ℕ) (xs c : List A) : Type 0 where
  choice : IsChoice c xs
  count : length c ≡ n

AllOf : {A : Type 0} → ℕ → List A → List (List A) → Type 0
AllOf n xs [] = Unit {0}
AllOf n xs (c ∷ cs) = IsOf n xs c × AllOf n xs cs

all-append : {A : Type 0} (n : ℕ) (xs : List A) (cs ds : List (List A)) → AllOf n xs cs → AllOf n xs ds
    → AllOf n xs (cs ++ ds)
unfolding AllOf
all-append n xs [] ds one other = other
all-append n xs (c ∷ cs) ds one other = (one.0, all-append n xs cs ds one.1 other)

all-first : {A : Type 0} (n : ℕ) (x : A) (xs : List A) (cs : List (List A)) → AllOf n xs cs
    → AllOf (suc n) (x ∷ xs) (map (λ c. x ∷ c) cs)
unfolding AllOf
all-first n x xs [] all = tt
all-first n x xs (c ∷ cs) all =
    (record { choice = inl (refl, all.0.choice); count = ap suc all.0.count }, all-first n x xs cs all.1)

all-skip : {A : Type 0} (n : ℕ) (x : A) (xs : List A) (cs : List (List A)) → AllOf n xs cs → AllOf n (x ∷ xs) cs
unfolding AllOf
all-skip n x xs [] all = tt
all-skip n x xs (c ∷ cs) all =
    (record { choice = skip c x xs all.0.choice; count = all.0.count }, all-skip n x xs cs all.1)

all-choices : {A : Type 0} (n : ℕ) (xs : List A) → AllOf n xs (choices n xs)
unfolding AllOf
all-choices zero xs = (record { choice = tt; count = refl }, tt)
all-choices (suc n) [] = tt
all-choices (suc n) (x ∷ xs) =
    all-append (suc n) (x ∷ xs) (map (λ c. x ∷ c) (choices n xs)) (choices (suc n) xs)
    (all-first n x xs (choices n xs) (all-choices n xs))
    (all-skip (suc n) x xs (choices (suc n) xs) (all-choices (suc n) xs))

all-at : {A : Type 0} (n : ℕ) (xs : List A) (cs : List (List A)) (i : ℕ) (d : List A) → AllOf n xs cs → i < length cs
    → IsOf n xs (get_or cs i d)
unfolding AllOf
all-at n xs [] i d all within = absurd (omega arith)
all-at n xs (c ∷ cs) zero d all within = all.0
all-at n xs (c ∷ cs) (suc i) d all within = all-at n xs cs i d all.1 (omega arith)

-- each of the choices of so many is one
pub choice-at : {A : Type 0} (n : ℕ) (xs : List A) (cs : List (List A)) (i : ℕ) (c : List A) → cs ≡ choices n xs
    → i < length cs → c ≡ get_or cs i c → IsChoice c xs × (length c ≡ n)
choice-at n xs cs i c same within at =
    let all = all-at n xs cs i c (subst (λ ds. AllOf n xs ds) (sym same) (all-choices n xs)) within in
    (subst (λ d. IsChoice d xs) (sym at) all.choice, ap length at ∙ all.count)

-- a choice of some and a choice of others are a choice of both
pub choice-joined : {A : Type 0} (c xs d ys : List A) → IsChoice c xs → IsChoice d ys → IsChoice (c ++ d) (xs ++ ys)
choice-joined [] [] d ys one other = other
choice-joined [] (x ∷ xs) d ys one other = skip d x (xs ++ ys) (choice-joined [] xs d ys tt other)
choice-joined (c ∷ cs) [] d ys one other = absurd one
choice-joined (c ∷ cs) (x ∷ xs) d ys (inl at) other = inl (at.0, choice-joined cs xs d ys at.1 other)
choice-joined (c ∷ cs) (x ∷ xs) d ys (inr after) other = inr (choice-joined (c ∷ cs) xs d ys after other)

-- a choice of cards has each rank of each suit no more often
pub choice-once : (c xs : List Card) → IsChoice c xs → AreOnce xs → AreOnce c
choice-once c xs is once suit r =
    le_trans (count-choice (λ (card : Card). eqb card.suit suit && eqb card.rank r) c xs is) (once suit r)
