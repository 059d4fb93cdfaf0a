-- A list that a loop writes index by index.
use Rattle.std.proofs.Common.{◌≡◌, ℕ, zero, suc, ◌+◌, ◌<◌, ◌≤◌, List, [], ◌∷◌, ◌++◌, length, take, drop, map, get_or, set, refl, ap, sym, ◌∙◌, add-one, arith}
use Rattle.std.proofs.lemmas.List.{length-map, take-map, get_or-map}

-- One index more, counted by its successor.
written : {A : Type 0} (target before : List A) (index : ℕ) (value other : A) → index < length target
    → index < length before → value ≡ get_or target index other
    → set (take index target ++ drop index before) index value ≡ take (suc index) target ++ drop (suc index) before
written [] before index value other within room is = absurd (omega arith)
written (item ∷ more) [] index value other within room is = absurd (omega arith)
written (item ∷ more) (old ∷ olds) zero value other within room is = rw is
written (item ∷ more) (old ∷ olds) (suc index) value other within room is =
    ap (λ items. item ∷ items) (written more olds index value other (omega arith) (omega arith) is)

-- One index more, where the items of one list are written over those of another.
pub written-next : {A : Type 0} (target before now : List A) (index : ℕ) (value other : A)
    → now ≡ take index target ++ drop index before → index < length target → index < length before
    → value ≡ get_or target index other
    → set now index value ≡ take (index + 1) target ++ drop (index + 1) before
written-next target before now index value other so_far within room is =
    ap (λ items. set items index value) so_far ∙ written target before index value other within room is
    ∙ ap (λ n. take n target ++ drop n before) (sym (add-one index))

-- One index more, where the front is rewritten by a function.
pub rewritten-more : {X Y : Type 0} (f : X → Y) (xs : List X) (ys : List Y) (i : ℕ) (d : X) → i < length xs
    → i < length ys
    → set (map f (take i xs) ++ drop i ys) i (f (get_or xs i d)) ≡ map f (take (i + 1) xs) ++ drop (i + 1) ys
rewritten-more f xs ys i d first second =
    written-next (map f xs) ys (map f (take i xs) ++ drop i ys) i (f (get_or xs i d)) (f d)
    (ap (λ front. front ++ drop i ys) (sym (take-map f i xs))) (rw (length-map xs f) first) second
    (sym (get_or-map f xs i d (f d) first))
    ∙ ap (λ front. front ++ drop (i + 1) ys) (take-map f (i + 1) xs)

-- All indices are rewritten.
pub rewritten-all : {X Y : Type 0} (f : X → Y) (xs : List X) (ys : List Y) (i : ℕ) → length xs ≡ length ys
    → length ys ≤ i
    → map f (take i xs) ++ drop i ys ≡ map f xs
rewritten-all f [] [] zero same all = refl
rewritten-all f [] [] (suc i) same all = refl
rewritten-all f [] (y ∷ ys) i same all = absurd (omega arith)
rewritten-all f (x ∷ xs) [] i same all = absurd (omega arith)
rewritten-all f (x ∷ xs) (y ∷ ys) zero same all = absurd (omega arith)
rewritten-all f (x ∷ xs) (y ∷ ys) (suc i) same all =
    ap (◌∷◌ (f x)) (rewritten-all f xs ys i (omega arith) (omega arith))

-- The index itself is as it was until it is rewritten.
pub rewritten-here : {X Y : Type 0} (f : X → Y) (xs : List X) (ys : List Y) (i : ℕ) (d : Y) → i < length xs
    → i < length ys
    → get_or (map f (take i xs) ++ drop i ys) i d ≡ get_or ys i d
rewritten-here f [] ys i d first second = absurd (omega arith)
rewritten-here f (x ∷ xs) [] i d first second = absurd (omega arith)
rewritten-here f (x ∷ xs) (y ∷ ys) zero d first second = refl
rewritten-here f (x ∷ xs) (y ∷ ys) (suc i) d first second = rewritten-here f xs ys i d (omega arith) (omega arith)
