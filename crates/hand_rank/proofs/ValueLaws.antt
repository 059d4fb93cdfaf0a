-- Values compare as their category and their two sets of ranks do.
use Rattle.std.proofs.Common.{◌≡◌, ℕ, ◌^◌, ◌<◌, inl, inr, true, false, eqb, ltb, List, [], ◌∷◌, ◌++◌, length, Ordering, Less, Equal, Greater, refl, sym, ap, ◌∙◌, subst, arith}
use Rattle.std.specs.Ordering.{nat_cmp, ordering_then, ordering_reverse}
use Rattle.std.specs.Cmp.Lexicographic.{slice_cmp}
use Rattle.std.proofs.lemmas.Bool.Decides.{nat_tests}
use Rattle.std.proofs.lemmas.Cmp.{nat_list_cmp_total, tied_itself, ranked, by_ranked}
use Rattle.hand_rank.specs.declared.high_value.HighValue.TheInside.{Inside}
use Rattle.hand_rank.specs.HighValue.{numbers_of, IsSized}
use Rattle.hand_rank.specs.Sets.{ranks_of}
use Rattle.hand_rank.specs.Shapes.{most_of}
use Rattle.hand_rank.specs.Values.{category_number}
use Rattle.hand_rank.proofs.SetOrder.{Before, numbers-before}

-- a list that comes before another is less
before-less : (xs ys : List ℕ) → Before xs ys → slice_cmp nat_cmp xs ys ≡ Less
before-less [] [] is = absurd is
before-less [] (y ∷ ys) is = refl
before-less (x ∷ xs) [] is = absurd is
before-less (x ∷ xs) (y ∷ ys) (inl less) = let lower : ltb x y ≡ true = grind (arith, nat_tests) in rw lower refl
before-less (x ∷ xs) (y ∷ ys) (inr at) =
    let is : x ≡ y = at.0 in
    let lower : ltb x y ≡ false = grind (arith, nat_tests) in
    let same : eqb x y ≡ true = grind (arith, nat_tests) in
    rw (lower, same) (before-less xs ys at.1)

-- sets compare as numbers as their lists do
sets-compare : (a b : ℕ) → a < 2 ^ 16 → b < 2 ^ 16 → nat_cmp a b ≡ slice_cmp nat_cmp (ranks_of a) (ranks_of b)
sets-compare a b fits also =
    by_ranked (a < b) (a ≡ b) (b < a) (nat_cmp a b) (ranked a b (nat_cmp a b) refl)
    (λ is less. is ∙ sym (before-less (ranks_of a) (ranks_of b) (numbers-before a b fits also less)))
    (λ is same. is ∙ sym (tied_itself nat_list_cmp_total (ranks_of a))
    ∙ ap (λ c. slice_cmp nat_cmp (ranks_of a) (ranks_of c)) same)
    (λ is more. is
    ∙ sym (nat_list_cmp_total.antisymm (ranks_of a) (ranks_of b)
    ∙ ap ordering_reverse (before-less (ranks_of b) (ranks_of a) (numbers-before b a also fits more))))

then-then : (a b c : Ordering) → ordering_then a (ordering_then b c) ≡ ordering_then (ordering_then a b) c
then-then Less b c = refl
then-then Equal b c = refl
then-then Greater b c = refl

-- lists that begin with as many numbers compare by these first
joined-compare : (xs ys us vs : List ℕ) → length xs ≡ length ys
    → ordering_then (slice_cmp nat_cmp xs ys) (slice_cmp nat_cmp us vs) ≡ slice_cmp nat_cmp (xs ++ us) (ys ++ vs)
joined-compare [] [] us vs same = refl
joined-compare [] (y ∷ ys) us vs same = absurd (omega arith)
joined-compare (x ∷ xs) [] us vs same = absurd (omega arith)
joined-compare (x ∷ xs) (y ∷ ys) us vs same =
    sym (then-then (nat_cmp x y) (slice_cmp nat_cmp xs ys) (slice_cmp nat_cmp us vs))
    ∙ ap (ordering_then (nat_cmp x y)) (joined-compare xs ys us vs (omega arith))

-- values compare as their numbers do: by the category, then by the ranks that occur most often, then by the others
pub values-compare : (one other : Inside) → IsSized one → IsSized other
    → ordering_then (ordering_then (nat_cmp (category_number one.category) (category_number other.category))
    (nat_cmp one.most.bits other.most.bits)) (nat_cmp one.others.bits other.others.bits)
    ≡ slice_cmp nat_cmp (numbers_of one) (numbers_of other)
values-compare one other is also =
    let m = category_number one.category in
    let n = category_number other.category in
    let most = nat_cmp one.most.bits other.most.bits in
    let others = nat_cmp one.others.bits other.others.bits in
    let ranks = slice_cmp nat_cmp (ranks_of one.most.bits ++ ranks_of one.others.bits)
    (ranks_of other.most.bits ++ ranks_of other.others.bits) in
    let apart = λ (o : Ordering) (decides : (p : Ordering) → ordering_then o p ≡ o) (at : nat_cmp m n ≡ o).
    subst (λ p. ordering_then (ordering_then p most) others ≡ ordering_then p ranks) (sym at)
    (ap (λ p. ordering_then p others) (decides most) ∙ decides others ∙ sym (decides ranks)) in
    by_ranked (m < n) (m ≡ n) (n < m) (nat_cmp m n) (ranked m n (nat_cmp m n) refl)
    (λ at less. apart Less (λ p. refl) at)
    (λ at same. subst (λ p. ordering_then (ordering_then p most) others ≡ ordering_then p ranks) (sym at)
    ((λ i. ordering_then (sets-compare one.most.bits other.most.bits is.most_within also.most_within i)
    (sets-compare one.others.bits other.others.bits is.others_within also.others_within i))
    ∙ joined-compare (ranks_of one.most.bits) (ranks_of other.most.bits) (ranks_of one.others.bits)
    (ranks_of other.others.bits) (is.most ∙ ap most_of same ∙ sym also.most)))
    (λ at more. apart Greater (λ p. refl) at)
