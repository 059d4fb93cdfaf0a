-- The ranks of five cards of a category, by how often they occur.
use Rattle.std.proofs.Common.{◌≡◌, ℕ, zero, suc, ◌+◌, ◌*◌, ◌<◌, ◌≤◌, ◌⊎◌, inl, inr, Bool, true, false, eqb, leb, ltb, cond, List, [], ◌∷◌, ◌++◌, length, Some, None, refl, sym, ap, ap₂, ◌∙◌, subst, eqb-true, eq-eqb, leb-true, le-leb, append-nil, arith}
use Rattle.std.specs.Prelude.{Option, map}
use Rattle.std.proofs.lemmas.Bool.{and_parts}
use Rattle.std.proofs.lemmas.Bool.Decides.{nat_tests}
use Rattle.std.proofs.lemmas.List.{map-append, nil_from_length}
use Rattle.card_set.specs.declared.card.Card.{Card}
use Rattle.card_choices.proofs.ListOrder.{Upto, upto_itself}
use Rattle.rulebook.proofs.Tests.{count_by-cons}
use Rattle.hand_rank.specs.declared.category.Category.{Category}
use Rattle.hand_rank.specs.Sets.{falling}
use Rattle.hand_rank.specs.Shapes.{most_of, repeated, shape_at, number_of, is_form}
use Rattle.hand_rank.specs.Values.{category_of, count_of_rank, distinct_ranks, run_top, are_of_one_suit, value_of_distinct, value_by, five_card_value}
use Rattle.hand_rank.proofs.CardCounts.{other-rank, distinct_ranks-sections}
use Rattle.hand_rank.proofs.Chosen.{occurs}
use Rattle.hand_rank.proofs.FiveLaws.{exactly, length-exactly, occurs-append, ones}
use Rattle.hand_rank.proofs.Sections.{falling-none, falling-same, falling-empty, sections}
use Rattle.hand_rank.proofs.ShownValues.{often_of, AreShown, head, tail, shown-shape, shown-value, distinct-above}

-- the number of the category tells how often ranks occur
pub of-number : (five : List Card) (n : ℕ) (ranks : List ℕ) → AreShown five → five_card_value five ≡ n ∷ ranks
    → often_of five ≡ shape_at n
of-number five n ranks shown is =
    elim (shown-shape five shown) [
      | inl a ↦ a ∙ ap shape_at (head (shown-value five (4 ∷ 1 ∷ []) a ∙ is))
      | inr b ↦ elim b [
        | inl a ↦ a ∙ ap shape_at (head (shown-value five (3 ∷ 2 ∷ []) a ∙ is))
        | inr c ↦ elim c [
          | inl a ↦ a ∙ ap shape_at (head (shown-value five (3 ∷ 1 ∷ 1 ∷ []) a ∙ is))
          | inr d ↦ elim d [
            | inl a ↦ a ∙ ap shape_at (head (shown-value five (2 ∷ 2 ∷ 1 ∷ []) a ∙ is))
            | inr e ↦ elim e [
              | inl a ↦ a ∙ ap shape_at (head (shown-value five (2 ∷ 1 ∷ 1 ∷ 1 ∷ []) a ∙ is))
              | inr a ↦ a ∙ single (run_top (distinct_ranks five)) (are_of_one_suit five) (distinct_ranks five)
                  (shown-value five ones a ∙ is)
            ]
          ]
        ]
      ]
    ]
  where
    single : (top : Option ℕ) (one : Bool) (all : List ℕ) → value_of_distinct top one all ≡ n ∷ ranks
        → ones ≡ shape_at n
    single (Some top) true all at = ap shape_at (head at)
    single (Some top) false all at = ap shape_at (head at)
    single None true all at = ap shape_at (head at)
    single None false all at = ap shape_at (head at)

-- a rank that occurs is no more than the ace
pub rank-within : (cards : List Card) (r : ℕ) → 1 ≤ count_of_rank cards r → r < 15
rank-within cards r some =
    elim (leb 15 r) as (λ b. leb 15 r ≡ b → r < 15) [
      | true ↦ λ high. let none = other-rank cards r (inl (leb-true 15 r high)) in absurd (omega arith)
      | false ↦ λ low. grind (arith, nat_tests)
    ] refl

-- hands of a category have m ranks k times and c ranks j times
pub record IsForm (number m k c j : ℕ) : Type 0 where
  pub shape : shape_at number ≡ repeated m k ++ repeated c j
  pub number_is : number_of (category_of (repeated m k ++ repeated c j)) ≡ number
  pub sum : m * k + c * j ≡ 5
  pub few : m + c ≤ 5
  pub most : most_of number ≡ m
  pub others : 1 ≤ c
  pub some : 1 ≤ j
  pub less : j < k
  pub times : k ≤ 4

pub form-is : (number m k c j : ℕ) → shape_at number ≡ repeated m k ++ repeated c j → is_form number m k c j ≡ true
    → IsForm number m k c j
form-is number m k c j shape is =
    let a = and_parts _ (leb k 4) is in
    let b = and_parts _ (ltb j k) a.0 in
    let d = and_parts _ (leb 1 j) b.0 in
    let e = and_parts _ (leb 1 c) d.0 in
    let f = and_parts _ (eqb (most_of number) m) e.0 in
    let g = and_parts _ (leb (m + c) 5) f.0 in
    let h = and_parts (eqb (number_of (category_of (shape_at number))) number) (eqb (m * k + c * j) 5) g.0 in
    record {
      shape = shape;
      number_is = ap (λ often. number_of (category_of often)) (sym shape)
          ∙ eqb-true (number_of (category_of (shape_at number))) number h.0;
      sum = eqb-true (m * k + c * j) 5 h.1;
      few = leb-true (m + c) 5 g.1;
      most = eqb-true (most_of number) m f.1;
      others = leb-true 1 c e.1;
      some = leb-true 1 j d.1;
      less = let less = b.1 in grind (arith, nat_tests);
      times = leb-true k 4 a.1;
    }

-- the ranks that occur so often, then those that occur so often
abbrev both_parts : (count : ℕ → ℕ) (k j : ℕ) → Bool → Bool → List ℕ
both_parts count k j one other =
    cond one (falling (λ r. eqb (count r) k) 15) [] ++ cond other (falling (λ r. eqb (count r) j) 15) []

-- where ranks occur k times or j times, they are listed so
sections-both : (times k j : ℕ) (count : ℕ → ℕ) → 1 ≤ j → j < k
    → ((r : ℕ) → r < 15 → 1 ≤ count r → (count r ≡ k) ⊎ (count r ≡ j))
    → sections times count ≡ both_parts count k j (leb k times) (leb j times)
unfolding sections
sections-both zero k j count some less either =
    let high : leb k 0 ≡ false = grind (arith, nat_tests) in
    let low : leb j 0 ≡ false = grind (arith, nat_tests) in
    sym (ap₂ (both_parts count k j) high low)
sections-both (suc t) k j count some less either =
    let later = sections-both t k j count some less either in
    let exact : ℕ → List ℕ = λ n. falling (λ r. eqb (count r) n) 15 in
    elim (eqb (suc t) k) as (λ b. eqb (suc t) k ≡ b
    → exact (suc t) ++ sections t count ≡ both_parts count k j (leb k (suc t)) (leb j (suc t))) [
      | true ↦ λ same.
          let is : suc t ≡ k = eqb-true (suc t) k same in
          let a : leb k t ≡ false = grind (arith, nat_tests) in
          let b : leb j t ≡ true = grind (arith, nat_tests) in
          let d : leb k (suc t) ≡ true = grind (arith, nat_tests) in
          let e : leb j (suc t) ≡ true = grind (arith, nat_tests) in
          ap₂ (λ n rest. exact n ++ rest) is (later ∙ ap₂ (both_parts count k j) a b)
          ∙ sym (ap₂ (both_parts count k j) d e)
      | false ↦ λ not_k. elim (eqb (suc t) j) as (λ b. eqb (suc t) j ≡ b
          → exact (suc t) ++ sections t count ≡ both_parts count k j (leb k (suc t)) (leb j (suc t))) [
            | true ↦ λ same.
                let is : suc t ≡ j = eqb-true (suc t) j same in
                let a : leb k t ≡ false = grind (arith, nat_tests) in
                let b : leb j t ≡ false = grind (arith, nat_tests) in
                let d : leb k (suc t) ≡ false = grind (arith, nat_tests) in
                let e : leb j (suc t) ≡ true = grind (arith, nat_tests) in
                ap₂ (λ n rest. exact n ++ rest) is (later ∙ ap₂ (both_parts count k j) a b)
                ∙ append-nil (exact j) ∙ sym (ap₂ (both_parts count k j) d e)
            | false ↦ λ not_j.
                let a : leb k t ≡ leb k (suc t) = grind (arith, nat_tests) in
                let b : leb j t ≡ leb j (suc t) = grind (arith, nat_tests) in
                ap₂ (λ ranks rest. ranks ++ rest)
                (falling-empty (λ r. eqb (count r) (suc t)) 15 (λ r within. never r within not_k not_j))
                (later ∙ ap₂ (both_parts count k j) a b)
          ] refl
    ] refl
  where
    never : (r : ℕ) → r < 15 → eqb (suc t) k ≡ false → eqb (suc t) j ≡ false → eqb (count r) (suc t) ≡ false
    never r within not_k not_j = elim (leb 1 (count r)) as (λ b. leb 1 (count r) ≡ b → eqb (count r) (suc t) ≡ false) [
      | true ↦ λ occurs. elim (either r within (leb-true 1 (count r) occurs)) [
        | inl is ↦ grind (arith, nat_tests)
        | inr is ↦ grind (arith, nat_tests)
      ]
      | false ↦ λ none. grind (arith, nat_tests)
    ] refl

pub distinct-both : (five : List Card) (k j : ℕ) → 1 ≤ j → j < k → k ≤ 4
    → ((r : ℕ) → 1 ≤ count_of_rank five r → (count_of_rank five r ≡ k) ⊎ (count_of_rank five r ≡ j))
    → distinct_ranks five ≡ exactly five k ++ exactly five j
distinct-both five k j some less few either =
    distinct_ranks-sections five
    ∙ sections-both 4 k j (count_of_rank five) some less (λ r within occurs. either r occurs)
    ∙ ap₂ (both_parts (count_of_rank five) k j) (le-leb k 4 few) (le-leb j 4 (omega arith))

-- how often a number is in a list of it alone
occurs-repeated : (n often i : ℕ) → occurs (repeated n often) i ≡ cond (eqb often i) n 0
occurs-repeated zero often i = elim (eqb often i) as (λ b. ◌≡◌ {A = ℕ} 0 (cond b 0 0)) [ true ↦ refl | false ↦ refl ]
occurs-repeated (suc n) often i =
    count_by-cons (λ s. eqb s i) often (repeated n often)
    ∙ ap (λ m. cond (eqb often i) 1 0 + m) (occurs-repeated n often i) ∙ one_more (eqb often i)
  where
    one_more : (b : Bool) → cond b 1 0 + cond b n 0 ≡ cond b (suc n) 0
    one_more true = omega arith
    one_more false = refl

-- five cards with some ranks k times and others j times
pub record IsShaped (five : List Card) (m k c j : ℕ) (ranks : List ℕ) : Type 0 where
  pub whole : ranks ≡ exactly five k ++ exactly five j
  pub most : length (exactly five k) ≡ m
  pub many : length (exactly five j) ≡ c
  pub only : (r : ℕ) → 1 ≤ count_of_rank five r → (count_of_rank five r ≡ k) ⊎ (count_of_rank five r ≡ j)

-- a hand of a category has them so
pub shaped : (five : List Card) (ranks : List ℕ) (number m k c j : ℕ) → IsForm number m k c j → AreShown five
    → five_card_value five ≡ number ∷ ranks → IsShaped five m k c j ranks
shaped five ranks number m k c j form shown is =
    let often = of-number five number ranks shown is ∙ form.shape in
    let some = form.some in
    let less = form.less in
    let times = form.times in
    let value = shown-value five (repeated m k ++ repeated c j) often ∙ is in
    let all : (r : ℕ) → 1 ≤ count_of_rank five r → (count_of_rank five r ≡ k) ⊎ (count_of_rank five r ≡ j) =
    λ r occurs. only r occurs often in
    record {
      whole = sym (told (category_of (repeated m k ++ repeated c j)) (run_top (distinct_ranks five))
          (are_of_one_suit five) (distinct_ranks five) form.number_is value)
          ∙ distinct-both five k j form.some form.less form.times all;
      most = length-exactly five (repeated m k ++ repeated c j) k often (omega arith) form.times
          ∙ counts k ∙ first;
      many = length-exactly five (repeated m k ++ repeated c j) j often form.some (omega arith)
          ∙ counts j ∙ second;
      only = all;
    }
  where
    counts : (i : ℕ) → occurs (repeated m k ++ repeated c j) i ≡ cond (eqb k i) m 0 + cond (eqb j i) c 0
    counts i = occurs-append (repeated m k) (repeated c j) i
        ∙ ap₂ (λ x y. x + y) (occurs-repeated m k i) (occurs-repeated c j i)

    first : cond (eqb k k) m 0 + cond (eqb j k) c 0 ≡ m
    first =
        let less = form.less in
        let same : eqb k k ≡ true = eq-eqb k k refl in
        let apart : eqb j k ≡ false = grind (arith, nat_tests) in
        rw (same, apart) (omega arith)

    second : cond (eqb k j) m 0 + cond (eqb j j) c 0 ≡ c
    second =
        let less = form.less in
        let same : eqb j j ≡ true = eq-eqb j j refl in
        let apart : eqb k j ≡ false = grind (arith, nat_tests) in
        rw (same, apart) (omega arith)

    only : (r : ℕ) → 1 ≤ count_of_rank five r → often_of five ≡ repeated m k ++ repeated c j
        → (count_of_rank five r ≡ k) ⊎ (count_of_rank five r ≡ j)
    only r occurs often =
        let n = count_of_rank five r in
        elim (eqb n k) as (λ b. eqb n k ≡ b → (n ≡ k) ⊎ (n ≡ j)) [
          | true ↦ λ same. inl (eqb-true n k same)
          | false ↦ λ not_k. elim (eqb n j) as (λ b. eqb n j ≡ b → (n ≡ k) ⊎ (n ≡ j)) [
            | true ↦ λ same. inr (eqb-true n j same)
            | false ↦ λ not_j.
                let one : eqb k n ≡ false = grind (arith, nat_tests) in
                let other : eqb j n ≡ false = grind (arith, nat_tests) in
                let neither : cond (eqb k n) m 0 + cond (eqb j n) c 0 ≡ 0 =
                ap₂ (λ x y. cond x m 0 + cond y c 0) one other in
                let none = nil_from_length (exactly five n)
                (length-exactly five (repeated m k ++ repeated c j) n often occurs (shown.few r) ∙ counts n ∙ neither)
                in
                let fails = falling-none (λ s. eqb (count_of_rank five s) n) 15 r none (rank-within five r occurs) in
                let itself : eqb n n ≡ true = eq-eqb n n refl in
                absurd cc
          ] refl
        ] refl

    told : (category : Option Category) (top : Option ℕ) (one : Bool) (all : List ℕ) → number_of category ≡ number
        → value_by category top one all ≡ number ∷ ranks → all ≡ ranks
    told (Some category) top one all same at = tail at
    told None (Some top) true all same at = let bad : 8 ≡ number = head at in absurd (omega arith)
    told None (Some top) false all same at = let bad : 4 ≡ number = head at in absurd (omega arith)
    told None None true all same at = let bad : 5 ≡ number = head at in absurd (omega arith)
    told None None false all same at = tail at

-- k times each rank that passes a test, and j times each that passes another
abbrev pub shaped_count : (p q : ℕ → Bool) (k j : ℕ) → ℕ → ℕ
shaped_count p q k j r = cond (leb 15 r) 0 (cond (p r) k (cond (q r) j 0))

pub shaped-inside : (p q : ℕ → Bool) (k j r : ℕ) → r < 15
    → ◌≡◌ {A = ℕ} (cond (leb 15 r) 0 (cond (p r) k (cond (q r) j 0))) (cond (p r) k (cond (q r) j 0))
shaped-inside p q k j r within = let low : leb 15 r ≡ false = grind (arith, nat_tests) in rw low refl

-- ranks that occur so often do so
pub all-so_often : (count : ℕ → ℕ) (i n : ℕ) → map count (falling (λ r. eqb (count r) i) n)
    ≡ repeated (length (falling (λ r. eqb (count r) i) n)) i
unfolding falling
all-so_often count i zero = refl
all-so_often count i (suc n) =
    let later = all-so_often count i n in
    let rest = falling (λ r. eqb (count r) i) n in
    elim (eqb (count n) i) as (λ b. eqb (count n) i ≡ b
    → map count (cond b (n ∷ rest) rest) ≡ repeated (length (cond b (n ∷ rest) rest)) i) [
      | true ↦ λ same. ap₂ (λ x xs. x ∷ xs) (eqb-true (count n) i same) later
      | false ↦ λ apart. later
    ] refl

-- what five cards with ranks so often show
pub record Shows (five : List Card) (p q : ℕ → Bool) (k j : ℕ) : Type 0 where
  pub distinct : distinct_ranks five ≡ falling p 15 ++ falling q 15
  pub often : often_of five ≡ repeated (length (falling p 15)) k ++ repeated (length (falling q 15)) j

pub shows : (five : List Card) (p q : ℕ → Bool) (k j : ℕ) → 1 ≤ j → j < k → k ≤ 4
    → ((r : ℕ) → r < 15 → p r ≡ true → q r ≡ false) → ((r : ℕ) → count_of_rank five r ≡ shaped_count p q k j r)
    → Shows five p q k j
shows five p q k j some less few apart counts =
    let is = distinct-both five k j some less few
    (λ r occurs. either (leb 15 r) (p r) (q r) (count_of_rank five r) (counts r) occurs) in
    let one : exactly five k ≡ falling p 15 = falling-same (λ r. eqb (count_of_rank five r) k) p 15
    (λ r within. ap (λ n. eqb n k) (counts r ∙ shaped-inside p q k j r within) ∙ first (p r) (q r)) in
    let other : exactly five j ≡ falling q 15 = falling-same (λ r. eqb (count_of_rank five r) j) q 15
    (λ r within. ap (λ n. eqb n j) (counts r ∙ shaped-inside p q k j r within)
    ∙ second (p r) (q r) (apart r within)) in
    record {
      distinct = is ∙ ap₂ (λ xs ys. xs ++ ys) one other;
      often = ap (map (count_of_rank five)) is
          ∙ map-append (count_of_rank five) (exactly five k) (exactly five j)
          ∙ ap₂ (λ xs ys. xs ++ ys) (all-so_often (count_of_rank five) k 15) (all-so_often (count_of_rank five) j 15)
          ∙ ap₂ (λ xs ys. repeated (length xs) k ++ repeated (length ys) j) one other;
    }
  where
    either : (high a b : Bool) (n : ℕ) → n ≡ cond high 0 (cond a k (cond b j 0)) → 1 ≤ n → (n ≡ k) ⊎ (n ≡ j)
    either true a b n is occurs = absurd (omega arith)
    either false true b n is occurs = inl is
    either false false true n is occurs = inr is
    either false false false n is occurs = absurd (omega arith)

    first : (a b : Bool) → eqb (cond a k (cond b j 0)) k ≡ a
    first true b = eq-eqb k k refl
    first false true = grind (arith, nat_tests)
    first false false = grind (arith, nat_tests)

    second : (a b : Bool) → (a ≡ true → b ≡ false) → eqb (cond a k (cond b j 0)) j ≡ b
    second true b not_both =
        let differs : eqb k j ≡ false = grind (arith, nat_tests) in differs ∙ sym (not_both refl)
    second false true not_both = eq-eqb j j refl
    second false false not_both = grind (arith, nat_tests)

-- and they are worth no less than these ranks in their category
pub shows-above : (five : List Card) (p q : ℕ → Bool) (number m k c j : ℕ) → IsForm number m k c j
    → length (falling p 15) ≡ m → length (falling q 15) ≡ c → Shows five p q k j
    → Upto (number ∷ falling p 15 ++ falling q 15) (five_card_value five)
shows-above five p q number m k c j form most many is =
    let often : often_of five ≡ repeated m k ++ repeated c j = is.often
    ∙ ap₂ (λ x y. repeated x k ++ repeated y j) most many in
    subst (λ ranks. Upto (number ∷ ranks) (five_card_value five)) is.distinct
    (subst (λ v. Upto (number ∷ distinct_ranks five) v) (shown-value five (repeated m k ++ repeated c j) often)
    (above (category_of (repeated m k ++ repeated c j)) form.number_is))
  where
    above : (category : Option Category) → number_of category ≡ number → Upto (number ∷ distinct_ranks five)
        (value_by category (run_top (distinct_ranks five)) (are_of_one_suit five) (distinct_ranks five))
    above (Some category) same = inr (sym same, upto_itself (distinct_ranks five))
    above None same = subst (λ n. Upto (n ∷ distinct_ranks five)
        (value_of_distinct (run_top (distinct_ranks five)) (are_of_one_suit five) (distinct_ranks five))) same
        (distinct-above (run_top (distinct_ranks five)) (are_of_one_suit five) (distinct_ranks five)
        (distinct_ranks five) (upto_itself (distinct_ranks five)))
