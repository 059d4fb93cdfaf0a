-- What five cards show is their value.
use Rattle.std.proofs.Common.{◌≡◌, ℕ, zero, suc, ◌+◌, ◌-◌, ◌<◌, ◌≤◌, ◌⊎◌, inl, inr, Bool, true, false, eqb, cond, List, [], ◌∷◌, ◌++◌, length, Some, None, refl, sym, ap, ap₂, ◌∙◌, subst, eqb-true, append-nil, arith}
use Rattle.std.specs.Prelude.{map}
use Rattle.std.proofs.lemmas.Bool.Decides.{nat_tests}
use Rattle.std.proofs.lemmas.List.{map-append, nil_from_length}
use Rattle.std.proofs.lemmas.List.Sums.{sum_by-append}
use Rattle.card_set.specs.declared.card.Card.{Card}
use Rattle.rulebook.proofs.Tests.{count_by-cons}
use Rattle.hand_rank.specs.Runs.{highest_run}
use Rattle.hand_rank.specs.Sets.{has_rank, falling, ranks_of}
use Rattle.hand_rank.specs.Values.{count_of_rank, distinct_ranks, run_top}
use Rattle.hand_rank.proofs.CardCounts.{other-rank, distinct_ranks-sections, total-cards}
use Rattle.hand_rank.proofs.Chosen.{occurs}
use Rattle.hand_rank.proofs.Needs.{has-only}
use Rattle.hand_rank.proofs.RunLaws.{AreFive, occurring, run-found, IsRunTo, run-is, run-ranks, five-run, run-five}
use Rattle.hand_rank.proofs.Sections.{falling-same, falling-empty, sections, total}
use Rattle.hand_rank.proofs.ShownValues.{often_of, AreShown, occurs-from_two}

-- the ranks that occur just so often
abbrev pub exactly : List Card → ℕ → List ℕ
exactly cards k = falling (λ r. eqb (count_of_rank cards r) k) 15

-- the distinct ranks are those that occur just four times, then those three times, then those twice, then those once
pub distinct-exactly : (cards : List Card)
    → distinct_ranks cards ≡ exactly cards 4 ++ (exactly cards 3 ++ (exactly cards 2 ++ (exactly cards 1 ++ [])))
unfolding sections
distinct-exactly cards = distinct_ranks-sections cards

-- ranks that occur so often, and how often they do
falling-often : (count : ℕ → ℕ) (j k n : ℕ)
    → occurs (map count (falling (λ r. eqb (count r) j) n)) k
    ≡ cond (eqb j k) (length (falling (λ r. eqb (count r) j) n)) 0
unfolding falling
falling-often count j k zero = elim (eqb j k) as (λ b. ◌≡◌ {A = ℕ} 0 (cond b 0 0)) [ true ↦ refl | false ↦ refl ]
falling-often count j k (suc n) =
    let later = falling-often count j k n in
    let rest = falling (λ r. eqb (count r) j) n in
    elim (eqb (count n) j) as (λ b. eqb (count n) j ≡ b
    → occurs (map count (cond b (n ∷ rest) rest)) k ≡ cond (eqb j k) (length (cond b (n ∷ rest) rest)) 0) [
      | true ↦ λ same.
          let is : count n ≡ j = eqb-true (count n) j same in
          count_by-cons (λ s. eqb s k) (count n) (map count rest)
          ∙ ap₂ (λ m t. cond (eqb m k) 1 0 + t) is later
          ∙ one_more (eqb j k) (length rest)
      | false ↦ λ apart. later
    ] refl
  where
    one_more : (b : Bool) (n : ℕ) → cond b 1 0 + cond b n 0 ≡ cond b (suc n) 0
    one_more true n = omega arith
    one_more false n = refl

pub occurs-append : (xs ys : List ℕ) (k : ℕ) → occurs (xs ++ ys) k ≡ occurs xs k + occurs ys k
occurs-append xs ys k = sum_by-append (λ s. cond (eqb s k) 1 0) xs ys

-- how many ranks occur so often
often-parts : (cards : List Card) (k : ℕ) → occurs (often_of cards) k
    ≡ cond (eqb 4 k) (length (exactly cards 4)) 0 +
    (cond (eqb 3 k) (length (exactly cards 3)) 0 +
    (cond (eqb 2 k) (length (exactly cards 2)) 0 + (cond (eqb 1 k) (length (exactly cards 1)) 0 + 0)))
often-parts cards k =
    let count = count_of_rank cards in
    let e4 = exactly cards 4 in
    let e3 = exactly cards 3 in
    let e2 = exactly cards 2 in
    let e1 = exactly cards 1 in
    ap (λ ranks. occurs (map count ranks) k) (distinct-exactly cards)
    ∙ split count e4 (e3 ++ (e2 ++ (e1 ++ []))) k ∙ ap₂ (λ a b. a + b) (falling-often count 4 k 15)
    (split count e3 (e2 ++ (e1 ++ [])) k ∙ ap₂ (λ a b. a + b) (falling-often count 3 k 15)
    (split count e2 (e1 ++ []) k ∙ ap₂ (λ a b. a + b) (falling-often count 2 k 15)
    (split count e1 [] k ∙ ap (λ a. a + 0) (falling-often count 1 k 15))))
  where
    split : (count : ℕ → ℕ) (xs ys : List ℕ) (k : ℕ)
        → occurs (map count (xs ++ ys)) k ≡ occurs (map count xs) k + occurs (map count ys) k
    split count xs ys k = ap (λ zs. occurs zs k) (map-append count xs ys)
        ∙ occurs-append (map count xs) (map count ys) k

-- a number from one to four
pub four_of : (n : ℕ) → 1 ≤ n → n ≤ 4 → (n ≡ 4) ⊎ ((n ≡ 3) ⊎ ((n ≡ 2) ⊎ (n ≡ 1)))
four_of n some few = grind arith

-- how often the distinct ranks occur tells how many of them occur so often
pub length-exactly : (cards : List Card) (often : List ℕ) (i : ℕ) → often_of cards ≡ often → 1 ≤ i → i ≤ 4
    → length (exactly cards i) ≡ occurs often i
length-exactly cards often i is some few =
    let at : (n : ℕ) → length (exactly cards n) ≡ occurs often n → i ≡ n → length (exactly cards i) ≡ occurs often i =
    λ n same e. subst (λ m. length (exactly cards m) ≡ occurs often m) (sym e) same in
    elim (four_of i some few) [
      | inl e ↦ at 4 (let all = often-parts cards 4 in let same = ap (λ o. occurs o 4) is in omega arith) e
      | inr three ↦ elim three [
        | inl e ↦ at 3 (let all = often-parts cards 3 in let same = ap (λ o. occurs o 3) is in omega arith) e
        | inr two ↦ elim two [
          | inl e ↦ at 2 (let all = often-parts cards 2 in let same = ap (λ o. occurs o 2) is in omega arith) e
          | inr e ↦ at 1 (let all = often-parts cards 1 in let same = ap (λ o. occurs o 1) is in omega arith) e
        ]
      ]
    ]

-- the one rank of a set of one
pub falling-one : (n top : ℕ) → top < n → falling (λ r. eqb r top) n ≡ top ∷ []
unfolding falling
falling-one zero top within = absurd (omega arith)
falling-one (suc n) top within =
    elim (eqb n top) as (λ b. eqb n top ≡ b
    → cond b (n ∷ falling (λ r. eqb r top) n) (falling (λ r. eqb r top) n) ≡ top ∷ []) [
      | true ↦ λ same.
          let is : n ≡ top = eqb-true n top same in
          ap₂ (λ r rs. r ∷ rs) is (falling-empty (λ r. eqb r top) n (λ r below. grind (arith, nat_tests)))
      | false ↦ λ apart. falling-one n top (grind (arith, nat_tests))
    ] refl

-- the list of the ranks of a set with a single rank has just that rank
pub ranks-one : (bits top : ℕ) → top < 16 → ((r : ℕ) → has_rank bits r ≡ eqb r top) → ranks_of bits ≡ top ∷ []
ranks-one bits top within is = falling-same (has_rank bits) (λ r. eqb r top) 16 (λ r below. is r)
    ∙ falling-one 16 top within

-- The list stands for five distinct ranks, each of them once.
abbrev pub ones : List ℕ
ones = 1 ∷ 1 ∷ 1 ∷ 1 ∷ 1 ∷ []

-- the ranks of five cards that all occur once
pub record AreOnes (five : List Card) : Type 0 where
  pub four : exactly five 4 ≡ []
  pub three : exactly five 3 ≡ []
  pub two : exactly five 2 ≡ []
  pub distinct : distinct_ranks five ≡ exactly five 1
  pub many : length (exactly five 1) ≡ 5

pub are-ones : (five : List Card) → often_of five ≡ ones → AreOnes five
are-ones five often =
    let four = nil_from_length (exactly five 4) (length-exactly five ones 4 often (omega arith) (omega arith)) in
    let three = nil_from_length (exactly five 3) (length-exactly five ones 3 often (omega arith) (omega arith)) in
    let two = nil_from_length (exactly five 2) (length-exactly five ones 2 often (omega arith) (omega arith)) in
    record {
      four = four;
      three = three;
      two = two;
      distinct = distinct-exactly five
          ∙ ap₂ (λ a b. a ++ (b ++ (exactly five 2 ++ (exactly five 1 ++ [])))) four three
          ∙ ap (λ c. c ++ (exactly five 1 ++ [])) two ∙ append-nil (exactly five 1);
      many = length-exactly five ones 1 often (omega arith) (omega arith);
    }

-- numbers that pass a test, each lower than the one before
abbrev pub Lower : (ℕ → Bool) → ℕ → List ℕ → Type 0
Lower test n [] = Unit {0}
Lower test n (x ∷ xs) = (x < n) × (test x ≡ true) × Lower test x xs

-- and numbers that are listed are such
pub falling-lower : (test : ℕ → Bool) (n m : ℕ) → n ≤ m → Lower test m (falling test n)
unfolding falling
falling-lower test zero m few = tt
falling-lower test (suc n) m few =
    (elim (test n) as (λ b. test n ≡ b → Lower test m (cond b (n ∷ falling test n) (falling test n))) [
      | true ↦ λ is. (omega arith, is, falling-lower test n n (omega arith))
      | false ↦ λ is_not. falling-lower test n m (omega arith)
    ]) refl

-- five ranks that occur once fall
pub shown-five : (five : List Card) → often_of five ≡ ones → AreFive (count_of_rank five) (distinct_ranks five)
shown-five five often =
    let are = are-ones five often in
    subst (λ ranks. AreFive (count_of_rank five) ranks) (sym are.distinct)
    (by (exactly five 1) (falling-lower (λ r. eqb (count_of_rank five r) 1) 15 15 (omega arith)) are.many)
  where
    some : (r : ℕ) → eqb (count_of_rank five r) 1 ≡ true → 1 ≤ count_of_rank five r
    some r is = grind (arith, nat_tests)

    by : (ranks : List ℕ) → Lower (λ r. eqb (count_of_rank five r) 1) 15 ranks → length ranks ≡ 5
        → AreFive (count_of_rank five) ranks
    by [] is few = absurd (omega arith)
    by (a ∷ []) is few = absurd (omega arith)
    by (a ∷ b ∷ []) is few = absurd (omega arith)
    by (a ∷ b ∷ c ∷ []) is few = absurd (omega arith)
    by (a ∷ b ∷ c ∷ d ∷ []) is few = absurd (omega arith)
    by (a ∷ b ∷ c ∷ d ∷ e ∷ f ∷ more) is few = absurd (omega arith)
    by (a ∷ b ∷ c ∷ d ∷ e ∷ []) is few = record {
      a = a;
      b = b;
      c = c;
      d = d;
      e = e;
      are = refl;
      top = is.0;
      ab = is.2.0;
      bc = is.2.2.0;
      cd = is.2.2.2.0;
      de = is.2.2.2.2.0;
      has_a = some a is.1;
      has_b = some b is.2.1;
      has_c = some c is.2.2.1;
      has_d = some d is.2.2.2.1;
      has_e = some e is.2.2.2.2.1;
    }

-- the top rank of five distinct ranks that run
pub shown-run : (five : List Card) (top : ℕ) → often_of five ≡ ones
    → run_top (distinct_ranks five) ≡ Some top → IsRunTo (occurring (count_of_rank five)) top
shown-run five top is run =
    let at = shown-five five is in
    let high = at.top in
    let ab = at.ab in
    let bc = at.bc in
    let cd = at.cd in
    let de = at.de in
    five-run (count_of_rank five) at.a at.b at.c at.d at.e top high ab bc cd de
    (occurs-from_two five at.e at.has_e) at.has_a at.has_b at.has_c at.has_d at.has_e
    (ap run_top (sym at.are) ∙ run)

-- five distinct ranks run to the top that the highest run has
pub run-top_same : (five : List Card) → AreShown five → often_of five ≡ ones
    → highest_run (occurring (count_of_rank five)) ≡ run_top (distinct_ranks five)
run-top_same five shown singles =
    let count = count_of_rank five in
    (elim (highest_run (occurring count)) as (λ o. highest_run (occurring count) ≡ o
    → o ≡ run_top (distinct_ranks five)) [
      | Some top ↦ λ found. sym (there top (run-is (occurring count) top found))
      | None ↦ λ none.
          (elim (run_top (distinct_ranks five)) as (λ o. run_top (distinct_ranks five) ≡ o → None ≡ o) [
            | None ↦ λ is. refl
            | Some top ↦ λ is.
                let run = shown-run five top singles is in
                let some = run-found (occurring count) top run.low run.high run.runs in
                let bad : None ≡ Some some.0 = sym none ∙ some.1 in
                absurd cc
          ]) refl
    ]) refl
  where
    there : (top : ℕ) → IsRunTo (occurring (count_of_rank five)) top → run_top (distinct_ranks five) ≡ Some top
    there top is =
        let count = count_of_rank five in
        let ranks = run-ranks count top (other-rank five 1 (inr (omega arith))) is in
        let run = top ∷ (top - 1) ∷ (top - 2) ∷ (top - 3) ∷ ranks.last ∷ [] in
        let sum : total count 15 ≡ 5 = total-cards five ∙ shown.count in
        let all = shown-five five singles in
        let high = all.top in
        let ab = all.ab in
        let bc = all.bc in
        let cd = all.cd in
        let de = all.de in
        ap run_top all.are
        ∙ run-five all.a all.b all.c all.d all.e top ranks.last is.low ab bc cd de
        (occurs-from_two five all.e all.has_e) ranks.which
        (has-only ones run count all.a ranks.have sum high all.has_a)
        (has-only ones run count all.b ranks.have sum (omega arith) all.has_b)
        (has-only ones run count all.c ranks.have sum (omega arith) all.has_c)
        (has-only ones run count all.d ranks.have sum (omega arith) all.has_d)
        (has-only ones run count all.e ranks.have sum (omega arith) all.has_e)
