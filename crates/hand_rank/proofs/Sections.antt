-- The ranks by how often they occur are the ranks that are picked for these numbers.
use Rattle.std.proofs.Common.{◌≡◌, ℕ, zero, suc, ◌+◌, ◌<◌, ◌≤◌, ◌⊎◌, inl, inr, Bool, true, false, cond, eqb, List, [], ◌∷◌, ◌++◌, refl, sym, ap, ap₂, ◌∙◌, subst, le_trans, eqb-true, eq-eqb, arith}
use Rattle.std.specs.Prelude.{map}
use Rattle.std.proofs.lemmas.Bool.Decides.{nat_tests}
use Rattle.hand_rank.specs.Picks.{without}
use Rattle.hand_rank.specs.Sets.{falling}
use Rattle.hand_rank.proofs.PickLaws.{IsHighest, Falls, without-other, without-less, without-some}

-- two tests that agree below a bound list the same numbers from the highest down
pub falling-same : (test other : ℕ → Bool) (n : ℕ) → ((r : ℕ) → r < n → test r ≡ other r)
    → falling test n ≡ falling other n
unfolding falling
falling-same test other zero same = refl
falling-same test other (suc n) same =
    ap₂ (λ b ranks. cond b (n ∷ ranks) ranks) (same n (omega arith))
    (falling-same test other n (λ r within. same r (omega arith)))

-- where no number below a bound is listed, none there passes the test
pub falling-none : (test : ℕ → Bool) (n r : ℕ) → falling test n ≡ [] → r < n → test r ≡ false
unfolding falling
falling-none test zero r none within = absurd (omega arith)
falling-none test (suc n) r none within =
    (elim (test n) as (λ b. test n ≡ b → cond b (n ∷ falling test n) (falling test n) ≡ [] → test r ≡ false) [
      | true ↦ λ passes some. absurd cc
      | false ↦ λ fails rest.
          elim (eqb r n) as (λ b. eqb r n ≡ b → test r ≡ false) [
            | true ↦ λ same. subst (λ m. test m ≡ false) (sym (eqb-true r n same)) fails
            | false ↦ λ other. falling-none test n r rest (grind (arith, nat_tests))
          ] refl
    ]) refl none

-- where no number below a bound passes the test, none is listed
pub falling-empty : (test : ℕ → Bool) (n : ℕ) → ((r : ℕ) → r < n → test r ≡ false) → falling test n ≡ []
unfolding falling
falling-empty test zero fails = refl
falling-empty test (suc n) fails =
    let here = fails n (omega arith) in
    rw here (falling-empty test n (λ r within. fails r (omega arith)))

-- the first of the numbers, and what is found without it
pub record Leads (test : ℕ → Bool) (n rank : ℕ) (ranks : List ℕ) : Type 0 where
  pub first : IsHighest test n rank
  pub others : (other : ℕ → Bool) → ((r : ℕ) → r < n → (r ≡ rank → ⊥) → other r ≡ test r) → other rank ≡ false
      → falling other n ≡ ranks

-- the first number listed is the highest that passes the test, and without it the others are listed
pub falling-leads : (test : ℕ → Bool) (n rank : ℕ) (ranks : List ℕ) → falling test n ≡ rank ∷ ranks
    → Leads test n rank ranks
unfolding falling
falling-leads test zero rank ranks is = absurd cc
falling-leads test (suc n) rank ranks is =
    (elim (test n) as (λ b. test n ≡ b → cond b (n ∷ falling test n) (falling test n) ≡ rank ∷ ranks
    → Leads test (suc n) rank ranks) [
      | true ↦ λ passes all.
          let same : n ≡ rank = cc in
          let rest : falling test n ≡ ranks = cc in
          record {
            first = record {
              passes = subst (λ r. test r ≡ true) same passes;
              below = omega arith;
              above =
                  λ r within there. omega arith;
            };
            others = λ other agrees fails.
                let gone : other n ≡ false = subst (λ r. other r ≡ false) (sym same) fails in
                rw gone (falling-same other test n (λ r within. agrees r (omega arith) (λ e. absurd (omega arith)))
                ∙ rest);
          }
      | false ↦ λ fails_here all.
          let later = falling-leads test n rank ranks all in
          let less = later.first.below in
          record {
            first = record {
              passes = later.first.passes;
              below = omega arith;
              above = λ r within there.
                  elim (eqb r n) as (λ b. eqb r n ≡ b → r ≤ rank) [
                    | true ↦ λ same. let is_n = eqb-true r n same in let bad : test n ≡ true =
                        subst (λ m. test m ≡ true) is_n there in absurd cc
                    | false ↦ λ apart. later.first.above r (grind (arith, nat_tests)) there
                  ] refl;
            };
            others = λ other agrees fails.
                let gone : other n ≡ false = agrees n (omega arith) (λ e. absurd (omega arith)) ∙ fails_here in
                rw gone (later.others other (λ r within apart. agrees r (omega arith) apart) fails);
          }
    ]) refl is

-- the ranks that occur so often, then those that occur once less, and so on down to once
unfoldable pub sections : ℕ → (ℕ → ℕ) → List ℕ
unfolding falling
sections zero count = []
sections (suc times) count = falling (λ r. eqb (count r) (suc times)) 15 ++ sections times count

sections-same : (times : ℕ) (a b : ℕ → ℕ) → ((r n : ℕ) → r < 15 → 1 ≤ n → n ≤ times → eqb (a r) n ≡ eqb (b r) n)
    → sections times a ≡ sections times b
unfolding sections
sections-same zero a b same = refl
sections-same (suc times) a b same =
    ap₂ (λ x y. x ++ y)
    (falling-same (λ r. eqb (a r) (suc times)) (λ r. eqb (b r) (suc times)) 15
    (λ r within. same r (suc times) within (omega arith) (omega arith)))
    (sections-same times a b (λ r n within some few. same r n within some (omega arith)))

pub sections-none : (times : ℕ) (count : ℕ → ℕ) (r : ℕ) → ((s : ℕ) → s < 15 → count s ≤ times)
    → sections times count ≡ [] → r < 15 → count r ≡ 0
unfolding sections
sections-none zero count r few none within = let all = few r within in omega arith
sections-none (suc times) count r few none within =
    let test : ℕ → Bool = λ s. eqb (count s) (suc times) in
    (elim (falling test 15) as (λ found. falling test 15 ≡ found → found ++ sections times count ≡ [] → count r ≡ 0) [
      | [] ↦ λ empty rest. sections-none times count r (λ s inside. let fails = falling-none test 15 s empty inside in
          let all = few s inside in grind (arith, nat_tests)) rest within
      | rank ∷ ranks ↦ λ some rest. absurd cc
    ]) refl none

-- the first rank of the sections occurs most often, is the highest of those, and the others are the sections without it
pub record Heads (times : ℕ) (count : ℕ → ℕ) (rank : ℕ) (ranks : List ℕ) : Type 0 where
  pub below : rank < 15
  pub some : 1 ≤ count rank
  pub most : (r : ℕ) → r < 15 → count r ≤ count rank
  pub high : (r : ℕ) → r < 15 → count r ≡ count rank → r ≤ rank
  pub others : sections times (without rank count) ≡ ranks

pub sections-heads : (times : ℕ) (count : ℕ → ℕ) (rank : ℕ) (ranks : List ℕ) → ((r : ℕ) → r < 15 → count r ≤ times)
    → sections times count ≡ rank ∷ ranks → Heads times count rank ranks
unfolding sections
sections-heads zero count rank ranks few is = absurd cc
sections-heads (suc times) count rank ranks few is =
    let test : ℕ → Bool = λ r. eqb (count r) (suc times) in
    (elim (falling test 15) as (λ found. falling test 15 ≡ found → found ++ sections times count ≡ rank ∷ ranks
    → Heads (suc times) count rank ranks) [
      | [] ↦ λ empty rest.
          let fewer : (r : ℕ) → r < 15
          → count r ≤ times = λ r within. let fails = falling-none test 15 r empty within in let all =
          few r within in grind (arith, nat_tests) in
          let later = sections-heads times count rank ranks fewer rest in
          record {
            below = later.below;
            some = later.some;
            most = later.most;
            high = later.high;
            others =
                ap (λ found. found ++ sections times (without rank count))
                (falling-empty (λ r. eqb (without rank count r) (suc times)) 15
                (λ r within. let less = without-less rank r count in let at = fewer r within in
                grind (arith, nat_tests)))
                ∙ later.others;
          }
      | first ∷ behind ↦ λ found rest.
          let same : first ≡ rank = cc in
          let are : behind ++ sections times count ≡ ranks = cc in
          let lead = falling-leads test 15 rank behind (found ∙ ap (λ r. r ∷ behind) same) in
          let often : count rank ≡ suc times = eqb-true (count rank) (suc times) lead.first.passes in
          record {
            below = lead.first.below;
            some = omega arith;
            most = λ r within. let all = few r within in omega arith;
            high = λ r within as_often. lead.first.above r within (eq-eqb (count r) (suc times) (as_often ∙ often));
            others =
                ap₂ (λ x y. x ++ y)
                (lead.others (λ r. eqb (without rank count r) (suc times))
                (λ r within apart. ap (λ n. eqb n (suc times)) (without-other rank r count apart))
                (gone rank (suc times) count (omega arith)))
                (sections-same times (without rank count) count
                (λ r n within some less. kept rank r n count often some less))
                ∙ are;
          }
    ]) refl is
  where
    gone : (rank n : ℕ) (count : ℕ → ℕ) → 1 ≤ n → eqb (without rank count rank) n ≡ false
    gone rank n count some = let itself : eqb rank rank ≡ true = eq-eqb rank rank refl in
        rw itself (grind (arith, nat_tests))

    kept : (rank r n : ℕ) (count : ℕ → ℕ) → count rank ≡ suc times → 1 ≤ n → n ≤ times
        → eqb (without rank count r) n ≡ eqb (count r) n
    kept rank r n count often some less =
        elim (eqb r rank) as (λ b. eqb r rank ≡ b → eqb (cond b 0 (count r)) n ≡ eqb (count r) n) [
          | true ↦ λ same. let is : count r ≡ suc times =
              subst (λ s. count s ≡ suc times) (sym (eqb-true r rank same)) often in grind (arith, nat_tests)
          | false ↦ λ apart. refl
        ] refl

without-few : (rank times : ℕ) (count : ℕ → ℕ) → ((r : ℕ) → r < 15 → count r ≤ times) → (r : ℕ) → r < 15
    → without rank count r ≤ times
without-few rank times count few r within = le_trans (without-less rank r count) (few r within)

-- the ranks of the sections occur
AllOccur : List ℕ → (ℕ → ℕ) → Type 0
AllOccur [] count = Unit {0}
AllOccur (rank ∷ ranks) count = (1 ≤ count rank) × AllOccur ranks count

occur-more : (ranks : List ℕ) (a b : ℕ → ℕ) → ((r : ℕ) → a r ≤ b r) → AllOccur ranks a → AllOccur ranks b
unfolding AllOccur
occur-more [] a b less all = tt
occur-more (rank ∷ ranks) a b less all = (le_trans all.0 (less rank), occur-more ranks a b less all.1)

sections-occur : (times : ℕ) (ranks : List ℕ) (count : ℕ → ℕ) → ((r : ℕ) → r < 15 → count r ≤ times)
    → sections times count ≡ ranks → AllOccur ranks count
unfolding AllOccur
sections-occur times [] count few is = tt
sections-occur times (rank ∷ ranks) count few is =
    let heads = sections-heads times count rank ranks few is in (
      heads.some,
      occur-more ranks (without rank count) count (λ r. without-less rank r count)
          (sections-occur times ranks (without rank count) (without-few rank times count few) heads.others),
    )

occur-same : (rank : ℕ) (ranks : List ℕ) (count : ℕ → ℕ) → AllOccur ranks (without rank count)
    → map (without rank count) ranks ≡ map count ranks
unfolding AllOccur
occur-same rank [] count all = refl
occur-same rank (other ∷ ranks) count all =
    ap₂ (λ x y. x ∷ y) (without-other rank other count (without-some rank other count all.0))
    (occur-same rank ranks count all.1)

-- how often the others occur does not change without the first
pub others-same : (times : ℕ) (count : ℕ → ℕ) (rank : ℕ) (ranks : List ℕ) → ((r : ℕ) → r < 15 → count r ≤ times)
    → Heads times count rank ranks → map (without rank count) ranks ≡ map count ranks
others-same times count rank ranks few heads =
    occur-same rank ranks count
    (sections-occur times ranks (without rank count) (without-few rank times count few) heads.others)

-- how often the ranks of the sections occur, falls
pub sections-fall : (times most : ℕ) (ranks : List ℕ) (count : ℕ → ℕ) → ((r : ℕ) → r < 15 → count r ≤ times)
    → ((r : ℕ) → r < 15 → count r ≤ most) → sections times count ≡ ranks → Falls most (map count ranks)
sections-fall times most [] count few within is = tt
sections-fall times most (rank ∷ ranks) count few within is =
    let heads = sections-heads times count rank ranks few is in
    let later = sections-fall times (count rank) ranks (without rank count) (without-few rank times count few)
    (without-few rank (count rank) count heads.most) heads.others in (
      heads.some,
      within rank heads.below,
      subst (λ often. Falls (count rank) often)
          (others-same times count rank ranks few heads) later,
    )

-- the sum of a function below a bound
unfoldable pub total : (ℕ → ℕ) → ℕ → ℕ
total count zero = 0
total count (suc n) = count n + total count n

-- counts that agree below a bound have the same sum there
pub total-same : (a b : ℕ → ℕ) (n : ℕ) → ((r : ℕ) → r < n → a r ≡ b r) → total a n ≡ total b n
unfolding total
total-same a b zero same = refl
total-same a b (suc n) same =
    ap₂ (λ x y. x + y) (same n (omega arith)) (total-same a b n (λ r within. same r (omega arith)))

total-none : (count : ℕ → ℕ) (n : ℕ) → ((r : ℕ) → r < n → count r ≡ 0) → total count n ≡ 0
unfolding total
total-none count zero none = refl
total-none count (suc n) none =
    let here = none n (omega arith) in let later = total-none count n (λ r within. none r (omega arith)) in omega arith

-- how often a rank occurs and the sum for the ranks without it come to the sum for all ranks
pub total-without : (rank : ℕ) (count : ℕ → ℕ) (n : ℕ) → rank < n
    → count rank + total (without rank count) n ≡ total count n
unfolding total
total-without rank count zero within = absurd (omega arith)
total-without rank count (suc n) within =
    elim (eqb n rank) as (λ b. eqb n rank ≡ b
    → count rank + (cond b 0 (count n) + total (without rank count) n) ≡ count n + total count n) [
      | true ↦ λ same.
          let is = eqb-true n rank same in
          let behind = total-same (without rank count) count n
          (λ r less. without-other rank r count (λ e. absurd (omega arith))) in
          let here : count n ≡ count rank = ap count is in
          omega arith
      | false ↦ λ apart. let later = total-without rank count n (grind (arith, nat_tests)) in omega arith
    ] refl

-- the sum of numbers
abbrev pub added : List ℕ → ℕ
added [] = 0
added (x ∷ xs) = x + added xs

-- how often the ranks of the sections occur comes to how often all do
pub sections-sum : (times : ℕ) (ranks : List ℕ) (count : ℕ → ℕ) → ((r : ℕ) → r < 15 → count r ≤ times)
    → sections times count ≡ ranks → added (map count ranks) ≡ total count 15
sections-sum times [] count few is = sym (total-none count 15 (λ r within. sections-none times count r few is within))
sections-sum times (rank ∷ ranks) count few is =
    let heads = sections-heads times count rank ranks few is in
    let later = sections-sum times ranks (without rank count) (without-few rank times count few) heads.others in
    let same = ap added (others-same times count rank ranks few heads) in
    let all = total-without rank count 15 heads.below in
    omega arith

-- the ways in which five cards have ranks, by how often they occur: 4+1, 3+2, 3+1+1, 2+2+1, 2+1+1+1 and five times once
abbrev pub IsShape : List ℕ → Type 0
IsShape often =
    (often ≡ 4 ∷ 1 ∷ []) ⊎
    ((often ≡ 3 ∷ 2 ∷ []) ⊎
    ((often ≡ 3 ∷ 1 ∷ 1 ∷ []) ⊎
    ((often ≡ 2 ∷ 2 ∷ 1 ∷ []) ⊎ ((often ≡ 2 ∷ 1 ∷ 1 ∷ 1 ∷ []) ⊎ (often ≡ 1 ∷ 1 ∷ 1 ∷ 1 ∷ 1 ∷ [])))))

-- counts from four down to one that never rise and come to five are one of the six shapes of five cards
pub shape-of : (often : List ℕ) → Falls 4 often → added often ≡ 5 → IsShape often
shape-of [] falls sum = absurd (omega arith)
shape-of (a ∷ []) falls sum = absurd (omega arith)
shape-of (a ∷ b ∷ []) falls sum =
    elim (eqb a 4) as (λ t. eqb a 4 ≡ t → IsShape (a ∷ b ∷ [])) [
      | true ↦ λ same. let first : a ≡ 4 = eqb-true a 4 same in let second : b ≡ 1 = omega arith in inl cc
      | false ↦ λ other. let first : a ≡ 3 = grind (arith, nat_tests) in let second : b ≡ 2 = omega arith in
          inr (inl cc)
    ] refl
shape-of (a ∷ b ∷ c ∷ []) falls sum =
    elim (eqb a 3) as (λ t. eqb a 3 ≡ t → IsShape (a ∷ b ∷ c ∷ [])) [
      | true ↦ λ same. let first : a ≡ 3 = eqb-true a 3 same in let second : b ≡ 1 = omega arith in let third : c ≡ 1 =
          omega arith in inr (inr (inl cc))
      | false ↦ λ other. let first : a ≡ 2 = grind (arith, nat_tests) in let second : b ≡ 2 = omega arith in
          let third : c ≡ 1 = omega arith in inr (inr (inr (inl cc)))
    ] refl
shape-of (a ∷ b ∷ c ∷ d ∷ []) falls sum =
    let first : a ≡ 2 = omega arith in
    let second : b ≡ 1 = omega arith in
    let third : c ≡ 1 = omega arith in
    let fourth : d ≡ 1 = omega arith in
    inr (inr (inr (inr (inl cc))))
shape-of (a ∷ b ∷ c ∷ d ∷ e ∷ []) falls sum =
    let first : a ≡ 1 = omega arith in
    let second : b ≡ 1 = omega arith in
    let third : c ≡ 1 = omega arith in
    let fourth : d ≡ 1 = omega arith in
    let fifth : e ≡ 1 = omega arith in
    inr (inr (inr (inr (inr cc))))
shape-of (a ∷ b ∷ c ∷ d ∷ e ∷ f ∷ more) falls sum = absurd (omega arith)
