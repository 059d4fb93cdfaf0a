-- Five cards by how many of their ranks occur four times, three times, twice and once.
use Rattle.std.proofs.Common.{◌≡◌, ℕ, ◌+◌, ◌-◌, ◌*◌, ◌<◌, ◌≤◌, ◌⊎◌, inl, inr, Bool, true, false, ◌&&◌, eqb, leb, ltb, cond, List, [], ◌∷◌, ◌++◌, length, get_or, Some, None, refl, sym, ap, ap₂, ◌∙◌, subst, eqb-true, leb-true, append-nil, lit≤, arith}
use Rattle.std.specs.Prelude.{map}
use Rattle.std.proofs.lemmas.Bool.Decides.{nat_tests}
use Rattle.std.proofs.lemmas.List.{map-append, nil_from_length}
use Rattle.std.proofs.lemmas.Option.{same_Some}
use Rattle.std.specs.Cmp.Lexicographic.{pointwise}
use Rattle.card_set.specs.declared.card.Card.{Card}
use Rattle.hand_rank.specs.Counts.{AreCountsOf, AreKindsOf}
use Rattle.hand_rank.specs.Picks.{without}
use Rattle.hand_rank.specs.Sets.{has_rank, falling, ranks_of}
use Rattle.hand_rank.specs.Shapes.{most_of, repeated}
use Rattle.hand_rank.specs.Values.{count_of_rank, ranks_that_occur, distinct_ranks, category_of, run_top, are_of_one_suit, value_of_distinct, value_by, five_card_value}
use Rattle.hand_rank.proofs.CardCounts.{other-rank, that_occur-falling, total-cards}
use Rattle.hand_rank.proofs.Chosen.{occurs}
use Rattle.hand_rank.proofs.CountLaws.{value-by}
use Rattle.hand_rank.proofs.FiveLaws.{exactly, distinct-exactly, length-exactly, Lower, falling-lower}
use Rattle.hand_rank.proofs.PickLaws.{without-other}
use Rattle.hand_rank.proofs.Sections.{falling-same, falling-none, falling-empty, falling-leads, total, total-without, IsShape}
use Rattle.hand_rank.proofs.ShapeLaws.{all-so_often}
use Rattle.hand_rank.proofs.ShapedLaws.{falling-15}
use Rattle.hand_rank.proofs.ShownValues.{often_of, shown-shape}

-- whether a rank from two up to a bound occurs so often by a table of how often ranks occur
abbrev pub is_found : List ℕ → ℕ → ℕ → ℕ → Bool
is_found counts often bound rank = ltb rank bound && (leb 2 rank && eqb (get_or counts rank 0) often)

-- the ranks that are found below 15 are those that occur so often
pub found-all : (counts : List ℕ) (often bits : ℕ) (cards : List Card) → 1 ≤ often → AreCountsOf counts cards
    → ((rank : ℕ) → has_rank bits rank ≡ is_found counts often 15 rank) → ranks_of bits ≡ ranks_that_occur cards often
found-all counts often bits cards some counted found =
    falling-15 (has_rank bits) (let at = found 15 in grind (arith, nat_tests))
    ∙ falling-same (has_rank bits) (λ r. eqb (count_of_rank cards r) often) 15 (λ r within.
    let at = found r in
    let is = counted.at r within in
    let below : ltb r 15 ≡ true = grind (arith, nat_tests) in
    elim (leb 2 r) as (λ b. leb 2 r ≡ b → has_rank bits r ≡ eqb (count_of_rank cards r) often) [
      | true ↦ λ from. grind (arith, nat_tests)
      | false ↦ λ low. let none = other-rank cards r (inr (grind (arith, nat_tests))) in grind (arith, nat_tests)
    ] refl)
    ∙ sym (that_occur-falling cards often some)

-- how many ranks occur so often
abbrev pub many : List Card → ℕ → ℕ
many five often = length (ranks_that_occur five often)

many-exactly : (five : List Card) (often : ℕ) → 1 ≤ often → many five often ≡ length (exactly five often)
many-exactly five often some = ap length (that_occur-falling five often some)

-- five cards have five cards of the ranks that occur up to four times, or one rank five times
pub kinds : (five : List Card) → length five ≡ 5
    → (4 * many five 4 + 3 * many five 3 + 2 * many five 2 + many five 1 ≡ 5)
    ⊎ (many five 4 + many five 3 + many five 2 + many five 1 ≡ 0)
kinds five long =
    let count = count_of_rank five in
    let test : ℕ → Bool = λ r. leb 5 (count r) in
    (elim (falling test 15) as (λ found. falling test 15 ≡ found
    → (4 * many five 4 + 3 * many five 3 + 2 * many five 2 + many five 1 ≡ 5)
    ⊎ (many five 4 + many five 3 + many five 2 + many five 1 ≡ 0)) [
      | [] ↦ λ none. inl (by_shape (shown-shape five (record {
        count = long;
        few = λ r. elim (leb 15 r) as (λ b. leb 15 r ≡ b → count r ≤ 4) [
          | true ↦ λ high. let out = other-rank five r (inl (grind (arith, nat_tests))) in omega arith
          | false ↦ λ low. let fails = falling-none test 15 r none (grind (arith, nat_tests)) in
              grind (arith, nat_tests)
        ] refl;
      })))
      | rank ∷ ranks ↦ λ some.
          let lead = (falling-leads test 15 rank ranks some).first in
          let often : 5 ≤ count rank = leb-true 5 (count rank) lead.passes in
          let sum = total-without rank count 15 lead.below in
          let all = total-cards five in
          let nothing = λ (k : ℕ) (from : 1 ≤ k) (to : k ≤ 4). many-exactly five k from
          ∙ ap length (falling-empty (λ r. eqb (count r) k) 15 (λ r within. other k from to rank r lead.below within
          often (omega arith) (omega arith))) in
          let four = nothing 4 (omega arith) (omega arith) in
          let three = nothing 3 (omega arith) (omega arith) in
          let two = nothing 2 (omega arith) (omega arith) in
          let one = nothing 1 (omega arith) (omega arith) in
          inr (omega arith)
    ]) refl
  where
    sized : (often : List ℕ) → often_of five ≡ often
        → 4 * occurs often 4 + 3 * occurs often 3 + 2 * occurs often 2 + occurs often 1 ≡ 5
        → 4 * many five 4 + 3 * many five 3 + 2 * many five 2 + many five 1 ≡ 5
    sized often is sum =
        let four = many-exactly five 4 (omega arith) ∙ length-exactly five often 4 is (omega arith) (omega arith) in
        let three = many-exactly five 3 (omega arith) ∙ length-exactly five often 3 is (omega arith) (omega arith) in
        let two = many-exactly five 2 (omega arith) ∙ length-exactly five often 2 is (omega arith) (omega arith) in
        let one = many-exactly five 1 (omega arith) ∙ length-exactly five often 1 is (omega arith) (omega arith) in
        omega arith

    by_shape : IsShape (often_of five) → 4 * many five 4 + 3 * many five 3 + 2 * many five 2 + many five 1 ≡ 5
    by_shape (inl is) = sized (4 ∷ 1 ∷ []) is refl
    by_shape (inr (inl is)) = sized (3 ∷ 2 ∷ []) is refl
    by_shape (inr (inr (inl is))) = sized (3 ∷ 1 ∷ 1 ∷ []) is refl
    by_shape (inr (inr (inr (inl is)))) = sized (2 ∷ 2 ∷ 1 ∷ []) is refl
    by_shape (inr (inr (inr (inr (inl is))))) = sized (2 ∷ 1 ∷ 1 ∷ 1 ∷ []) is refl
    by_shape (inr (inr (inr (inr (inr is))))) = sized (1 ∷ 1 ∷ 1 ∷ 1 ∷ 1 ∷ []) is refl

    other : (k : ℕ) → 1 ≤ k → k ≤ 4 → (rank r : ℕ) → rank < 15 → r < 15 → 5 ≤ count_of_rank five rank
        → total (without rank (count_of_rank five)) 15 ≡ 0 → count_of_rank five rank ≤ 5
        → eqb (count_of_rank five r) k ≡ false
    other k from to rank r below within often none few =
        elim (eqb r rank) as (λ b. eqb r rank ≡ b → eqb (count_of_rank five r) k ≡ false) [
          | true ↦ λ same. let here = ap (count_of_rank five) (eqb-true r rank same) in grind (arith, nat_tests)
          | false ↦ λ apart.
              let up = total-without r (without rank (count_of_rank five)) 15 within in
              let is = without-other rank r (count_of_rank five)
              (λ e. let bad : eqb r rank ≡ true = grind (arith, nat_tests) in absurd cc) in
              let zero : count_of_rank five r ≡ 0 = omega arith in
              grind (arith, nat_tests)
        ] refl

-- how often the distinct ranks occur, by how many occur four times, three times, twice and once
abbrev oftens : (a b c d : ℕ) → List ℕ
oftens a b c d = repeated a 4 ++ (repeated b 3 ++ (repeated c 2 ++ (repeated d 1 ++ [])))

-- the value of five cards of which so many ranks occur four times, three times, twice and once
valued : (five : List Card) (four three two one : ℕ) → AreKindsOf four three two one five → (a b c d : ℕ)
    → length (ranks_of four) ≡ a → length (ranks_of three) ≡ b → length (ranks_of two) ≡ c
    → length (ranks_of one) ≡ d → (ranks : List ℕ)
    → ranks_of four ++ (ranks_of three ++ (ranks_of two ++ (ranks_of one ++ []))) ≡ ranks
    → five_card_value five ≡ value_by (category_of (oftens a b c d)) (run_top ranks) (are_of_one_suit five) ranks
valued five four three two one are a b c d is_a is_b is_c is_d ranks joined =
    let count = count_of_rank five in
    let same = λ (xs : List ℕ) (k : ℕ) (some : 1 ≤ k) (is : xs ≡ ranks_that_occur five k).
    is ∙ that_occur-falling five k some in
    let distinct : ranks_of four ++ (ranks_of three ++ (ranks_of two ++ (ranks_of one ++ []))) ≡ distinct_ranks five =
    (λ i. same (ranks_of four) 4 (lit≤ tt) are.of_four i ++ (same (ranks_of three) 3 (lit≤ tt) are.of_three i
    ++ (same (ranks_of two) 2 (lit≤ tt) are.of_two i ++ (same (ranks_of one) 1 (lit≤ tt) are.of_one i ++ []))))
    ∙ sym (distinct-exactly five) in
    let counted : map count (ranks_of four ++ (ranks_of three ++ (ranks_of two ++ (ranks_of one ++ []))))
    ≡ oftens a b c d =
    map-append count (ranks_of four) (ranks_of three ++ (ranks_of two ++ (ranks_of one ++ [])))
    ∙ ap₂ (λ xs ys. xs ++ ys) (times (ranks_of four) 4 a (lit≤ tt) are.of_four is_a)
    (map-append count (ranks_of three) (ranks_of two ++ (ranks_of one ++ []))
    ∙ ap₂ (λ xs ys. xs ++ ys) (times (ranks_of three) 3 b (lit≤ tt) are.of_three is_b)
    (map-append count (ranks_of two) (ranks_of one ++ [])
    ∙ ap₂ (λ xs ys. xs ++ ys) (times (ranks_of two) 2 c (lit≤ tt) are.of_two is_c)
    (map-append count (ranks_of one) []
    ∙ ap (λ xs. xs ++ []) (times (ranks_of one) 1 d (lit≤ tt) are.of_one is_d)))) in
    sym (value-by five ranks (oftens a b c d) (category_of (oftens a b c d)) (sym joined ∙ distinct)
    (sym counted ∙ ap (map count) joined) refl)
  where
    times : (xs : List ℕ) (k n : ℕ) → 1 ≤ k → xs ≡ ranks_that_occur five k → length xs ≡ n
        → map (count_of_rank five) xs ≡ repeated n k
    times xs k n some is long =
        subst (λ rs. map (count_of_rank five) rs ≡ repeated (length rs) k) (sym (is ∙ that_occur-falling five k some))
        (all-so_often (count_of_rank five) k 15)
        ∙ ap (λ m. repeated m k) long

-- where some rank occurs at most four times, all five cards are counted
five-kinds : (five : List Card) (four three two one : ℕ) → length five ≡ 5 → AreKindsOf four three two one five
    → 1 ≤ length (ranks_of four) + length (ranks_of three) + length (ranks_of two) + length (ranks_of one)
    → 4 * length (ranks_of four) + 3 * length (ranks_of three) + 2 * length (ranks_of two) + length (ranks_of one) ≡ 5
five-kinds five four three two one long are some =
    let of_four = ap length are.of_four in
    let of_three = ap length are.of_three in
    let of_two = ap length are.of_two in
    let of_one = ap length are.of_one in
    elim (kinds five long) [ inl sum ↦ omega arith | inr none ↦ absurd (omega arith) ]

-- five cards have the value of a category, of the ranks that occur most often and of the others
pub record IsMadeOf (five : List Card) (number first second : ℕ) : Type 0 where
  pub value : number ∷ ranks_of first ++ ranks_of second ≡ five_card_value five
  pub most : length (ranks_of first) ≡ most_of number
  pub few : length (ranks_of first) + length (ranks_of second) ≤ 5

-- a rank occurs four times
pub four_of_a_kind : {five : List Card} {four three two one : ℕ} → length five ≡ 5
    → AreKindsOf four three two one five → 1 ≤ length (ranks_of four) → IsMadeOf five 7 four one
four_of_a_kind {five} {four} {three} {two} {one} long are some =
    let sum = five-kinds five four three two one long are (omega arith) in
    let no_three = nil_from_length (ranks_of three) (omega arith) in
    let no_two = nil_from_length (ranks_of two) (omega arith) in
    record {
      value = sym (valued five four three two one are 1 0 0 1 (omega arith) (omega arith) (omega arith) (omega arith)
          (ranks_of four ++ ranks_of one)
          ((λ i. ranks_of four ++ (no_three i ++ (no_two i ++ (ranks_of one ++ []))))
          ∙ ap (λ xs. ranks_of four ++ xs) (append-nil (ranks_of one))));
      most = omega arith;
      few = omega arith;
    }

-- a rank occurs three times, and none twice
pub three_of_a_kind : {five : List Card} {four three two one : ℕ} → length five ≡ 5
    → AreKindsOf four three two one five → 1 ≤ length (ranks_of three)
    → length (ranks_of two) ≡ 0 → IsMadeOf five 3 three one
three_of_a_kind {five} {four} {three} {two} {one} long are some none =
    let sum = five-kinds five four three two one long are (omega arith) in
    let no_four = nil_from_length (ranks_of four) (omega arith) in
    let no_two = nil_from_length (ranks_of two) (omega arith) in
    record {
      value = sym (valued five four three two one are 0 1 0 2 (omega arith) (omega arith) (omega arith) (omega arith)
          (ranks_of three ++ ranks_of one)
          ((λ i. no_four i ++ (ranks_of three ++ (no_two i ++ (ranks_of one ++ []))))
          ∙ ap (λ xs. ranks_of three ++ xs) (append-nil (ranks_of one))));
      most = omega arith;
      few = omega arith;
    }

-- a rank occurs three times, and one twice
pub full_house : {five : List Card} {four three two one : ℕ} → length five ≡ 5
    → AreKindsOf four three two one five → 1 ≤ length (ranks_of three)
    → 1 ≤ length (ranks_of two) → IsMadeOf five 6 three two
full_house {five} {four} {three} {two} {one} long are some also =
    let sum = five-kinds five four three two one long are (omega arith) in
    let no_four = nil_from_length (ranks_of four) (omega arith) in
    let no_one = nil_from_length (ranks_of one) (omega arith) in
    record {
      value = sym (valued five four three two one are 0 1 1 0 (omega arith) (omega arith) (omega arith) (omega arith)
          (ranks_of three ++ ranks_of two)
          ((λ i. no_four i ++ (ranks_of three ++ (ranks_of two ++ (no_one i ++ []))))
          ∙ ap (λ xs. ranks_of three ++ xs) (append-nil (ranks_of two))));
      most = omega arith;
      few = omega arith;
    }

-- two ranks occur twice
pub two_pair : {five : List Card} {four three two one : ℕ} → length five ≡ 5
    → AreKindsOf four three two one five → 2 ≤ length (ranks_of two) → IsMadeOf five 2 two one
two_pair {five} {four} {three} {two} {one} long are some =
    let sum = five-kinds five four three two one long are (omega arith) in
    let no_four = nil_from_length (ranks_of four) (omega arith) in
    let no_three = nil_from_length (ranks_of three) (omega arith) in
    record {
      value = sym (valued five four three two one are 0 0 2 1 (omega arith) (omega arith) (omega arith) (omega arith)
          (ranks_of two ++ ranks_of one)
          ((λ i. no_four i ++ (no_three i ++ (ranks_of two ++ (ranks_of one ++ []))))
          ∙ ap (λ xs. ranks_of two ++ xs) (append-nil (ranks_of one))));
      most = omega arith;
      few = omega arith;
    }

-- one rank occurs twice, and none three times
pub one_pair : {five : List Card} {four three two one : ℕ} → length five ≡ 5
    → AreKindsOf four three two one five → length (ranks_of three) ≡ 0
    → length (ranks_of two) ≡ 1 → IsMadeOf five 1 two one
one_pair {five} {four} {three} {two} {one} long are none one_rank =
    let sum = five-kinds five four three two one long are (omega arith) in
    let no_four = nil_from_length (ranks_of four) (omega arith) in
    let no_three = nil_from_length (ranks_of three) (omega arith) in
    record {
      value = sym (valued five four three two one are 0 0 1 3 (omega arith) (omega arith) (omega arith) (omega arith)
          (ranks_of two ++ ranks_of one)
          ((λ i. no_four i ++ (no_three i ++ (ranks_of two ++ (ranks_of one ++ []))))
          ∙ ap (λ xs. ranks_of two ++ xs) (append-nil (ranks_of one))));
      most = omega arith;
      few = omega arith;
    }

-- five cards have the value of ranks that all occur once
pub record IsMadeOfOnes (five : List Card) (one : ℕ) : Type 0 where
  pub value : value_of_distinct (run_top (ranks_of one)) (are_of_one_suit five) (ranks_of one) ≡ five_card_value five
  pub few : length (ranks_of one) ≤ 5

-- no rank occurs four times, three times or twice
pub all_distinct : {five : List Card} {four three two one : ℕ} → length five ≡ 5
    → AreKindsOf four three two one five → length (ranks_of four) ≡ 0 → length (ranks_of three) ≡ 0
    → length (ranks_of two) ≡ 0 → IsMadeOfOnes five one
all_distinct {five} {four} {three} {two} {one} long are no_four no_three no_two =
    let of_one = ap length are.of_one in
    let all : ranks_of four ++ (ranks_of three ++ (ranks_of two ++ (ranks_of one ++ []))) ≡ ranks_of one =
    (λ i. nil_from_length (ranks_of four) no_four i ++ (nil_from_length (ranks_of three) no_three i
    ++ (nil_from_length (ranks_of two) no_two i ++ (ranks_of one ++ [])))) ∙ append-nil (ranks_of one) in
    elim (eqb (length (ranks_of one)) 0) as (λ b. eqb (length (ranks_of one)) 0 ≡ b → IsMadeOfOnes five one) [
      | true ↦ λ none. record {
        value = sym (valued five four three two one are 0 0 0 0 no_four no_three no_two
            (grind (arith, nat_tests)) (ranks_of one) all);
        few = grind (arith, nat_tests);
      }
      | false ↦ λ some.
          let sum = five-kinds five four three two one long are (grind (arith, nat_tests)) in
          record {
            value = sym (valued five four three two one are 0 0 0 5 no_four no_three no_two (omega arith)
                (ranks_of one) all);
            few = omega arith;
          }
    ] refl

-- the top rank of a run is one of its ranks, or five
pub run-within : (bits top : ℕ) → Some top ≡ run_top (ranks_of bits) → top < 16
run-within bits top is = by (ranks_of bits) (falling-lower (has_rank bits) 16 16 (omega arith)) is
  where
    pick : (wheel runs : Bool) (high : ℕ) → high < 16 → Some top ≡ cond wheel (Some 5) (cond runs (Some high) None)
        → top < 16
    pick true runs high low at = let five = same_Some top 5 at in omega arith
    pick false true high low at = let same = same_Some top high at in omega arith
    pick false false high low at = absurd cc

    by : (ranks : List ℕ) → Lower (has_rank bits) 16 ranks → Some top ≡ run_top ranks → top < 16
    by (a ∷ b ∷ c ∷ d ∷ e ∷ []) low at =
        pick (pointwise eqb (a ∷ b ∷ c ∷ d ∷ e ∷ []) (14 ∷ 5 ∷ 4 ∷ 3 ∷ 2 ∷ [])) (eqb (a - e) 4) a low.0 at
    by _ low at = absurd cc
