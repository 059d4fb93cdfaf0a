-- The ranks of each suit, and how often ranks occur.
use Rattle.std.proofs.Common.{◌≡◌, ℕ, suc, ◌+◌, ◌<◌, ◌≤◌, ◌⊎◌, inl, inr, Bool, true, false, ◌&&◌, ◌||◌, eqb, leb, ltb, cond, List, [], ◌∷◌, ◌++◌, length, take, set, get_or, get_or-set_same, get_or-set_other, Some, None, refl, add-zero, zero-le, subst, lit≤, sym, ap, ◌∙◌, eqb-true, arith}
use Rattle.std.specs.Prelude.{count_by, filter}
use Rattle.std.proofs.lemmas.List.Sums.{length-filter}
use Rattle.std.proofs.lemmas.Bool.Decides.{nat_tests}
use Rattle.std.proofs.lemmas.Nat.Bits.{bit_at-zero}
use Rattle.std.proofs.lemmas.List.{take_more}
use Rattle.card_set.specs.declared.card.Card.{Card}
use Rattle.rulebook.proofs.Tests.{count_by-cons}
use Rattle.hand_rank.specs.declared.rank_set.RankSet.{RankSet}
use Rattle.hand_rank.specs.Cards.{count_of_suit, AreOnce}
use Rattle.hand_rank.specs.Held.{AreSuited}
use Rattle.hand_rank.specs.Sets.{has_rank, IsTallyOf, AreSuitsOf}
use Rattle.hand_rank.specs.Sets.{ranks_of}
use Rattle.hand_rank.specs.Values.{count_of_rank}
use Rattle.hand_rank.proofs.CardCounts.{other-rank, total-cards, by-suits, suit-joined, suited-rank, count_of_suit-cons}
use Rattle.hand_rank.proofs.Sections.{total-same}
use Rattle.hand_rank.proofs.ShapedLaws.{falling-15, total-passing}

-- one more card
pub suits-more : (sets : List RankSet) (cards : List Card) (i : ℕ) (card : Card) (more default : RankSet)
    → length sets ≡ 4 → i < length cards → card ≡ get_or cards i card
    → ((r : ℕ) → has_rank more.bits r ≡ (has_rank (get_or sets card.suit default).bits r || eqb r card.rank))
    → AreSuitsOf sets (take i cards) → AreSuitsOf (set sets card.suit more) (take (i + 1) cards)
suits-more sets cards i card more default four within at has are suit r other below =
    let whole : take (i + 1) cards ≡ take i cards ++ card ∷ [] = take_more cards i card within
    ∙ ap (λ c. take i cards ++ c ∷ []) (sym at) in
    let all : count_of_suit (take (i + 1) cards) suit r ≡ count_of_suit (take i cards) suit r + cond
    (eqb card.suit suit && eqb card.rank r) 1 0 =
    ap (λ cs. count_of_suit cs suit r) whole ∙ suit-joined (take i cards) (card ∷ []) suit r
    ∙ ap (λ n. count_of_suit (take i cards) suit r + n) (only card suit r) in
    elim (eqb card.suit suit) as (λ b. eqb card.suit suit ≡ b
    → has_rank (get_or (set sets card.suit more) suit other).bits r
    ≡ leb 1 (count_of_suit (take (i + 1) cards) suit r)) [
      | true ↦ λ same.
          let is : card.suit ≡ suit = eqb-true card.suit suit same in
          let one : card.suit < length sets = omega arith in
          let here : get_or (set sets card.suit more) card.suit other ≡ more =
          get_or-set_same sets card.suit more other one in
          let held : has_rank (get_or sets card.suit default).bits r ≡ leb 1 (count_of_suit (take i cards) suit r) =
          ap (λ s. has_rank (get_or sets s default).bits r) is ∙ are suit r default below in
          ap (λ s. has_rank (get_or (set sets card.suit more) s other).bits r) (sym is)
          ∙ ap (λ (s : RankSet). has_rank s.bits r) here ∙ has r ∙ ap (λ b. b || eqb r card.rank) held
          ∙ added (count_of_suit (take i cards) suit r) r card.rank
          ∙ ap (leb 1) (sym (all
          ∙ ap (λ b. count_of_suit (take i cards) suit r + cond (b && eqb card.rank r) 1 0) same))
      | false ↦ λ apart.
          let differ : suit ≡ card.suit → ⊥ = grind (arith, nat_tests) in
          let here : get_or (set sets card.suit more) suit other ≡ get_or sets suit other =
          get_or-set_other sets card.suit suit more other differ in
          ap (λ (s : RankSet). has_rank s.bits r) here ∙ are suit r other below
          ∙ ap (leb 1) (sym (all ∙ ap (λ b. count_of_suit (take i cards) suit r + cond (b && eqb card.rank r) 1 0) apart
          ∙ add-zero (count_of_suit (take i cards) suit r)))
    ] refl
  where
    only : (card : Card) (suit r : ℕ)
        → count_of_suit (card ∷ []) suit r ≡ cond (eqb card.suit suit && eqb card.rank r) 1 0
    only card suit r = let all = count_of_suit-cons suit r card [] in omega arith

    added : (n r rank : ℕ) → (leb 1 n || eqb r rank) ≡ leb 1 (n + cond (true && eqb rank r) 1 0)
    added n r rank = grind (arith, nat_tests)

-- how often a rank occurs, by the suits that have it
pub tally-is : (once twice thrice four : ℕ) (cards : List Card) (a b c d : ℕ → Bool)
    → ((r : ℕ) → a r ≡ leb 1 (count_of_suit cards 0 r)) → ((r : ℕ) → b r ≡ leb 1 (count_of_suit cards 1 r))
    → ((r : ℕ) → c r ≡ leb 1 (count_of_suit cards 2 r)) → ((r : ℕ) → d r ≡ leb 1 (count_of_suit cards 3 r))
    → AreOnce cards
    → ((r : ℕ) → has_rank once r ≡ ((a r || b r) || (c r || d r)))
    → ((r : ℕ) → has_rank twice r ≡ (((a r && b r) || (c r && d r)) || ((a r || b r) && (c r || d r))))
    → ((r : ℕ) → has_rank thrice r ≡ (((a r && b r) && (c r || d r)) || ((a r || b r) && (c r && d r))))
    → ((r : ℕ) → has_rank four r ≡ ((a r && b r) && (c r && d r)))
    → IsTallyOf once twice thrice four (count_of_rank cards)
tally-is once twice thrice four cards a b c d of_a of_b of_c of_d few is_once is_twice is_thrice is_four =
    let only : (r : ℕ) → (15 ≤ r) ⊎ (r < 2) → count_of_rank cards r ≡ 0 = λ r out. other-rank cards r out in
    record {
      of_once = record {
        some = lit≤ tt;
        at = λ r within. is_once r
            ∙ (λ i. (of_a r i || of_b r i) || (of_c r i || of_d r i))
            ∙ one (count_of_suit cards 0 r) (count_of_suit cards 1 r) (count_of_suit cards 2 r)
            (count_of_suit cards 3 r)
            ∙ ap (leb 1) (sym (by-suits cards r));
        only = only;
      };
      of_twice = record {
        some = lit≤ tt;
        at = λ r within. is_twice r
            ∙ (λ i. ((of_a r i && of_b r i) || (of_c r i && of_d r i)) ||
            ((of_a r i || of_b r i) && (of_c r i || of_d r i)))
            ∙ two (count_of_suit cards 0 r) (count_of_suit cards 1 r) (count_of_suit cards 2 r)
            (count_of_suit cards 3 r)
            (few 0 r) (few 1 r) (few 2 r) (few 3 r) ∙ ap (leb 2) (sym (by-suits cards r));
        only = only;
      };
      of_thrice = record {
        some = lit≤ tt;
        at = λ r within. is_thrice r
            ∙ (λ i. ((of_a r i && of_b r i) && (of_c r i || of_d r i)) ||
            ((of_a r i || of_b r i) && (of_c r i && of_d r i)))
            ∙ three (count_of_suit cards 0 r) (count_of_suit cards 1 r) (count_of_suit cards 2 r)
            (count_of_suit cards 3 r) (few 0 r) (few 1 r) (few 2 r) (few 3 r)
            ∙ ap (leb 3) (sym (by-suits cards r));
        only = only;
      };
      of_four = record {
        some = lit≤ tt;
        at = λ r within. is_four r
            ∙ (λ i. (of_a r i && of_b r i) && (of_c r i && of_d r i))
            ∙ all_four (count_of_suit cards 0 r) (count_of_suit cards 1 r) (count_of_suit cards 2 r)
            (count_of_suit cards 3 r) (few 0 r) (few 1 r) (few 2 r) (few 3 r)
            ∙ ap (leb 4) (sym (by-suits cards r));
        only = only;
      };
    }
  where
    one : (m n p q : ℕ) → ((leb 1 m || leb 1 n) || (leb 1 p || leb 1 q)) ≡ leb 1 (m + n + p + q)
    one m n p q = grind (arith, nat_tests)

    two : (m n p q : ℕ) → m ≤ 1 → n ≤ 1 → p ≤ 1 → q ≤ 1
        → (((leb 1 m && leb 1 n) || (leb 1 p && leb 1 q)) || ((leb 1 m || leb 1 n) && (leb 1 p || leb 1 q)))
        ≡ leb 2 (m + n + p + q)
    two m n p q a b c d = grind (arith, nat_tests)

    three : (m n p q : ℕ) → m ≤ 1 → n ≤ 1 → p ≤ 1 → q ≤ 1
        → (((leb 1 m && leb 1 n) && (leb 1 p || leb 1 q)) || ((leb 1 m || leb 1 n) && (leb 1 p && leb 1 q)))
        ≡ leb 3 (m + n + p + q)
    three m n p q a b c d = grind (arith, nat_tests)

    all_four : (m n p q : ℕ) → m ≤ 1 → n ≤ 1 → p ≤ 1 → q ≤ 1
        → ((leb 1 m && leb 1 n) && (leb 1 p && leb 1 q)) ≡ leb 4 (m + n + p + q)
    all_four m n p q a b c d = grind (arith, nat_tests)

-- a suit has as many ranks as cards
suit-many : (bits suit : ℕ) (cards : List Card) → AreOnce cards
    → ((r : ℕ) → has_rank bits r ≡ leb 1 (count_of_suit cards suit r))
    → length (ranks_of bits) ≡ count_by (λ (card : Card). eqb card.suit suit) cards
suit-many bits suit cards once are =
    let p = has_rank bits in
    let of_suit = filter (λ (card : Card). eqb card.suit suit) cards in
    let none = falling-15 p (are 15 ∙ ap (leb 1) (sym (suited-rank suit cards 15)
    ∙ other-rank of_suit 15 (inl (lit≤ tt)))) in
    let passing = total-passing p 15 in
    let same = total-same (λ r. cond (p r) 1 0) (count_of_rank of_suit) 15 (λ r within.
    ap (λ b. cond b 1 0) (are r) ∙ once_is (count_of_suit cards suit r) (once suit r)
    ∙ sym (suited-rank suit cards r)) in
    let all = total-cards of_suit in
    let long = length-filter (λ (card : Card). eqb card.suit suit) cards in
    let listed = ap length none in
    omega (arith, passing, same, all, long, listed)
  where
    once_is : (n : ℕ) → n ≤ 1 → cond (leb 1 n) 1 0 ≡ n
    once_is n few = grind (arith, nat_tests)

-- cards of two suits are no more than all
two-suits : (cards : List Card) (s t : ℕ) → (s ≡ t → ⊥)
    → count_by (λ (card : Card). eqb card.suit s) cards + count_by (λ (card : Card). eqb card.suit t) cards
    ≤ length cards
two-suits [] s t apart = zero-le
two-suits (card ∷ cards) s t apart =
    let later = two-suits cards s t apart in
    rw (
      count_by-cons (λ (card : Card). eqb card.suit s) card cards,
      count_by-cons (λ (card : Card). eqb card.suit t) card cards,
    )
    (one card.suit _ _ (length cards) later)
  where
    one : (u x y n : ℕ) → x + y ≤ n → cond (eqb u s) 1 0 + x + (cond (eqb u t) 1 0 + y) ≤ suc n
    one u x y n less = let differs : eqb s t ≡ false = grind (arith, nat_tests) in grind (arith, nat_tests)

-- a suit has five cards where its set has more than four ranks
pub suit-enough : (bits suit : ℕ) (cards : List Card) → AreOnce cards
    → ((r : ℕ) → has_rank bits r ≡ leb 1 (count_of_suit cards suit r)) → ltb 4 (length (ranks_of bits)) ≡ true
    → 5 ≤ count_by (λ (card : Card). eqb card.suit suit) cards
suit-enough bits suit cards once are more = let many = suit-many bits suit cards once are in grind (arith, nat_tests)

-- and has not where it has not
pub suit-few : (bits suit : ℕ) (cards : List Card) → AreOnce cards
    → ((r : ℕ) → has_rank bits r ≡ leb 1 (count_of_suit cards suit r)) → ltb 4 (length (ranks_of bits)) ≡ false
    → 5 ≤ count_by (λ (card : Card). eqb card.suit suit) cards → ⊥
suit-few bits suit cards once are few five =
    let many = suit-many bits suit cards once are in
    let no_more : length (ranks_of bits) ≤ 4 = grind (arith, nat_tests) in
    omega (arith, many, no_more, five)

-- where three suits have no five cards, the fourth has where any has
pub last-suit : (test : ℕ → Card → Bool) (cards : List Card) → (5 ≤ count_by (test 0) cards → ⊥)
    → (5 ≤ count_by (test 1) cards → ⊥) → (5 ≤ count_by (test 2) cards → ⊥) → (s : ℕ) → s < 4
    → 5 ≤ count_by (test s) cards → 5 ≤ count_by (test 3) cards
last-suit test cards a b d s four five =
    elim (which s four) [
      | inl is ↦ absurd (a (subst (λ t. 5 ≤ count_by (test t) cards) is five))
      | inr more ↦ elim more [
        | inl is ↦ absurd (b (subst (λ t. 5 ≤ count_by (test t) cards) is five))
        | inr last ↦ elim last [
          | inl is ↦ absurd (d (subst (λ t. 5 ≤ count_by (test t) cards) is five))
          | inr is ↦ subst (λ t. 5 ≤ count_by (test t) cards) is five
        ]
      ]
    ]
  where
    which : (s : ℕ) → s < 4 → (s ≡ 0) ⊎ ((s ≡ 1) ⊎ ((s ≡ 2) ⊎ (s ≡ 3)))
    which s four = grind arith

-- of fewer than ten cards one suit may have five, where it has as soon as another has
pub longest-is : (bits suit : ℕ) (cards : List Card) → AreOnce cards
    → ((r : ℕ) → has_rank bits r ≡ leb 1 (count_of_suit cards suit r)) → length cards < 10
    → ((s : ℕ) → s < 4 → (s ≡ suit → ⊥) → 5 ≤ count_by (λ (card : Card). eqb card.suit s) cards
    → 5 ≤ count_by (λ (card : Card). eqb card.suit suit) cards) → AreSuited bits [] cards
longest-is bits suit cards once are few longest = record {
  suit = Some suit;
  ranks = record {
    some = lit≤ tt;
    at = λ r below. are r;
    only = λ r out. sym (suited-rank suit cards r)
        ∙ other-rank (filter (λ (card : Card). eqb card.suit suit) cards) r out;
  };
  of_hole = λ s is. refl;
  only = λ s four of_hole five. elim (eqb s suit) as (λ b. eqb s suit ≡ b → Some suit ≡ Some s) [
    | true ↦ λ same. ap (λ t. Some t) (sym (eqb-true s suit same))
    | false ↦ λ differs.
        let apart : s ≡ suit → ⊥ = grind (arith, nat_tests) in
        let also = longest s four apart five in
        let both = two-suits cards s suit apart in
        absurd (omega (arith, five, also, both, few))
  ] refl;
}

-- and none where no suit has five
pub longest-none : (bits : ℕ) (cards : List Card) → bits ≡ 0
    → ((s : ℕ) → s < 4 → 5 ≤ count_by (λ (card : Card). eqb card.suit s) cards → ⊥) → AreSuited bits [] cards
longest-none bits cards empty none = record {
  suit = None;
  ranks = record {
    some = lit≤ tt;
    at = λ r below. ap (λ n. has_rank n r) empty ∙ ap (λ b. eqb b 1) (bit_at-zero r);
    only = λ r out. refl;
  };
  of_hole = λ s is. refl;
  only = λ s four of_hole five. absurd (none s four five);
}
