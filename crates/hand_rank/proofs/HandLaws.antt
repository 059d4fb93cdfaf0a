-- The hands of hole cards with cards of a board that make them five.
use Rattle.std.proofs.Common.{◌≡◌, ℕ, zero, suc, ◌+◌, ◌-◌, ◌<◌, ◌≤◌, inl, Bool, true, false, ◌&&◌, eqb, leb, ltb, cond, List, [], ◌∷◌, ◌++◌, length, Some, None, refl, sym, ap, ◌∙◌, subst, zero-add, zero-le, le_trans, le_of_eq, eqb-true, eq-eqb, leb-true, length-append, arith}
use Rattle.std.specs.Prelude.{Option, map}
use Rattle.std.proofs.lemmas.Bool.Decides.{nat_tests}
use Rattle.std.proofs.lemmas.Option.{same_Some}
use Rattle.card_set.specs.declared.card.Card.{Card}
use Rattle.card_choices.proofs.Combined.{combined}
use Rattle.card_choices.proofs.ListOrder.{Upto, upto_through, upto_both, max_upper, max-above_left}
use Rattle.card_choices.specs.Choices.{choices}
use Rattle.hand_rank.specs.declared.category.Category.{Category}
use Rattle.hand_rank.specs.BestHigh.{greater, best_high}
use Rattle.hand_rank.specs.Held.{hands, has_number, value_in, best_in, value_or_none, IsBestIn}
use Rattle.hand_rank.specs.Cards.{count_of_suit, AreOnce}
use Rattle.hand_rank.specs.Values.{category_number, category_of, count_of_rank, distinct_ranks, run_top, are_of_one_suit, value_by, five_card_value}
use Rattle.hand_rank.proofs.CardCounts.{other-rank, once-few, total-cards}
use Rattle.hand_rank.proofs.Chosen.{IsChoice, whole, count-choice, occurs, choice-with, chosen-within, chosen-above}
use Rattle.hand_rank.proofs.CountLaws.{count_of_rank-cons, value-by}
use Rattle.hand_rank.proofs.Needs.{times, length-times, occurs-times}
use Rattle.hand_rank.proofs.OmahaLaws.{choice-joined, choice-once}
use Rattle.hand_rank.proofs.PartLaws.{count-joined}
use Rattle.hand_rank.proofs.Sections.{total, total-same}
use Rattle.hand_rank.proofs.ShownValues.{AreShown, head}

-- five cards that hole cards and some of a board are
pub record IsHandOf (hole board five : List Card) : Type 0 where
  pub shown : AreShown five
  pub choice : IsChoice five (hole ++ board)
  pub least : (r : ℕ) → count_of_rank hole r ≤ count_of_rank five r
  pub most : (r : ℕ) → count_of_rank five r ≤ count_of_rank (hole ++ board) r
  pub suits : (suit r : ℕ) → count_of_suit five suit r ≤ count_of_suit (hole ++ board) suit r

-- two ranks occur no more often than there are cards
pub two-ranks : (cards : List Card) (a b : ℕ) → (a ≡ b → ⊥) → count_of_rank cards a + count_of_rank cards b
    ≤ length cards
two-ranks [] a b apart = zero-le
two-ranks (card ∷ cards) a b apart =
    let later = two-ranks cards a b apart in
    let first = count_of_rank-cons card cards a in
    let second = count_of_rank-cons card cards b in
    let not_both : eqb a b ≡ false = grind (arith, nat_tests) in
    rw (first, second) (one card.rank (count_of_rank cards a) (count_of_rank cards b) (length cards) not_both later)
  where
    one : (r x y n : ℕ) → eqb a b ≡ false → x + y ≤ n → cond (eqb r a) 1 0 + x + (cond (eqb r b) 1 0 + y) ≤ suc n
    one r x y n apart less = grind (arith, nat_tests)

-- hole cards with some of the board are such a hand
pub is-hand : (hole board others : List Card) → IsChoice others board → length others ≡ 5 - length hole
    → length hole ≤ 2 → AreOnce (hole ++ board) → IsHandOf hole board (hole ++ others)
is-hand hole board others is count few once =
    let all = choice-joined hole hole others board (whole hole) is in
    record {
      shown = record {
        count = let both = length-append hole others in omega arith;
        few = λ r. once-few (hole ++ others) r (choice-once (hole ++ others) (hole ++ board) all once);
      };
      choice = all;
      least = λ r. let sum = count-joined hole others r in omega arith;
      most = λ r. count-choice (λ (card : Card). eqb card.rank r) (hole ++ others) (hole ++ board) all;
      suits = λ suit r. count-choice (λ (card : Card). eqb card.suit suit && eqb card.rank r) (hole ++ others)
          (hole ++ board) all;
    }

-- a list that has each number below a bound so often
unfoldable listed : (ℕ → ℕ) → ℕ → List ℕ
listed often zero = []
listed often (suc n) = times (often n) n (listed often n)

length-listed : (often : ℕ → ℕ) (n : ℕ) → length (listed often n) ≡ total often n
unfolding listed total
length-listed often zero = refl
length-listed often (suc n) = length-times (often n) n (listed often n)
    ∙ ap (λ m. often n + m) (length-listed often n)

occurs-listed : (often : ℕ → ℕ) (n r : ℕ) → occurs (listed often n) r ≡ cond (ltb r n) (often r) 0
unfolding listed
occurs-listed often zero r = let high : ltb r 0 ≡ false = grind (arith, nat_tests) in rw high refl
occurs-listed often (suc n) r =
    occurs-times (often n) n (listed often n) r ∙ ap (λ m. cond (eqb n r) (often n) 0 + m) (occurs-listed often n r)
    ∙ (elim (eqb n r) as (λ b. eqb n r ≡ b
    → cond b (often n) 0 + cond (ltb r n) (often r) 0 ≡ cond (ltb r (suc n)) (often r) 0) [
      | true ↦ λ same.
          let is : often n ≡ often r = ap often (eqb-true n r same) in
          let not_yet : ltb r n ≡ false = grind (arith, nat_tests) in
          let now : ltb r (suc n) ≡ true = grind (arith, nat_tests) in
          rw (not_yet, now, is) (omega arith)
      | false ↦ λ apart.
          let alike : ltb r n ≡ ltb r (suc n) = grind (arith, nat_tests) in
          rw alike (zero-add (cond (ltb r (suc n)) (often r) 0))
    ]) refl

-- what is nowhere more and comes to as much is the same
pub total-least : (a b : ℕ → ℕ) (n : ℕ) → ((r : ℕ) → r < n → a r ≤ b r) → total a n ≤ total b n
unfolding total
total-least a b zero less = zero-le
total-least a b (suc n) less =
    let here = less n (omega arith) in let later = total-least a b n (λ r within. less r (omega arith)) in omega arith

total-tight : (a b : ℕ → ℕ) (n r : ℕ) → ((s : ℕ) → s < n → a s ≤ b s) → total a n ≡ total b n → r < n → a r ≡ b r
unfolding total
total-tight a b zero r less same within = absurd (omega arith)
total-tight a b (suc n) r less same within =
    let here = less n (omega arith) in
    let later = total-least a b n (λ s below. less s (omega arith)) in
    elim (eqb r n) as (λ t. eqb r n ≡ t → a r ≡ b r) [
      | true ↦ λ is. let at = eqb-true r n is in subst (λ m. a m ≡ b m) (sym at) (omega arith)
      | false ↦ λ apart. total-tight a b n r (λ s below. less s (omega arith)) (omega arith) (grind (arith, nat_tests))
    ] refl

total-less : (a b : ℕ → ℕ) (n : ℕ) → ((r : ℕ) → b r ≤ a r) → total (λ r. a r - b r) n + total b n ≡ total a n
unfolding total
total-less a b zero less = refl
total-less a b (suc n) less = let here = less n in let later = total-less a b n less in omega arith

-- cards of a board with which hole cards have ranks so often
pub record IsReached (hole board : List Card) (want : ℕ → ℕ) : Type 0 where
  pub others : List Card
  pub choice : IsChoice others board
  pub count : length others ≡ 5 - length hole
  pub counts : (r : ℕ) → count_of_rank (hole ++ others) r ≡ want r

-- some cards are with the hole cards what is wanted, where that has the hole cards in it, and no more than there
-- is
pub hand-with : (hole board : List Card) (want : ℕ → ℕ) → length hole ≤ 2 → 5 ≤ length hole + length board
    → ((r : ℕ) → count_of_rank hole r ≤ want r) → ((r : ℕ) → want r ≤ count_of_rank (hole ++ board) r)
    → total want 15 ≡ 5 → IsReached hole board want
hand-with hole board want small enough least most five =
    let left : ℕ → ℕ = λ r. want r - count_of_rank hole r in
    let needs = listed left 15 in
    let occur = occurs-listed left 15 in
    let few : length needs ≡ 5 - length hole =
    let a = total-less want (count_of_rank hole) 15 least in
    let b = total-cards hole in
    let c = length-listed left 15 in
    omega (arith, a, b, c, small, five) in
    let at = choice-with (λ (card : Card). card.rank) needs (5 - length hole) board (omega arith)
    (omega (arith, small, enough))
    (λ r. le_trans (le_of_eq (occur r)) (room (ltb r 15) r)) in
    let others = at.0 in
    let both : total (occurs needs) 15 ≡ total (count_of_rank others) 15 =
    let a = total-same (occurs needs) left 15 (λ r below. occur r ∙ inside r below) in
    let b = length-listed left 15 in
    let c = total-cards others in
    let d = at.2 in
    omega (arith, a, b, c, d, few) in
    record {
      others = others;
      choice = at.1;
      count = at.2;
      counts = λ r. elim (leb 15 r) as (λ b. leb 15 r ≡ b → count_of_rank (hole ++ others) r ≡ want r) [
        | true ↦ λ high.
            let none = other-rank (hole ++ board) r (inl (leb-true 15 r high)) in
            let nothing = other-rank (hole ++ others) r (inl (leb-true 15 r high)) in
            let room = most r in
            omega arith
        | false ↦ λ low.
            let below : r < 15 = grind (arith, nat_tests) in
            let same = total-tight (occurs needs) (count_of_rank others) 15 r (λ s within. at.3 s) both below in
            let here : occurs needs r ≡ want r - count_of_rank hole r = occur r ∙ inside r below in
            let sum = count-joined hole others r in
            let some = least r in
            omega (arith, same, here, sum, some)
      ] refl;
    }
  where
    inside : (r : ℕ) → r < 15 → cond (ltb r 15) (want r - count_of_rank hole r) 0 ≡ want r - count_of_rank hole r
    inside r below = let is : ltb r 15 ≡ true = grind (arith, nat_tests) in rw is refl

    room : (b : Bool) (r : ℕ) → cond b (want r - count_of_rank hole r) 0 ≤ count_of_rank board r
    room true r = let sum = count-joined hole board r in let up = most r in omega arith
    room false r = zero-le

-- the number of a value's category
pub record IsNumbered (five : List Card) : Type 0 where
  pub number : ℕ
  pub ranks : List ℕ
  pub is : five_card_value five ≡ number ∷ ranks
  pub few : number ≤ 8

few-category : (category : Category) → category_number category ≤ 8
few-category Category.HighCard = omega arith
few-category Category.OnePair = omega arith
few-category Category.TwoPair = omega arith
few-category Category.ThreeOfAKind = omega arith
few-category Category.Straight = omega arith
few-category Category.Flush = omega arith
few-category Category.FullHouse = omega arith
few-category Category.FourOfAKind = omega arith
few-category Category.StraightFlush = omega arith

pub numbered-five : (five : List Card) → IsNumbered five
numbered-five five =
    let ranks = distinct_ranks five in
    by (category_of (map (count_of_rank five) ranks)) (run_top ranks) (are_of_one_suit five) ranks
    (value-by five ranks (map (count_of_rank five) ranks) (category_of (map (count_of_rank five) ranks)) refl refl refl)
  where
    by : (category : Option Category) (top : Option ℕ) (one : Bool) (ranks : List ℕ)
        → value_by category top one ranks ≡ five_card_value five → IsNumbered five
    by (Some category) top one ranks is = record {
      number = category_number category;
      ranks = ranks;
      is = sym is;
      few = few-category category;
    }
    by None (Some top) true ranks is = record { number = 8; ranks = top ∷ []; is = sym is; few = omega arith }
    by None (Some top) false ranks is = record { number = 4; ranks = top ∷ []; is = sym is; few = omega arith }
    by None None true ranks is = record { number = 5; ranks = ranks; is = sym is; few = omega arith }
    by None None false ranks is = record { number = 0; ranks = ranks; is = sym is; few = omega arith }

best-combined : (hand : List Card → List Card) (otherss : List (List Card))
    → best_high (map hand otherss) ≡ combined greater [] (λ others. five_card_value (hand others)) otherss
unfolding best_high
best-combined hand [] = refl
best-combined hand (others ∷ otherss) = ap (greater (five_card_value (hand others))) (best-combined hand otherss)

best_in-combined : (number : ℕ) (hand : List Card → List Card) (otherss : List (List Card))
    → best_in number (map hand otherss) ≡ combined greater [] (λ others. value_in number (hand others)) otherss
unfolding best_in
best_in-combined number hand [] = refl
best_in-combined number hand (others ∷ otherss) =
    ap (greater (value_in number (hand others))) (best_in-combined number hand otherss)

-- what bounds the value of each hand bounds the best
all-within : (hole board : List Card) (bound : List ℕ)
    → ((others : List Card) → IsChoice others board → length others ≡ 5 - length hole
    → Upto (five_card_value (hole ++ others)) bound)
    → Upto (best_high (hands hole board)) bound
all-within hole board bound each =
    subst (λ v. Upto v bound) (sym (best-combined (λ others. hole ++ others) (choices (5 - length hole) board)))
    (chosen-within (λ others. five_card_value (hole ++ others)) (5 - length hole) board bound each)

some-above : (hole board others : List Card) → IsChoice others board → length others ≡ 5 - length hole
    → Upto (five_card_value (hole ++ others)) (best_high (hands hole board))
some-above hole board others is count =
    subst (λ v. Upto (five_card_value (hole ++ others)) v)
    (sym (best-combined (λ others. hole ++ others) (choices (5 - length hole) board)))
    (subst (λ n. Upto (five_card_value (hole ++ others))
    (combined greater [] (λ others. five_card_value (hole ++ others)) (choices n board))) count
    (chosen-above (λ others. five_card_value (hole ++ others)) others board is))

-- and the same for a category
in-number : (number : ℕ) (five : List Card) (ranks : List ℕ) → five_card_value five ≡ number ∷ ranks
    → value_in number five ≡ five_card_value five
in-number number five ranks is =
    ap (λ v. cond (has_number number v) v []) is ∙ same (number ∷ ranks) (eq-eqb number number refl) ∙ sym is
  where
    same : (v : List ℕ) → eqb number number ≡ true → cond (eqb number number) v [] ≡ v
    same v is = rw is refl

number-within : (number : ℕ) (five : List Card) (bound : List ℕ)
    → ((ranks : List ℕ) → five_card_value five ≡ number ∷ ranks → Upto (number ∷ ranks) bound)
    → Upto (value_in number five) bound
number-within number five bound each =
    let at = numbered-five five in
    subst (λ v. Upto (cond (has_number number v) v []) bound) (sym at.is)
    (elim (eqb at.number number) as (λ b. eqb at.number number ≡ b
    → Upto (cond b (at.number ∷ at.ranks) []) bound) [
      | true ↦ λ same.
          let is = eqb-true at.number number same in
          subst (λ n. Upto (n ∷ at.ranks) bound) (sym is) (each at.ranks (at.is ∙ ap (λ n. n ∷ at.ranks) is))
      | false ↦ λ apart. tt
    ] refl)

all-within_in : (number : ℕ) (hole board : List Card) (bound : List ℕ)
    → ((others : List Card) (ranks : List ℕ) → IsChoice others board
    → length others ≡ 5 - length hole → five_card_value (hole ++ others) ≡ number ∷ ranks → Upto (number ∷ ranks) bound)
    → Upto (best_in number (hands hole board)) bound
all-within_in number hole board bound each =
    subst (λ v. Upto v bound)
    (sym (best_in-combined number (λ others. hole ++ others) (choices (5 - length hole) board)))
    (chosen-within (λ others. value_in number (hole ++ others)) (5 - length hole) board bound
    (λ others is count. number-within number (hole ++ others) bound (λ ranks at. each others ranks is count at)))

some-above_in : (number : ℕ) (hole board others : List Card) (ranks : List ℕ) → IsChoice others board
    → length others ≡ 5 - length hole → five_card_value (hole ++ others) ≡ number ∷ ranks
    → Upto (five_card_value (hole ++ others)) (best_in number (hands hole board))
some-above_in number hole board others ranks is count at =
    subst (λ v. Upto v (best_in number (hands hole board))) (in-number number (hole ++ others) ranks at)
    (subst (λ v. Upto (value_in number (hole ++ others)) v)
    (sym (best_in-combined number (λ others. hole ++ others) (choices (5 - length hole) board)))
    (subst (λ n. Upto (value_in number (hole ++ others))
    (combined greater [] (λ others. value_in number (hole ++ others)) (choices n board))) count
    (chosen-above (λ others. value_in number (hole ++ others)) others board is)))

-- what comes no later
pub upto-of : (v w : List ℕ) → greater v w ≡ w → Upto v w
upto-of v w is = subst (λ x. Upto v x) is (max-above_left v w)

-- no hand is of a category
pub no-best : (number : ℕ) (best : Option (List ℕ)) (hole board : List Card) → best ≡ None
    → ((others : List Card) (ranks : List ℕ) → IsChoice others board
    → length others ≡ 5 - length hole → five_card_value (hole ++ others) ≡ number ∷ ranks → ⊥)
    → IsBestIn number best (hands hole board)
no-best number best hole board is none =
    subst (λ o. IsBestIn number o (hands hole board)) (sym is) (record {
      over = max_upper (best_in number (hands hole board)) [] (all-within_in number hole board []
          (λ others ranks chosen count at. absurd (none others ranks chosen count at)));
      under = max_upper [] (best_high (hands hole board)) tt;
      category = λ shown found. absurd (let bad : None ≡ Some shown = found in cc);
    })

-- some cards show no less than this with the hole cards
pub record Reaches (shown : List ℕ) (hole board : List Card) : Type 0 where
  pub others : List Card
  pub choice : IsChoice others board
  pub count : length others ≡ 5 - length hole
  pub up : Upto shown (five_card_value (hole ++ others))

-- some hand shows no less, and no hand of the category more
pub some-best : (number : ℕ) (shown : List ℕ) (hole board : List Card) → has_number number shown ≡ true
    → Reaches shown hole board
    → ((others : List Card) (ranks : List ℕ) → IsChoice others board
    → length others ≡ 5 - length hole → five_card_value (hole ++ others) ≡ number ∷ ranks → Upto (number ∷ ranks) shown)
    → IsBestIn number (Some shown) (hands hole board)
some-best number shown hole board category reach bound = record {
  over = max_upper (best_in number (hands hole board)) shown (all-within_in number hole board shown bound);
  under = max_upper shown (best_high (hands hole board))
      (upto_through shown (five_card_value (hole ++ reach.others)) (best_high (hands hole board))
      reach.up (some-above hole board reach.others reach.choice reach.count));
  category = λ other is. subst (λ v. has_number number v ≡ true) (same_Some shown other is) category;
}

-- no hand is of a category from a number on
pub record NoneFrom (number : ℕ) (hole board : List Card) : Type 0 where
  pub at : (n : ℕ) → number ≤ n → best_in n (hands hole board) ≡ []

nothing : (v : List ℕ) → Upto v [] → v ≡ []
nothing [] up = refl
nothing (x ∷ xs) up = absurd up

-- no hand is of a category beyond the last
pub none-beyond : (hole board : List Card) → NoneFrom 9 hole board
none-beyond hole board = record {
  at = λ n high. nothing (best_in n (hands hole board)) (all-within_in n hole board [] (λ others ranks is count at.
      let five = numbered-five (hole ++ others) in
      let few = five.few in
      let same : n ≡ five.number = head (sym at ∙ five.is) in
      absurd (omega arith)));
}

-- and none from the next lower number on, where none is of that category either
pub none-more : (number : ℕ) (best : Option (List ℕ)) (hole board : List Card) → NoneFrom (suc number) hole board
    → IsBestIn number best (hands hole board) → best ≡ None → NoneFrom number hole board
none-more number best hole board above is none = record {
  at = λ n from. elim (eqb n number) as (λ b. eqb n number ≡ b → best_in n (hands hole board) ≡ []) [
    | true ↦ λ same. ap (λ m. best_in m (hands hole board)) (eqb-true n number same)
        ∙ nothing (best_in number (hands hole board)) (subst (λ v. Upto (best_in number (hands hole board)) v)
        (ap value_or_none none) (upto-of (best_in number (hands hole board)) (value_or_none best) is.over))
    | false ↦ λ apart. above.at n (grind (arith, nat_tests))
  ] refl;
}

-- a value of a lower category comes before
lower-upto : (number n : ℕ) (ranks shown : List ℕ) → has_number number shown ≡ true → n < number
    → Upto (n ∷ ranks) shown
lower-upto number n ranks [] at less = absurd (let bad : false ≡ true = at in cc)
lower-upto number n ranks (first ∷ shown) at less = inl (grind (arith, nat_tests))

-- the best of the highest category that there is, is the best
pub best-first : (number : ℕ) (best : Option (List ℕ)) (shown : List ℕ) (hole board : List Card)
    → NoneFrom (suc number) hole board → IsBestIn number best (hands hole board) → best ≡ Some shown
    → shown ≡ best_high (hands hole board)
best-first number best shown hole board above is some =
    let under = subst (λ v. Upto v (best_high (hands hole board))) (ap value_or_none some)
    (upto-of (value_or_none best) (best_high (hands hole board)) is.under) in
    let over = subst (λ v. Upto (best_in number (hands hole board)) v) (ap value_or_none some)
    (upto-of (best_in number (hands hole board)) (value_or_none best) is.over) in
    upto_both shown (best_high (hands hole board)) under
    (all-within hole board shown (λ others chosen count.
    let five = numbered-five (hole ++ others) in
    let up = some-above_in five.number hole board others five.ranks chosen count five.is in
    let as_number = is.category shown some in
    elim (ltb five.number number) as (λ b. ltb five.number number ≡ b
    → Upto (five_card_value (hole ++ others)) shown) [
      | true ↦ λ less. subst (λ v. Upto v shown) (sym five.is)
          (lower-upto number five.number five.ranks shown as_number (grind (arith, nat_tests)))
      | false ↦ λ not_less. elim (eqb five.number number) as (λ b. eqb five.number number ≡ b
          → Upto (five_card_value (hole ++ others)) shown) [
            | true ↦ λ same. upto_through (five_card_value (hole ++ others)) (best_in number (hands hole board))
                shown
                (subst (λ n. Upto (five_card_value (hole ++ others)) (best_in n (hands hole board)))
                (eqb-true five.number number same) up) over
            | false ↦ λ apart.
                let none = above.at five.number (grind (arith, nat_tests)) in
                absurd (subst (λ v. Upto v []) five.is
                (subst (λ v. Upto (five_card_value (hole ++ others)) v) none up))
          ] refl
    ] refl))

-- there is a hand
pub some-hand : (hole board : List Card) → length hole ≤ 2 → 5 ≤ length hole + length board → NoneFrom 0 hole board → ⊥
some-hand hole board small enough none =
    let at = choice-with (λ (card : Card). card.rank) [] (5 - length hole) board zero-le (omega (arith, small, enough))
    (λ r. zero-le) in
    let others = at.0 in
    let five = numbered-five (hole ++ others) in
    let up = some-above_in five.number hole board others five.ranks at.1 at.2 five.is in
    subst (λ v. Upto v []) five.is
    (subst (λ v. Upto (five_card_value (hole ++ others)) v) (none.at five.number zero-le) up)
