-- Parts of five cards.
use Rattle.std.proofs.Common.{◌≡◌, ℕ, zero, suc, ◌+◌, ◌<◌, ◌≤◌, ◌⊎◌, inl, inr, Bool, true, false, ◌&&◌, ◌||◌, eqb, leb, cond, List, [], ◌∷◌, ◌++◌, length, get_or, Some, None, lit≤, refl, sym, ap, ◌∙◌, arith}
use Rattle.std.specs.Prelude.{Option, map}
use Rattle.std.proofs.lemmas.Bool.Decides.{nat_tests}
use Rattle.std.proofs.lemmas.List.Sums.{sum_by-append}
use Rattle.card_set.specs.declared.card.Card.{Card}
use Rattle.card_choices.proofs.ListOrder.{Upto, upto_through, max_upper, max-above_left}
use Rattle.card_choices.specs.Choices.{omaha_choices}
use Rattle.hand_rank.specs.declared.category.Category.{Category}
use Rattle.hand_rank.specs.BestHigh.{greater, best_high}
use Rattle.hand_rank.specs.Sets.{has_rank, IsTallyOf}
use Rattle.hand_rank.specs.Values.{category_number, category_of, count_of_rank, distinct_ranks, run_top, are_of_one_suit, value_by, five_card_value}

-- how often ranks occur in some cards and in others
pub tally-joined : (a1 a2 a3 a4 b1 b2 b3 b4 c1 c2 c3 c4 : ℕ) (one other both : ℕ → ℕ) → IsTallyOf a1 a2 a3 a4 one
    → IsTallyOf b1 b2 b3 b4 other → ((r : ℕ) → both r ≡ one r + other r)
    → ((r : ℕ) → has_rank c1 r ≡ (has_rank a1 r || has_rank b1 r))
    → ((r : ℕ) → has_rank c2 r ≡ ((has_rank a2 r || has_rank b2 r) || (has_rank a1 r && has_rank b1 r)))
    → ((r : ℕ) → has_rank c3 r
    ≡ ((has_rank a3 r || has_rank b3 r) || ((has_rank a2 r && has_rank b1 r) || (has_rank a1 r && has_rank b2 r))))
    → ((r : ℕ) → has_rank c4 r
    ≡ ((has_rank a4 r || has_rank b4 r) ||
    ((has_rank a3 r && has_rank b1 r) || ((has_rank a2 r && has_rank b2 r) || (has_rank a1 r && has_rank b3 r)))))
    → IsTallyOf c1 c2 c3 c4 both
tally-joined a1 a2 a3 a4 b1 b2 b3 b4 c1 c2 c3 c4 one other both is also sum of1 of2 of3 of4 =
    let only : (r : ℕ) → (15 ≤ r) ⊎ (r < 2) → both r ≡ 0 = λ r out. let x = is.of_once.only r out in let y =
    also.of_once.only r out in let z = sum r in omega arith in
    record {
      of_once = record {
        some = lit≤ tt;
        only = only;
        at = λ r within.
            of1 r ∙ (λ i. is.of_once.at r within i || also.of_once.at r within i) ∙ once (one r) (other r)
            ∙ ap (leb 1) (sym (sum r));
      };
      of_twice = record {
        some = lit≤ tt;
        only = only;
        at = λ r within.
            of2 r ∙ (λ i. (is.of_twice.at r within i || also.of_twice.at r within i) ||
            (is.of_once.at r within i && also.of_once.at r within i)) ∙ twice (one r) (other r)
            ∙ ap (leb 2) (sym (sum r));
      };
      of_thrice = record {
        some = lit≤ tt;
        only = only;
        at = λ r within.
            of3 r ∙ (λ i. (is.of_thrice.at r within i || also.of_thrice.at r within i) ||
            ((is.of_twice.at r within i && also.of_once.at r within i) ||
            (is.of_once.at r within i && also.of_twice.at r within i)))
            ∙ thrice (one r) (other r) ∙ ap (leb 3) (sym (sum r));
      };
      of_four = record {
        some = lit≤ tt;
        only = only;
        at = λ r within.
            of4 r ∙ (λ i. (is.of_four.at r within i || also.of_four.at r within i) ||
            ((is.of_thrice.at r within i && also.of_once.at r within i) ||
            ((is.of_twice.at r within i && also.of_twice.at r within i) ||
            (is.of_once.at r within i && also.of_thrice.at r within i))))
            ∙ four (one r) (other r) ∙ ap (leb 4) (sym (sum r));
      };
    }
  where
    once : (m n : ℕ) → (leb 1 m || leb 1 n) ≡ leb 1 (m + n)
    once m n = grind (arith, nat_tests)

    twice : (m n : ℕ) → ((leb 2 m || leb 2 n) || (leb 1 m && leb 1 n)) ≡ leb 2 (m + n)
    twice m n = grind (arith, nat_tests)

    thrice : (m n : ℕ) → ((leb 3 m || leb 3 n) || ((leb 2 m && leb 1 n) || (leb 1 m && leb 2 n))) ≡ leb 3 (m + n)
    thrice m n = grind (arith, nat_tests)

    four : (m n : ℕ) → ((leb 4 m || leb 4 n) ||
        ((leb 3 m && leb 1 n) || ((leb 2 m && leb 2 n) || (leb 1 m && leb 3 n)))) ≡ leb 4 (m + n)
    four m n = grind (arith, nat_tests)

-- a rank occurs in some cards and more cards together as often as in the first and in the others added up
pub count-joined : (cards more : List Card) (r : ℕ)
    → count_of_rank (cards ++ more) r ≡ count_of_rank cards r + count_of_rank more r
count-joined cards more r = sum_by-append (λ (c : Card). cond (eqb c.rank r) 1 0) cards more

-- the cards of a list of two
pub two-are : (cards : List Card) (a b : Card) → length cards ≡ 2 → get_or cards 0 a ∷ get_or cards 1 b ∷ [] ≡ cards
two-are [] a b two = absurd (omega arith)
two-are (v ∷ []) a b two = absurd (omega arith)
two-are (v ∷ w ∷ []) a b two = refl
two-are (v ∷ w ∷ x ∷ others) a b two = absurd (omega arith)

-- there are choices, each with a value
some-choice : (hole board : List Card) → length hole ≡ 4 → length board ≡ 5 → 1 ≤ length (omaha_choices hole board)
some-choice [] board four five = absurd (omega arith)
some-choice (a ∷ []) board four five = absurd (omega arith)
some-choice (a ∷ b ∷ []) board four five = absurd (omega arith)
some-choice (a ∷ b ∷ c ∷ []) board four five = absurd (omega arith)
some-choice (a ∷ b ∷ c ∷ d ∷ []) [] four five = absurd (omega arith)
some-choice (a ∷ b ∷ c ∷ d ∷ []) (e ∷ []) four five = absurd (omega arith)
some-choice (a ∷ b ∷ c ∷ d ∷ []) (e ∷ f ∷ []) four five = absurd (omega arith)
some-choice (a ∷ b ∷ c ∷ d ∷ []) (e ∷ f ∷ g ∷ []) four five = absurd (omega arith)
some-choice (a ∷ b ∷ c ∷ d ∷ []) (e ∷ f ∷ g ∷ h ∷ []) four five = absurd (omega arith)
some-choice (a ∷ b ∷ c ∷ d ∷ []) (e ∷ f ∷ g ∷ h ∷ i ∷ []) four five = lit≤ tt
some-choice (a ∷ b ∷ c ∷ d ∷ []) (e ∷ f ∷ g ∷ h ∷ i ∷ j ∷ others) four five = absurd (omega arith)
some-choice (a ∷ b ∷ c ∷ d ∷ e ∷ others) board four five = absurd (omega arith)

number-above : (n : ℕ) (ranks : List ℕ) → Upto (0 ∷ []) (n ∷ ranks)
number-above zero ranks = inr (refl, tt)
number-above (suc n) ranks = inl (omega arith)

value-above : (cards : List Card) → Upto (0 ∷ []) (five_card_value cards)
unfolding five_card_value
value-above cards =
    let ranks = distinct_ranks cards in
    by (category_of (map (count_of_rank cards) ranks)) (run_top ranks) (are_of_one_suit cards) ranks
  where
    by : (category : Option Category) (top : Option ℕ) (one : Bool) (ranks : List ℕ)
        → Upto (0 ∷ []) (value_by category top one ranks)
    by (Some category) top one ranks = number-above (category_number category) ranks
    by None (Some top) true ranks = number-above 8 (top ∷ [])
    by None (Some top) false ranks = number-above 4 (top ∷ [])
    by None None true ranks = number-above 5 ranks
    by None None false ranks = number-above 0 ranks

greatest-above : (hands : List (List Card)) → 1 ≤ length hands → Upto (0 ∷ []) (best_high hands)
unfolding best_high
greatest-above [] some = absurd (omega arith)
greatest-above (hand ∷ hands) some = upto_through (0 ∷ []) (five_card_value hand) (best_high (hand ∷ hands))
    (value-above hand) (max-above_left (five_card_value hand) (best_high hands))

-- the best hand of four hole cards and a board of five is worth no less than the lowest category alone
pub best-above : (hole board : List Card) → length hole ≡ 4 → length board ≡ 5
    → greater (0 ∷ []) (best_high (omaha_choices hole board)) ≡ best_high (omaha_choices hole board)
best-above hole board four five =
    max_upper (0 ∷ []) (best_high (omaha_choices hole board))
    (greatest-above (omaha_choices hole board) (some-choice hole board four five))
