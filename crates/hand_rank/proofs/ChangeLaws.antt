-- The value of a hand under changes of its cards' order and suits.
use Rattle.std.proofs.Common.{◌≡◌, ℕ, ◌+◌, true, false, ◌&&◌, cond, eqb, List, [], ◌∷◌, ◌++◌, refl, sym, ap, ap₂, ◌∙◌, arith, append_assoc, eqb-true, eq-eqb}
use Rattle.std.specs.Prelude.{map, filter}
use Rattle.std.specs.List.{list_all}
use Rattle.std.proofs.lemmas.Bool.Decides.{nat_tests}
use Rattle.std.proofs.lemmas.List.Sums.{sum_by-append, sum_by-cons}
use Rattle.card_set.specs.declared.card.Card.{Card}
use Rattle.card_choices.specs.Changes.{AreRenamed, IsOneToOne}
use Rattle.card_choices.specs.Choices.{choices, holdem_choices, omaha_choices}
use Rattle.card_choices.proofs.Combined.{combined, IsCombining, AllowsExchange, list_all-exchange, choices-exchange, choices-renamed, renamed-append, omaha-exchange_hole, omaha-exchange_board, omaha-renamed}
use Rattle.card_choices.proofs.ListOrder.{upto_both, max_assoc, max_upper, max-within, max-above_left, max-above_right}
use Rattle.hand_rank.specs.Values.{ranks_down, count_of_rank, ranks_that_occur, distinct_ranks, category_of, run_top, are_of_one_suit, value_by, five_card_value}
use Rattle.hand_rank.specs.BestHigh.{greater, best_high}
use Rattle.hand_rank.proofs.CountLaws.{count_of_rank-cons}

-- neither the order of values counts for the greatest, nor the empty list
pub greater-combining : IsCombining greater []
greater-combining = record {
  assoc = max_assoc;
  comm = λ a b. upto_both (greater a b) (greater b a)
      (max-within a b (greater b a) (max-above_right b a) (max-above_left b a))
      (max-within b a (greater a b) (max-above_right a b) (max-above_left a b));
  start = λ value. max_upper [] value tt;
}

-- the best value of some hands comes from combining the values of all of them, the greater of two each time
pub best_high-combined : (hands : List (List Card)) → best_high hands ≡ combined greater [] five_card_value hands
unfolding best_high
best_high-combined [] = refl
best_high-combined (cards ∷ hands) = ap (greater (five_card_value cards)) (best_high-combined hands)

ranks_that_occur-same : (cards others : List Card) → ((r : ℕ) → count_of_rank cards r ≡ count_of_rank others r)
    → (times : ℕ) → ranks_that_occur cards times ≡ ranks_that_occur others times
unfolding ranks_that_occur
ranks_that_occur-same cards others same times = λ i. filter (λ rank. eqb (same rank i) times) ranks_down

distinct_ranks-same : (cards others : List Card) → ((r : ℕ) → count_of_rank cards r ≡ count_of_rank others r)
    → distinct_ranks cards ≡ distinct_ranks others
unfolding distinct_ranks
distinct_ranks-same cards others same =
    λ i. ranks_that_occur-same cards others same 4 i ++ ranks_that_occur-same cards others same 3 i ++
    ranks_that_occur-same cards others same 2 i ++ ranks_that_occur-same cards others same 1 i

-- the value of five cards is that of how often ranks occur and whether there is one suit
pub five_card_value-same : (cards others : List Card) → ((r : ℕ) → count_of_rank cards r ≡ count_of_rank others r)
    → are_of_one_suit cards ≡ are_of_one_suit others → five_card_value cards ≡ five_card_value others
unfolding five_card_value
five_card_value-same cards others same suits =
    let ranks = distinct_ranks-same cards others same in
    λ i. value_by (category_of (map (λ r. same r i) (ranks i))) (run_top (ranks i)) (suits i) (ranks i)

count-exchange : (r : ℕ) → AllowsExchange (λ cards. count_of_rank cards r)
count-exchange r front a b back =
    let test = λ (card : Card). cond (eqb card.rank r) 1 0 in
    sum_by-append test front (a ∷ b ∷ back)
    ∙ ap (λ n. count_of_rank front r + n)
    (sum_by-cons test a (b ∷ back) ∙ ap (λ n. test a + n) (sum_by-cons test b back)
    ∙ turned (test a) (test b) (count_of_rank back r)
    ∙ sym (sum_by-cons test b (a ∷ back) ∙ ap (λ n. test b + n) (sum_by-cons test a back)))
    ∙ sym (sum_by-append test front (b ∷ a ∷ back))
  where
    turned : (x y z : ℕ) → x + (y + z) ≡ y + (x + z)
    turned x y z = omega arith

one_suit-exchange : AllowsExchange are_of_one_suit
one_suit-exchange [] a b back =
    elim (eqb b.suit a.suit) as (λ t. eqb b.suit a.suit ≡ t
    → (t && list_all (λ (other : Card). eqb other.suit a.suit) back)
    ≡ (eqb a.suit b.suit && list_all (λ (other : Card). eqb other.suit b.suit) back)) [
      | true ↦ λ same.
          let is : b.suit ≡ a.suit = eqb-true b.suit a.suit same in
          let back_is : eqb a.suit b.suit ≡ true = eq-eqb a.suit b.suit (sym is) in
          rw back_is (ap (λ s. list_all (λ (other : Card). eqb other.suit s) back) (sym is))
      | false ↦ λ differ.
          let back_is : eqb a.suit b.suit ≡ false = grind (arith, nat_tests) in
          rw back_is refl
    ] refl
one_suit-exchange (card ∷ front) a b back =
    list_all-exchange (λ (other : Card). eqb other.suit card.suit) front a b back

pub five_card_value-exchange : AllowsExchange five_card_value
five_card_value-exchange front a b back =
    five_card_value-same (front ++ a ∷ b ∷ back) (front ++ b ∷ a ∷ back) (λ r. count-exchange r front a b back)
    (one_suit-exchange front a b back)

count-renamed : (suit : ℕ → ℕ) (cards others : List Card) → AreRenamed suit cards others → (r : ℕ)
    → count_of_rank cards r ≡ count_of_rank others r
count-renamed suit [] [] renamed r = refl
count-renamed suit [] (other ∷ others) renamed r = absurd renamed
count-renamed suit (card ∷ cards) [] renamed r = absurd renamed
count-renamed suit (card ∷ cards) (other ∷ others) renamed r =
    count_of_rank-cons card cards r
    ∙ ap₂ (λ x y. cond (eqb x r) 1 0 + y) (sym renamed.0) (count-renamed suit cards others renamed.2 r)
    ∙ sym (count_of_rank-cons other others r)

eqb-renamed : (suit : ℕ → ℕ) → IsOneToOne suit → (a b : ℕ) → eqb a b ≡ eqb (suit a) (suit b)
eqb-renamed suit one a b =
    elim (eqb a b) as (λ t. eqb a b ≡ t → t ≡ eqb (suit a) (suit b)) [
      | true ↦ λ same. sym (eq-eqb (suit a) (suit b) (ap suit (eqb-true a b same)))
      | false ↦ λ differ. elim (eqb (suit a) (suit b)) as (λ t. eqb (suit a) (suit b) ≡ t → false ≡ t) [
        | true ↦ λ same. let is : a ≡ b = one a b (eqb-true (suit a) (suit b) same) in absurd (grind (arith, nat_tests))
        | false ↦ λ both. refl
      ] refl
    ] refl

have_suit-renamed : (suit : ℕ → ℕ) → IsOneToOne suit → (first second : ℕ) → second ≡ suit first
    → (cards others : List Card) → AreRenamed suit cards others
    → list_all (λ (card : Card). eqb card.suit first) cards ≡ list_all (λ (card : Card). eqb card.suit second) others
have_suit-renamed suit one first second is [] [] renamed = refl
have_suit-renamed suit one first second is [] (other ∷ others) renamed = absurd renamed
have_suit-renamed suit one first second is (card ∷ cards) [] renamed = absurd renamed
have_suit-renamed suit one first second is (card ∷ cards) (other ∷ others) renamed =
    ap₂ (λ x y. x && y) (eqb-renamed suit one card.suit first ∙ ap₂ eqb (sym renamed.1) (sym is))
    (have_suit-renamed suit one first second is cards others renamed.2)

one_suit-renamed : (suit : ℕ → ℕ) → IsOneToOne suit → (cards others : List Card) → AreRenamed suit cards others
    → are_of_one_suit cards ≡ are_of_one_suit others
one_suit-renamed suit one [] [] renamed = refl
one_suit-renamed suit one [] (other ∷ others) renamed = absurd renamed
one_suit-renamed suit one (card ∷ cards) [] renamed = absurd renamed
one_suit-renamed suit one (card ∷ cards) (other ∷ others) renamed =
    have_suit-renamed suit one card.suit other.suit renamed.1 cards others renamed.2

pub five_card_value-renamed : (suit : ℕ → ℕ) → IsOneToOne suit → (cards others : List Card)
    → AreRenamed suit cards others → five_card_value cards ≡ five_card_value others
five_card_value-renamed suit one cards others renamed =
    five_card_value-same cards others (count-renamed suit cards others renamed)
    (one_suit-renamed suit one cards others renamed)

-- the best hand of hold'em

-- the best hand of hold'em stays as good when two hole cards next to each other change places
pub holdem-exchange_hole : (board : List Card) → AllowsExchange (λ hole. best_high (holdem_choices hole board))
holdem-exchange_hole board front a b back =
    best_high-combined (holdem_choices (front ++ a ∷ b ∷ back) board)
    ∙ ap (λ cards. combined greater [] five_card_value (choices 5 cards)) (append_assoc front (a ∷ b ∷ back) board)
    ∙ choices-exchange greater [] greater-combining five_card_value five_card_value-exchange 5 front a b (back ++ board)
    ∙ ap (λ cards. combined greater [] five_card_value (choices 5 cards))
    (sym (append_assoc front (b ∷ a ∷ back) board))
    ∙ sym (best_high-combined (holdem_choices (front ++ b ∷ a ∷ back) board))

-- the best hand of hold'em stays as good when two cards of the board next to each other change places
pub holdem-exchange_board : (hole : List Card) → AllowsExchange (λ board. best_high (holdem_choices hole board))
holdem-exchange_board hole front a b back =
    best_high-combined (holdem_choices hole (front ++ a ∷ b ∷ back))
    ∙ ap (λ cards. combined greater [] five_card_value (choices 5 cards)) (sym (append_assoc hole front (a ∷ b ∷ back)))
    ∙ choices-exchange greater [] greater-combining five_card_value five_card_value-exchange 5 (hole ++ front) a b back
    ∙ ap (λ cards. combined greater [] five_card_value (choices 5 cards)) (append_assoc hole front (b ∷ a ∷ back))
    ∙ sym (best_high-combined (holdem_choices hole (front ++ b ∷ a ∷ back)))

-- the best hand of hold'em stays as good when the suits of hole and board are renamed one to one
pub holdem-renamed : (suit : ℕ → ℕ) → IsOneToOne suit → (hole others board boards : List Card)
    → AreRenamed suit hole others → AreRenamed suit board boards
    → best_high (holdem_choices hole board) ≡ best_high (holdem_choices others boards)
holdem-renamed suit one hole others board boards of_hole of_board =
    best_high-combined (holdem_choices hole board)
    ∙ choices-renamed greater [] greater-combining suit five_card_value five_card_value
    (five_card_value-renamed suit one) 5 (hole ++ board) (others ++ boards)
    (renamed-append suit hole others board boards of_hole of_board)
    ∙ sym (best_high-combined (holdem_choices others boards))

-- the best hand of Omaha

-- the best hand of Omaha stays as good when two hole cards next to each other change places
pub omaha-exchange_of_hole : (board : List Card) → AllowsExchange (λ hole. best_high (omaha_choices hole board))
omaha-exchange_of_hole board front a b back =
    best_high-combined (omaha_choices (front ++ a ∷ b ∷ back) board)
    ∙ omaha-exchange_hole greater [] greater-combining five_card_value five_card_value-exchange board front a b back
    ∙ sym (best_high-combined (omaha_choices (front ++ b ∷ a ∷ back) board))

-- the best hand of Omaha stays as good when two cards of the board next to each other change places
pub omaha-exchange_of_board : (hole : List Card) → AllowsExchange (λ board. best_high (omaha_choices hole board))
omaha-exchange_of_board hole front a b back =
    best_high-combined (omaha_choices hole (front ++ a ∷ b ∷ back))
    ∙ omaha-exchange_board greater [] greater-combining five_card_value five_card_value-exchange hole front a b back
    ∙ sym (best_high-combined (omaha_choices hole (front ++ b ∷ a ∷ back)))

-- the best hand of Omaha stays as good when the suits of hole and board are renamed one to one
pub omaha-renamed_high : (suit : ℕ → ℕ) → IsOneToOne suit → (hole others board boards : List Card)
    → AreRenamed suit hole others → AreRenamed suit board boards
    → best_high (omaha_choices hole board) ≡ best_high (omaha_choices others boards)
omaha-renamed_high suit one hole others board boards of_hole of_board =
    best_high-combined (omaha_choices hole board)
    ∙ omaha-renamed greater [] greater-combining suit five_card_value
    (five_card_value-renamed suit one) hole others board boards of_hole of_board
    ∙ sym (best_high-combined (omaha_choices others boards))
