-- Cards by their ranks and suits. This project's own.
use mathlib.Core.HLevel.{is_prop→PathP}
use Rattle.std.proofs.Common.{◌≡◌, ◌≢◌, ℕ, ◌<◌, ◌≤◌, List, length, true, false, ◌==◌, ◌&&◌, arith, ap}
use Rattle.std.proofs.Props.{props}
use Rattle.std.proofs.lemmas.Bool.{false_from_ne_true}
use Rattle.std.proofs.lemmas.Bool.Decides.{nat_tests}
use Rattle.card_set.specs.declared.card.Card.{Card}
use Rattle.card_set.specs.declared.card.CardRow.{CardRow}
use Rattle.card_set.specs.Decks.{is_same_card}

le_prop : (n m : ℕ) → IsProp (n ≤ m)
le_prop n m = hlevel props

lt_prop : (n m : ℕ) → IsProp (n < m)
lt_prop n m = hlevel props

-- a card is its rank and its suit
pub same_card : (one other : Card) → one.rank ≡ other.rank → one.suit ≡ other.suit → one ≡ other
same_card one other ranks suits = λ i. record {
  rank = ranks i;
  suit = suits i;
  from_two = is_prop→PathP (λ j. 2 ≤ ranks j) (λ j. le_prop 2 (ranks j)) one.from_two other.from_two i;
  up_to_ace = is_prop→PathP (λ j. ranks j ≤ 14) (λ j. le_prop (ranks j) 14) one.up_to_ace other.up_to_ace i;
  one_of_four = is_prop→PathP (λ j. suits j < 4) (λ j. lt_prop (suits j) 4) one.one_of_four other.one_of_four i;
}

whole_prop : (cards : List Card) → IsProp (length cards ≡ 52)
whole_prop cards = hlevel props

-- a row is its cards
pub same_row : (one other : CardRow) → one.cards ≡ other.cards → one ≡ other
same_row one other cards = λ i. record {
  cards = cards i;
  whole = is_prop→PathP (λ j. length (cards j) ≡ 52) (λ j. whole_prop (cards j)) one.whole other.whole i;
}

same_numbers : (a b c d : ℕ) → ((a == b) && (c == d)) ≡ true → (a ≡ b) × (c ≡ d)
same_numbers a b c d test = grind (arith, nat_tests)

passes_same : (a b c d : ℕ) → a ≡ b → c ≡ d → ((a == b) && (c == d)) ≡ true
passes_same a b c d ranks suits = grind (arith, nat_tests)

-- two cards that pass the test of being the same card are equal
pub same-from_is_same_card : (one other : Card) → is_same_card one other ≡ true → one ≡ other
same-from_is_same_card one other test =
    let both : (one.rank ≡ other.rank) × (one.suit ≡ other.suit) =
    same_numbers one.rank other.rank one.suit other.suit test in
    same_card one other both.0 both.1

-- two cards that fail the test of being the same card differ
pub differ-from_is_same_card : (one other : Card) → is_same_card one other ≡ false → one ≢ other
differ-from_is_same_card one other test = λ same.
    let passed : is_same_card one other ≡ true =
    passes_same one.rank other.rank one.suit other.suit (ap (λ (card : Card). card.rank) same)
    (ap (λ (card : Card). card.suit) same) in
    cc

-- two cards that differ fail the test of being the same card
pub is_same_card-from_differ : (one other : Card) → one ≢ other → is_same_card one other ≡ false
is_same_card-from_differ one other differ =
    false_from_ne_true (is_same_card one other) (λ passed. differ (same-from_is_same_card one other passed))
