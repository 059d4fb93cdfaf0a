-- A table of the cards that were seen.
use Rattle.std.proofs.Common.{◌≡◌, ◌≢◌, ◌∙◌, sym, ap, ℕ, ◌+◌, ◌-◌, ◌*◌, ◌<◌, ◌≤◌, Bool, true, false, ◌==◌, ◌&&◌, ◌||◌, List, [], length, take, replicate, set, inl, inr, arith, get_or-set_same, get_or-set_other}
use Rattle.std.specs.List.{list_any, HoldsAt, AllWithin, slice_index_or}
use Rattle.std.proofs.Math.Bool.{or-false}
use Rattle.std.proofs.lemmas.Bool.{cases_eq, eq-eqb, false_from_ne_true, ne_eqb, or_right}
use Rattle.std.proofs.lemmas.Bool.Decides.{nat_tests}
use Rattle.std.proofs.lemmas.List.{get_or_read, get_or-replicate}
use Rattle.std.proofs.lemmas.List.Folds.{list_any_more, list_any_at, Any-from_list_any}
use Rattle.card_set.specs.declared.card.Card.{Card}
use Rattle.card_set.specs.Decks.{is_same_card, index_of}

-- the table says of each index whether the card of that index is among these
abbrev pub IsSeen : List Bool → List Card → Type 0
IsSeen seen cards = (index : ℕ) → index < 52 → slice_index_or seen index false ≡ list_any
    (λ card. index_of card == index) cards

-- two cards have one index just where they are the same card
same_index : (a x b y : ℕ) → 2 ≤ a → 2 ≤ b → x < 4 → y < 4 → ((a - 2) * 4 + x == (b - 2) * 4 + y) ≡ (a == b && x == y)
same_index a x b y a_two b_two x_four y_four = grind (arith, nat_tests)

index-same : (one other : Card) → (index_of one == index_of other) ≡ is_same_card one other
index-same one other = same_index one.rank one.suit other.rank other.suit one.from_two other.from_two one.one_of_four
    other.one_of_four

-- no card is seen in an empty table
pub seen-none : IsSeen (replicate 52 false) []
seen-none = λ index within. get_or-replicate 52 index false false within

-- one more card
pub seen-more : (seen : List Bool) (cards : List Card) (next : ℕ) (card : Card) → length seen ≡ 52
    → next < length cards → card ≡ slice_index_or cards next card
    → IsSeen seen (take next cards) → IsSeen (set seen (index_of card) true) (take (next + 1) cards)
seen-more seen cards next card size within is was = λ index less. elim (cases_eq (index_of card) index) [
  | inl same ↦
      let inside : index < length seen = omega (arith, size, less) in
      rw (same) (get_or-set_same seen index true false inside
      ∙ sym (more index ∙ or_right (list_any (λ card. index_of card == index) (take next cards))
      (index_of card == index) (eq-eqb (index_of card) index same)))
  | inr apart ↦
      let differ : index ≢ index_of card = λ same. apart (sym same) in
      get_or-set_other seen (index_of card) index true false differ
      ∙ (was index less ∙ sym (more index ∙ (ap (λ (b : Bool). list_any (λ card. index_of card == index)
      (take next cards) || b) (ne_eqb (index_of card) index apart)
      ∙ or-false (list_any (λ card. index_of card == index) (take next cards)))))
]
  where
    more : (index : ℕ) → list_any (λ card. index_of card == index)
        (take (next + 1) cards) ≡ (list_any (λ card. index_of card == index) (take next cards) ||
        (index_of card == index))
    more index = list_any_more (λ card. index_of card == index) cards next card within
        ∙ ap (λ (other : Card). list_any (λ card. index_of card == index) (take next cards) ||
        (index_of other == index)) (sym is)

-- a card that is in the table is among the cards
pub seen-found : (seen : List Bool) (cards : List Card) (card : Card) → index_of card < 52 → IsSeen seen cards
    → slice_index_or seen (index_of card) false ≡ true
    → (k : ℕ) × (k < length cards) × HoldsAt (λ one. is_same_card one card ≡ true) cards k
seen-found seen cards card small was is =
    let some = Any-from_list_any (λ one. index_of one == index_of card) cards (sym (was (index_of card) small)
    ∙ is) in (
      some.0,
      some.2,
      λ d. ap (λ one. is_same_card one card) (sym
          (get_or_read cards some.0 some.1 some.2 (sym some.3) d)) ∙ (sym (index-same some.1 card) ∙ some.4),
    )

-- a card that is not in the table is none of the cards
pub seen-new : (seen : List Bool) (cards : List Card) (card : Card) → index_of card < 52 → IsSeen seen cards
    → slice_index_or seen (index_of card) false ≡ false
    → AllWithin (λ one. is_same_card one card ≡ false) cards 0 (length cards)
seen-new seen cards card small was is = λ k d low within.
    let none : list_any (λ one. index_of one == index_of card) cards ≡ false = sym (was (index_of card) small) ∙ is in
    false_from_ne_true (is_same_card (slice_index_or cards k d) card)
    (λ passed. cc (
      none,
      list_any_at (λ one. index_of one == index_of card) cards k d within
          (index-same (slice_index_or cards k d) card ∙ passed),
    ))
