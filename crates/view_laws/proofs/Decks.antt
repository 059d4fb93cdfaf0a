-- Cards of a deck by their places, and a deck in which two cards changed places.
use Rattle.std.proofs.Common.{◌≡◌, ◌≢◌, ◌∙◌, refl, sym, ap, ℕ, ◌<◌, List, length, inl, inr, arith}
use Rattle.std.specs.Prelude.{◌⊎◌, slice_index_or, swap}
use Rattle.std.proofs.lemmas.Bool.{cases_eq, cases_lt}
use Rattle.std.proofs.lemmas.List.Edits.{swapped_from_swap, length-swap}
use Rattle.card_set.specs.declared.card.Card.{Card}
use Rattle.card_set.specs.Decks.{IsDeck}

-- Two places of a deck with the same card are one.
pub same-place : (deck : List Card) (one other : ℕ) (d : Card) → IsDeck deck → one < 52 → other < 52
    → slice_index_or deck one d ≡ slice_index_or deck other d → one ≡ other
same-place deck one other d is within within_too same =
    let whole = is.whole in
    elim (cases_lt one other) [
      | inl before ↦ absurd (is.distinct one other d before (omega (arith, whole)) same)
      | inr later ↦ elim (cases_lt other one) [
        | inl before ↦ absurd (is.distinct other one d before (omega (arith, whole)) (sym same))
        | inr not_later ↦ omega arith
      ]
    ]

-- Where the card at a place was before two places were exchanged.
data Source (one two place from : ℕ) : Type 0 where
  AtOne : place ≡ one → from ≡ two → Source one two place from
  AtTwo : place ≡ two → from ≡ one → Source one two place from
  Else : place ≢ one → place ≢ two → from ≡ place → Source one two place from

-- The card at a place of a deck in which two were exchanged, by its place before.
record CameFrom (deck other : List Card) (one two place : ℕ) (d : Card) : Type 0 where
  from : ℕ
  within : from < 52
  source : Source one two place from
  is : slice_index_or other place d ≡ slice_index_or deck from d

-- It came from one of its places.
came-from : (deck other : List Card) (one two place : ℕ) (d : Card) → IsDeck deck → one < 52 → two < 52 → place < 52
    → other ≡ swap deck one two → CameFrom deck other one two place d
came-from deck other one two place d is within within_too inside exchanged =
    let whole = is.whole in
    let cards = swapped_from_swap deck other one two d (omega (arith, whole)) (omega (arith, whole)) exchanged in
    by_one cards (cases_eq place one) (cases_eq place two)
  where
    by_one : (slice_index_or other one d ≡ slice_index_or deck two d)
        × (slice_index_or other two d ≡ slice_index_or deck one d)
        × ((m : ℕ) → (m ≡ one → ⊥) → (m ≡ two → ⊥) → slice_index_or other m d ≡ slice_index_or deck m d)
        → (place ≡ one) ⊎ (place ≡ one → ⊥) → (place ≡ two) ⊎ (place ≡ two → ⊥)
        → CameFrom deck other one two place d
    by_one cards (inl at) second = record {
      from = two;
      within = within_too;
      source = AtOne at refl;
      is = ap (λ (place : ℕ). slice_index_or other place d) at ∙ cards.0;
    }
    by_one cards (inr off) (inl at) = record {
      from = one;
      within = within;
      source = AtTwo at refl;
      is = ap (λ (place : ℕ). slice_index_or other place d) at ∙ cards.1;
    }
    by_one cards (inr off) (inr off_too) = record {
      from = place;
      within = inside;
      source = Else off off_too refl;
      is = cards.2 place off off_too;
    }

-- Places whose cards came from one place are one.
same-source : (one two place other from source : ℕ) → Source one two place from → Source one two other source
    → from ≡ source → place ≡ other
same-source one two place other from source (AtOne at is) (AtOne at_too is_too) same = omega arith
same-source one two place other from source (AtOne at is) (AtTwo at_too is_too) same = omega arith
same-source one two place other from source (AtOne at is) (Else off off_too is_too) same =
    absurd (off_too (omega arith))
same-source one two place other from source (AtTwo at is) (AtOne at_too is_too) same = omega arith
same-source one two place other from source (AtTwo at is) (AtTwo at_too is_too) same = omega arith
same-source one two place other from source (AtTwo at is) (Else off off_too is_too) same = absurd (off (omega arith))
same-source one two place other from source (Else off off_too is) (AtOne at is_too) same =
    absurd (off_too (omega arith))
same-source one two place other from source (Else off off_too is) (AtTwo at is_too) same = absurd (off (omega arith))
same-source one two place other from source (Else off off_too is) (Else off_there off_there_too is_too) same =
    omega arith

-- A deck in which two cards changed places is a deck.
pub exchanged-deck : (deck other : List Card) (one two : ℕ) → IsDeck deck → one < 52 → two < 52
    → other ≡ swap deck one two → IsDeck other
exchanged-deck deck other one two is within within_too exchanged =
    let whole : length other ≡ 52 = ap length exchanged ∙ (length-swap deck one two ∙ is.whole) in
    record {
      whole = whole;
      distinct = λ place later d before inside same.
          let first = came-from deck other one two place d is within within_too (omega arith) exchanged in
          let second = came-from deck other one two later d is within within_too (omega arith) exchanged in
          let sources = same-place deck first.from second.from d is first.within second.within
          (sym first.is ∙ (same ∙ second.is)) in
          let places = same-source one two place later first.from second.from first.source second.source sources in
          omega arith;
    }
