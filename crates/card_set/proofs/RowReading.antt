-- What is read as a card or a row is spelled so, and each card and each row is read from its text. This project's own.
use Rattle.std.proofs.Common.{◌≡◌, ℕ, ◌+◌, ◌-◌, ◌<◌, ◌≤◌, Bool, true, false, List, [], ◌∷◌, ◌++◌, length, slice_index, Option, Some, None, option_map, option_and_then, refl, sym, ap, ◌∙◌, arith}
use Rattle.std.specs.Prelude.{nat_le, nat_lt, ◌==◌, codes, cond}
use Rattle.std.specs.List.{position, position_or_len}
use Rattle.std.specs.Option.{IfSome}
use Rattle.std.proofs.lemmas.Bool.{eqb-true}
use Rattle.std.proofs.lemmas.Bool.Decides.{nat_tests}
use Rattle.std.proofs.lemmas.Option.{same_Some}
use Rattle.std.proofs.lemmas.List.Quantifiers.{position-Some}
use Rattle.card_set.specs.declared.card.Card.{Card}
use Rattle.card_set.specs.declared.card.CardRow.{CardRow}
use Rattle.card_set.specs.Cards.{rank_letters, rank_letter, suit_letter, card_text, cards_text, row_text, rank_of, suit_of, card_by, card_at, card_of, cards_of, so_many, so_many_of, row_by, row_at, row_of}
use Rattle.card_set.proofs.CardLaws.{same_card, same_row}
use Rattle.card_set.proofs.Computed.{all_below, holds_below}
use Rattle.card_set.proofs.Steps.{bind_found, map_found}

-- what reads exactly the things that satisfy a property reads the same as another that does
reads_same : {A : Type 0} (P : A → Type 0) (one other : Option A) → IfSome one P → ((x : A) → P x → one ≡ Some x)
    → ((x : A) → other ≡ Some x → P x) → ((x : A) → P x → other ≡ Some x) → one ≡ other
reads_same P (Some x) other found only other_found other_only = sym (other_only x found)
reads_same P None None found only other_found other_only = refl
reads_same P None (Some x) found only other_found other_only = only x (other_found x refl)

-- a letter that was looked up stands at the index that was found
index_found : (letters : List ℕ) (letter index : ℕ) → position (λ known. known == letter) letters ≡ Some index
    → slice_index letters index ≡ letter
index_found letters letter index h =
    eqb-true (slice_index letters index) letter (position-Some (λ known. known == letter) letters index 0 h).1

-- whether each letter is found at its own index, as where no letter comes twice
is_found_again : List ℕ → Bool
is_found_again letters =
    all_below (λ index. position_or_len (λ known. known == slice_index letters index) letters == index) (length letters)

-- a letter is found at its index
index_again : (letters : List ℕ) (index : ℕ) → is_found_again letters ≡ true → index < length letters
    → position (λ known. known == slice_index letters index) letters ≡ Some index
unfolding is_found_again
index_again letters index h within =
    let test = holds_below (λ k. position_or_len (λ known. known == slice_index letters k) letters == k)
    (length letters) index h within in
    let found : position_or_len (λ known. known == slice_index letters index) letters ≡ index = eqb-true _ index test in
    let inside : nat_lt index (length letters) ≡ true = grind (arith, nat_tests) in
    rw (found, inside) refl

rank_found : (letter rank : ℕ) → rank_of letter ≡ Some rank → rank_letter rank ≡ letter
rank_found letter rank h =
    let index = map_found (λ p. p + 2) (position (λ known. known == letter) rank_letters) rank h in
    let counted : rank - 2 ≡ index.0 = omega (arith, index.2) in
    ap (slice_index rank_letters) counted ∙ index_found rank_letters letter index.0 index.1

rank_again : (rank : ℕ) → 2 ≤ rank → rank ≤ 14 → rank_of (rank_letter rank) ≡ Some rank
unfolding is_found_again all_below
rank_again rank low high =
    let counted : rank - 2 + 2 ≡ rank = omega arith in
    ap (option_map (λ index. index + 2)) (index_again rank_letters (rank - 2) refl (omega arith)) ∙ ap Some counted

suit_found : (letter suit : ℕ) → suit_of letter ≡ Some suit → suit_letter suit ≡ letter
suit_found letter suit h = index_found (codes "cdhs") letter suit h

suit_again : (suit : ℕ) → suit < 4 → suit_of (suit_letter suit) ≡ Some suit
unfolding is_found_again all_below
suit_again suit few = index_again (codes "cdhs") suit refl few

card_by_found : (rank suit : ℕ) (two ace four : Bool) (t : nat_le 2 rank ≡ two) (a : nat_le rank 14 ≡ ace)
    (f : nat_lt suit 4 ≡ four) (card : Card) → card_by rank suit two ace four t a f ≡ Some card
    → (rank ≡ card.rank) × (suit ≡ card.suit)
card_by_found rank suit true true true t a f card h = (cc, cc)
card_by_found rank suit _ _ _ t a f card h = absurd cc

card_by_again : (card : Card) (two ace four : Bool) (t : nat_le 2 card.rank ≡ two) (a : nat_le card.rank 14 ≡ ace)
    (f : nat_lt card.suit 4 ≡ four) → card_by card.rank card.suit two ace four t a f ≡ Some card
card_by_again card true true true t a f = ap Some (same_card _ card refl refl)
card_by_again card _ _ _ t a f = absurd (grind (arith, nat_tests))

two_letters : (x y a b : ℕ) → x ≡ a → y ≡ b → x ∷ y ∷ [] ≡ a ∷ b ∷ []
two_letters x y a b first second = cc

-- the card that is read is spelled so
pub card_found : (a b : ℕ) (card : Card) → card_of a b ≡ Some card → card_text card ≡ a ∷ b ∷ []
unfolding card_of
card_found a b card h =
    let rank = bind_found (rank_of a) (λ r. option_and_then (λ s. card_at r s) (suit_of b)) card h in
    let suit = bind_found (suit_of b) (λ s. card_at rank.0 s) card rank.2 in
    let first = rank_found a rank.0 rank.1 in
    let second = suit_found b suit.0 suit.1 in
    let parts = card_by_found rank.0 suit.0 (nat_le 2 rank.0) (nat_le rank.0 14)
    (nat_lt suit.0 4) refl refl refl card suit.2 in
    two_letters (rank_letter card.rank) (suit_letter card.suit) a b (ap rank_letter (sym parts.0) ∙ first)
    (ap suit_letter (sym parts.1) ∙ second)

-- each card is read from its text
pub card_again : (card : Card) → card_of (rank_letter card.rank) (suit_letter card.suit) ≡ Some card
unfolding card_of
card_again card = rw (rank_again card.rank card.from_two card.up_to_ace, suit_again card.suit card.one_of_four)
    (card_by_again card (nat_le 2 card.rank) (nat_le card.rank 14) (nat_lt card.suit 4) refl refl refl)

cards_found : (bytes : List ℕ) (cards : List Card) → cards_of bytes ≡ Some cards → cards_text cards ≡ bytes
unfolding cards_of
cards_found [] cards h = ap cards_text (sym (same_Some [] cards h))
cards_found (only ∷ []) cards h = absurd cc
cards_found (a ∷ b ∷ bytes) cards h =
    let card = bind_found (card_of a b) (λ c. option_map (λ cs. c ∷ cs) (cards_of bytes)) cards h in
    let others = map_found (λ cs. card.0 ∷ cs) (cards_of bytes) cards card.2 in
    let first = card_found a b card.0 card.1 in
    let rest = cards_found bytes others.0 others.1 in
    ap cards_text (sym others.2) ∙ ap (λ (text : List ℕ). text ++ cards_text others.0) first
    ∙ ap (λ (text : List ℕ). a ∷ b ∷ text) rest

cards_again : (cards : List Card) → cards_of (cards_text cards) ≡ Some cards
unfolding cards_of
cards_again [] = refl
cards_again (card ∷ cards) = rw (card_again card, cards_again cards) refl

so_many_found : (count : ℕ) (all cards : List Card) (test : Bool) → (length all == count) ≡ test
    → cond test (Some all) None ≡ Some cards → (all ≡ cards) × (length all ≡ count)
so_many_found count all cards true is h = (same_Some all cards h, eqb-true (length all) count is)
so_many_found count all cards false is h = absurd cc

-- the cards that are read are so many, and they are spelled so
pub cards_are_found : (count : ℕ) (bytes : List ℕ) (cards : List Card) → so_many_of count bytes ≡ Some cards
    → (length cards ≡ count) × (cards_text cards ≡ bytes)
unfolding so_many_of
cards_are_found count bytes cards h =
    let all = bind_found (cards_of bytes) (so_many count) cards h in
    let same = so_many_found count all.0 cards (length all.0 == count) refl all.2 in
    (ap length (sym same.0) ∙ same.1, ap cards_text (sym same.0) ∙ cards_found bytes all.0 all.1)

-- so many cards are read from their text
pub cards_are_read : (count : ℕ) (bytes : List ℕ) (cards : List Card)
    → (length cards ≡ count) × (cards_text cards ≡ bytes) → so_many_of count bytes ≡ Some cards
unfolding so_many_of
cards_are_read count bytes cards (size, spelled) =
    let counted : (length cards == count) ≡ true = grind (arith, nat_tests) in
    rw (← spelled, cards_again cards, counted) refl

row_by_found : (cards : List Card) (whole : Bool) (is : (length cards == 52) ≡ whole) (row : CardRow)
    → row_by cards whole is ≡ Some row → cards ≡ row.cards
row_by_found cards true is row h = cc
row_by_found cards false is row h = absurd cc

row_by_again : (row : CardRow) (whole : Bool) (is : (length row.cards == 52) ≡ whole)
    → row_by row.cards whole is ≡ Some row
row_by_again row true is = ap Some (same_row _ row refl)
row_by_again row false is = let right : length row.cards ≡ 52 = row.whole in absurd (grind (arith, nat_tests))

-- the row that is read is spelled so
pub row_found : (bytes : List ℕ) (row : CardRow) → row_of bytes ≡ Some row → row_text row.cards ≡ bytes
unfolding row_of
row_found bytes row h =
    let cards = bind_found (cards_of bytes) row_at row h in
    let same = row_by_found cards.0 (length cards.0 == 52) refl row cards.2 in
    ap row_text (sym same) ∙ cards_found bytes cards.0 cards.1

-- each row is read from its text
pub row_again : (row : CardRow) → row_of (row_text row.cards) ≡ Some row
unfolding row_of
row_again row = rw (cards_again row.cards) (row_by_again row (length row.cards == 52) refl)

both_found : (count : ℕ) (bytes : List ℕ) (read : Option (List Card)) → IfSome read (λ cards. length cards ≡ count)
    → IfSome read (λ cards. cards_text cards ≡ bytes)
    → IfSome read (λ cards. (length cards ≡ count) × (cards_text cards ≡ bytes))
both_found count bytes None size found = tt
both_found count bytes (Some cards) size found = (size, found)

card_spelled : (a b : ℕ) (card : Card) → card_text card ≡ a ∷ b ∷ [] → card_of a b ≡ Some card
card_spelled a b card spelled =
    let first : rank_letter card.rank ≡ a = cc in
    let second : suit_letter card.suit ≡ b = cc in
    rw (← first, ← second) (card_again card)

-- what reads exactly the texts of cards reads the card that two letters spell
pub reads_card : (a b : ℕ) (read : Option Card) → IfSome read (λ card. card_text card ≡ a ∷ b ∷ [])
    → ((card : Card) → card_text card ≡ a ∷ b ∷ [] → read ≡ Some card) → read ≡ card_of a b
reads_card a b read found only = reads_same (λ card. card_text card ≡ a ∷ b ∷ []) read (card_of a b) found only
    (card_found a b) (card_spelled a b)

-- what reads exactly the texts of so many cards reads the cards that bytes spell
pub reads_cards : (count : ℕ) (bytes : List ℕ) (read : Option (List Card)) → IfSome read (λ cards. length cards ≡ count)
    → IfSome read (λ cards. cards_text cards ≡ bytes)
    → ((cards : List Card) → length cards ≡ count → cards_text cards ≡ bytes → read ≡ Some cards)
    → read ≡ so_many_of count bytes
reads_cards count bytes read size found only = reads_same
    (λ cards. (length cards ≡ count) × (cards_text cards ≡ bytes)) read
    (so_many_of count bytes) (both_found count bytes read size found) (λ cards is. only cards is.0 is.1)
    (cards_are_found count bytes) (cards_are_read count bytes)

-- what reads exactly the texts of rows reads the row that bytes spell
pub reads_row : (bytes : List ℕ) (read : Option CardRow) → IfSome read (λ row. row_text row.cards ≡ bytes)
    → ((row : CardRow) → row_text row.cards ≡ bytes → read ≡ Some row) → read ≡ row_of bytes
reads_row bytes read found only = reads_same (λ row. row_text row.cards ≡ bytes) read (row_of bytes) found only
    (row_found bytes) (λ row spelled. ap row_of (sym spelled) ∙ row_again row)
