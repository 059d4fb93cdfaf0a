-- A hand is seen the same with another deck that has the same cards at the places that it shows.
use Rattle.std.proofs.Common.{◌≡◌, ◌∙◌, refl, sym, ap, ℕ, Bool, true, false, cond, List, [], ◌∷◌, ◌++◌, map}
use Rattle.std.specs.Prelude.{nat_lt, filter}
use Rattle.std.specs.List.{flat_map}
use Rattle.card_set.specs.declared.card.Card.{Card}
use Rattle.table_engine.specs.declared.start.HandStart.{HandStart}
use Rattle.table_engine.specs.declared.start.StartSeat.{StartSeat}
use Rattle.table_engine.specs.Hands.{HandTerms, is_over}
use Rattle.table_engine.specs.Results.{players_after, with_stack}
use Rattle.table_engine.proofs.NoCards.{with_deck, redealt}
use Rattle.view_rules.specs.Shown.{Viewer, BoardStreet, open_streets, players_clockwise, tabled_players, own_places, hole_places, street_places, places_shown}
use Rattle.view_rules.specs.Seen.{Won, cards_at, opened, tabled, won_by, winners_of, undealt, seen_hand}
use Rattle.view_rules.specs.Agreeing.{HaveSameAt}
use Rattle.view_laws.proofs.Members.{first_part, second_part}
use Rattle.view_laws.proofs.Betting.{over-deck}
use Rattle.view_laws.proofs.SameCards.{IsSameAt, open-deck, tabled-deck, own_places-deck, hole_places-deck, street_places-deck, award-alike, stack-alike}

-- The cards at places where the other deck has the same.
cards-alike : (start : HandStart) (deck : List Card) (places : List ℕ) → HaveSameAt places start.deck deck
    → cards_at start places ≡ cards_at (with_deck start deck) places
cards-alike start deck [] same = refl
cards-alike start deck (place ∷ places) same =
    let rest = cards-alike start deck places same.1 in λ i. same.0 i ∷ rest i

-- The streets that are open.
streets-alike : (start : HandStart) (deck : List Card) (streets : List BoardStreet)
    → HaveSameAt (flat_map (street_places start) streets) start.deck deck
    → map (opened start) streets ≡ map (opened (with_deck start deck)) streets
streets-alike start deck [] same = refl
streets-alike start deck (street ∷ streets) same =
    let P = IsSameAt start deck in
    let places = street_places start street in
    let later = flat_map (street_places start) streets in
    let cards = cards-alike start deck places (first_part P places later same)
    ∙ ap (cards_at (with_deck start deck)) (sym (street_places-deck start deck street)) in
    let rest = streets-alike start deck streets (second_part P places later same) in
    λ i. record { street = street; cards = cards i } ∷ rest i

-- The hands that are tabled.
hands-alike : (start : HandStart) (deck : List Card) (players : List StartSeat)
    → HaveSameAt (flat_map (λ player. hole_places start player.seat) players) start.deck deck
    → map (tabled start) players ≡ map (tabled (with_deck start deck)) players
hands-alike start deck [] same = refl
hands-alike start deck (player ∷ players) same =
    let P = IsSameAt start deck in
    let places = hole_places start player.seat in
    let later = flat_map (λ (player : StartSeat). hole_places start player.seat) players in
    let cards = cards-alike start deck places (first_part P places later same)
    ∙ ap (cards_at (with_deck start deck)) (sym (hole_places-deck start deck player.seat)) in
    let rest = hands-alike start deck players (second_part P places later same) in
    λ i. record { name = player.name; cards = cards i } ∷ rest i

-- What is told of a hand once it is over.
over-alike : {A : Type 0} (hand : HandTerms) (deck : List Card) (read : HandTerms → A) (before : A)
    → (is_over hand ≡ true → read (redealt hand deck) ≡ read hand)
    → cond (is_over hand) (read hand) before ≡ cond (is_over (redealt hand deck)) (read (redealt hand deck)) before
over-alike hand deck read before same =
    by_end (is_over hand) refl
    ∙ ap (λ (over : Bool). cond over (read (redealt hand deck)) before) (sym (over-deck hand deck))
  where
    by_end : (over : Bool) → is_over hand ≡ over
        → cond (is_over hand) (read hand) before ≡ cond (is_over hand) (read (redealt hand deck)) before
    by_end true is = ap (λ told. cond (is_over hand) told before) (sym (same is))
    by_end false is =
        ap (λ (over : Bool). cond over (read hand) before) is
        ∙ sym (ap (λ (over : Bool). cond over (read (redealt hand deck)) before) is)

-- who gets something of a hand
abbrev paid_in : HandTerms → List Won
paid_in hand = filter (λ won. nat_lt 0 won.chips) (map (won_by hand) (players_clockwise hand.start))

-- Who gets something once the hand is over.
winners-alike : (who : Viewer) (hand : HandTerms) (deck : List Card)
    → HaveSameAt (places_shown who hand) hand.start.deck deck
    → winners_of hand ≡ winners_of (redealt hand deck)
unfolding winners_of
winners-alike who hand deck same = over-alike hand deck paid_in [] (λ over i.
    filter (λ won. nat_lt 0 won.chips)
    (map (λ player. record { name = player.name; chips = award-alike who hand deck over same player i })
    (players_clockwise hand.start)))

-- A hand and the same with another deck that shows the same cards are seen the same.
pub hand-alike : (who : Viewer) (hand : HandTerms) (deck : List Card)
    → HaveSameAt (places_shown who hand) hand.start.deck deck
    → seen_hand who hand ≡ seen_hand who (redealt hand deck)
unfolding seen_hand
hand-alike who hand deck same =
    let P = IsSameAt hand.start deck in
    let own = own_places who hand.start in
    let streets = flat_map (street_places hand.start) (open_streets hand) in
    let holes = flat_map (λ (player : StartSeat). hole_places hand.start player.seat) (tabled_players hand) in
    let front = first_part P (own ++ streets) holes same in
    let owned = cards-alike hand.start deck own (first_part P own streets front)
    ∙ ap (cards_at (with_deck hand.start deck)) (sym (own_places-deck who hand.start deck)) in
    let opens = streets-alike hand.start deck (open_streets hand) (second_part P own streets front)
    ∙ ap (map (opened (with_deck hand.start deck))) (sym (open-deck hand deck)) in
    let shown = hands-alike hand.start deck (tabled_players hand) (second_part P (own ++ streets) holes same)
    ∙ ap (map (tabled (with_deck hand.start deck))) (sym (tabled-deck hand deck)) in
    let won = winners-alike who hand deck same in
    let after = over-alike hand deck players_after [] (λ (over : is_over hand ≡ true) i.
    map (λ player. with_stack player (stack-alike who hand deck over same player i)) hand.start.seats) in
    λ i. record {
      hand = undealt hand;
      own = owned i;
      streets = opens i;
      tabled = shown i;
      won = won i;
      after = after i;
    }
