-- No place of the hole cards of a player who has folded is shown to anybody else, and no line tells one of them.
use Rattle.std.proofs.Common.{◌≡◌, ◌≢◌, ◌∙◌, refl, sym, ap, subst, ℕ, ◌<◌, true, false, List, [], map, inl, inr, arith}
use Rattle.std.specs.Prelude.{◌⊎◌, Option, Some, None, Contains}
use Rattle.std.specs.List.{AllByRecursion}
use Rattle.std.specs.Option.{option_map_or, ForSome}
use Rattle.std.proofs.lemmas.Bool.{cases_eq}
use Rattle.std.proofs.lemmas.Option.{same_Some}
use Rattle.std.proofs.lemmas.List.Elements.{All-from_recursion, recursion_from_All, All-contains, All-contains_itself}
use Rattle.betting_round.specs.declared.bettor.Player.{Player}
use Rattle.betting_round.specs.WhoIsDue.{player_in}
use Rattle.card_set.specs.declared.card.Card.{Card}
use Rattle.table_engine.specs.declared.start.HandStart.{HandStart}
use Rattle.table_engine.specs.declared.start.StartSeat.{StartSeat}
use Rattle.table_engine.specs.Deals.{card_at, two_of_clubs}
use Rattle.table_engine.specs.Hands.{HandTerms, player_of, street_of}
use Rattle.table_engine.specs.Starts.{IsLawfulStart}
use Rattle.tournament_events.specs.declared.event.Event.{Event}
use Rattle.tournament_rules.specs.States.{State, first_state, state_after, run}
use Rattle.tournament_rules.specs.Valid.{IsValidState}
use Rattle.tournament_rules.proofs.Steps.{valid_state_after, valid_events}
use Rattle.view_rules.specs.Shown.{Viewer, hole_places, places_shown}
use Rattle.view_rules.specs.Seen.{cards_at, hand_in}
use Rattle.view_rules.specs.Agreeing.{hand_left, places_shown_in}
use Rattle.view_laws.specs.Apart.{AreApart}
use Rattle.view_laws.specs.CardsTold.{cards_told, cards_shown, cards_shown_at, lines_after}
use Rattle.view_laws.specs.Folded.{HasFolded}
use Rattle.view_laws.proofs.Members.{hold_made, weaker}
use Rattle.view_laws.proofs.Growing.{shown_of, shown-now}
use Rattle.view_laws.proofs.Left.{left-lawful, left-start}
use Rattle.view_laws.proofs.CardsTold.{told-shown}
use Rattle.view_laws.proofs.Decks.{same-place}
use Rattle.view_laws.proofs.PlacesApart.{hole-his, found-dealt, holes-apart, board-apart, hole-below, board-below}
use Rattle.view_laws.proofs.Origins.{IsFoundAt, IsHis, Origin, Own, Board, Live, each-found, shown-origin}

-- A player of a hand is found at his seat.
dealt-found : (hand : HandTerms) (player : StartSeat) → IsLawfulStart hand.start → HasFolded hand player
    → IsFoundAt hand.start player
dealt-found hand player lawful has =
    All-contains (IsFoundAt hand.start) hand.start.seats player
    (All-from_recursion (IsFoundAt hand.start) hand.start.seats (each-found hand.start lawful)) has.dealt

-- A place of his hole cards is no other player's.
others-not : (hand : HandTerms) (one other : StartSeat) (place : ℕ) → IsLawfulStart hand.start
    → IsHis hand.start one place → IsHis hand.start other place → one.seat ≡ other.seat
others-not hand one other place lawful his hers = by_seats (cases_eq one.seat other.seat)
  where
    by_seats : (one.seat ≡ other.seat) ⊎ (one.seat ≢ other.seat) → one.seat ≡ other.seat
    by_seats (inl same) = same
    by_seats (inr apart) = absurd (holes-apart hand.start one.seat other.seat place lawful
        (found-dealt hand.start one.seat one lawful his.found)
        (found-dealt hand.start other.seat other lawful hers.found) apart his.hole hers.hole)

-- No place of his hole cards is shown to others.
pub folded-hidden : (who : Viewer) (hand : HandTerms) (player : StartSeat) → IsLawfulStart hand.start
    → HasFolded hand player → who ≢ Some player.name
    → AreApart (hole_places hand.start player.seat) (places_shown who hand)
folded-hidden who hand player lawful has other = λ place hole shown.
    by_origin place hole (shown-origin who hand place lawful shown)
  where
    found : IsFoundAt hand.start player
    found = dealt-found hand player lawful has

    his : (place : ℕ) → Contains (hole_places hand.start player.seat) place → IsHis hand.start player place
    his place hole = record { found = found; hole = hole-his hand.start player.seat place hole }

    by_origin : (place : ℕ) → Contains (hole_places hand.start player.seat) place → Origin who hand place → ⊥
    by_origin place hole (Own own told hers) =
        let seats = others-not hand own player place lawful hers (his place hole) in
        let same : own ≡ player =
        same_Some own player (sym hers.found ∙ (ap (player_of hand.start) seats ∙ found)) in
        other (told ∙ ap (λ (player : StartSeat). Some player.name) same)
    by_origin place hole (Board board) =
        board-apart hand.start player.seat place lawful (found-dealt hand.start player.seat player lawful found)
        (hole-his hand.start player.seat place hole) board
    by_origin place hole (Live own live hers) =
        let seats = others-not hand own player place lawful hers (his place hole) in
        let alike = ap (λ (seat : ℕ). option_map_or (λ (now : Player). now.bettor.live)
        (player_in (street_of hand).players seat) false) seats in
        let never : true ≡ false = sym live ∙ (alike ∙ has.folded) in
        cc

-- What a list of events shows of a hand has no place of the hole cards of who has folded in it.
pub folded-left : (who : Viewer) (before events : List Event) (table : ℕ)
    → ForSome (hand_left (run first_state before) table events) (λ hand. (player : StartSeat)
    → HasFolded hand player → who ≢ Some player.name
    → AreApart (hole_places hand.start player.seat) (places_shown who hand))
folded-left who before events table = λ hand is player has other.
    folded-hidden who hand player
    (left-lawful events (run first_state before) table (valid_events before) hand is) has other

-- An item of which another is made.
record IsMade {A B : Type 0} (f : A → B) (items : List A) (made : B) : Type 0 where
  from : A
  has : Contains items from
  is : f from ≡ made

-- What is in a list that is made of another is made of an item of that.
made-from : {A B : Type 0} (f : A → B) (items : List A) (made : B) → Contains (map f items) made
    → IsMade f items made
made-from f items made has =
    All-contains (IsMade f items) (map f items) made
    (All-from_recursion (IsMade f items) (map f items)
    (hold_made (IsMade f items) f items
    (weaker (Contains items) (λ item. IsMade f items (f item)) items
    (λ item has. record { from = item; has = has; is = refl })
    (recursion_from_All (Contains items) items (All-contains_itself items)))))
    has

-- A place that a hand shows is one of the deck's 52.
shown-below : (who : Viewer) (hand : HandTerms) (place : ℕ) → IsLawfulStart hand.start
    → Contains (places_shown who hand) place → place < 52
shown-below who hand place lawful shown = by_origin (shown-origin who hand place lawful shown)
  where
    of_hole : (player : StartSeat) → IsHis hand.start player place → place < 52
    of_hole player his = hole-below hand.start player.seat place lawful
        (found-dealt hand.start player.seat player lawful his.found) his.hole

    by_origin : Origin who hand place → place < 52
    by_origin (Own player told his) = of_hole player his
    by_origin (Board board) = board-below hand.start place lawful board
    by_origin (Live player live his) = of_hole player his

-- What is shown now of a hand is shown as a list of events leaves it.
left-shown : (who : Viewer) (events : List Event) (state : State) (table place : ℕ) (hand left : HandTerms)
    → IsValidState state → hand_in state table ≡ Some hand → hand_left state table events ≡ Some left
    → Contains (places_shown who hand) place → Contains (places_shown who left) place
left-shown who events state table place hand left valid now is shown =
    let later = places_shown_in who state table events in
    let P = Contains later in
    let all = subst (λ (hand : Option HandTerms). AllByRecursion P (shown_of who hand)) now
    (shown-now who P events state table valid (recursion_from_All P later (All-contains_itself later))) in
    subst (λ (hand : Option HandTerms). Contains (shown_of who hand) place) is
    (All-contains P (places_shown who hand) place (All-from_recursion P (places_shown who hand) all) shown)

-- Of a hand in which a player folds, the lines of no event tell others one of his hole cards.
pub folded-told : (who : Viewer) (before : List Event) (event : Event) (behind : List Event) (table : ℕ)
    → ForSome (hand_left (state_after (run first_state before) event) table behind) (λ hand. (player : StartSeat)
    → HasFolded hand player → who ≢ Some player.name
    → AreApart (cards_at hand.start (hole_places hand.start player.seat))
    (cards_told table (lines_after who before event)))
folded-told who before event behind table = λ left is player has other card his told.
    let state = state_after (run first_state before) event in
    let lines = lines_after who before event in
    by_hand left is player has other card his (hand_in state table) refl
    (All-contains (Contains (cards_shown_at who state table)) (cards_told table lines) card
    (told-shown who (run first_state before) event table) told)
  where
    valid : IsValidState (state_after (run first_state before) event)
    valid = valid_state_after (run first_state before) event (valid_events before)

    by_hand : (left : HandTerms)
        → hand_left (state_after (run first_state before) event) table behind ≡ Some left
        → (player : StartSeat) → HasFolded left player → who ≢ Some player.name → (card : Card)
        → Contains (cards_at left.start (hole_places left.start player.seat)) card
        → (found : Option HandTerms) → hand_in (state_after (run first_state before) event) table ≡ found
        → Contains (option_map_or (cards_shown who) found []) card → ⊥
    by_hand left is player has other card his None now shown = let none = shown.1 in omega (arith, none)
    by_hand left is player has other card his (Some hand) now shown =
        let state = state_after (run first_state before) event in
        let lawful = left-lawful behind state table valid left is in
        let start = left-start behind state table hand left valid now is in
        let place = made-from (card_at hand.start) (places_shown who hand) card shown in
        let hole = made-from (card_at left.start) (hole_places left.start player.seat) card his in
        let later = left-shown who behind state table place.from hand left valid now is place.has in
        let found = dealt-found left player lawful has in
        let cards = ap (λ (start : HandStart). card_at start place.from) start ∙ (place.is ∙ sym hole.is) in
        let same = same-place left.start.deck place.from hole.from two_of_clubs lawful.deck
        (shown-below who left place.from lawful later)
        (hole-below left.start player.seat hole.from lawful
        (found-dealt left.start player.seat player lawful found)
        (hole-his left.start player.seat hole.from hole.has)) cards in
        folded-hidden who left player lawful has other hole.from hole.has
        (subst (λ (place : ℕ). Contains (places_shown who left) place) same later)
