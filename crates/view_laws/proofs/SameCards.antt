-- Where another deck has the same cards at the places that a hand shows to a player, it comes to the same with that.
use Rattle.std.proofs.Common.{◌≡◌, ◌∙◌, refl, sym, ap, subst, ℕ, ◌+◌, ◌-◌, Bool, true, false, cond, List, [], ◌∷◌, ◌++◌, map}
use Rattle.std.specs.Prelude.{◌&&◌, ◌==◌, nat_lt, not, filter, slice_index_or, is_none, Option, Some, None}
use Rattle.std.specs.List.{flat_map, AllByRecursion}
use Rattle.std.proofs.lemmas.Bool.{and_from}
use Rattle.rulebook.specs.Seats.{walk}
use Rattle.card_set.specs.declared.card.Card.{Card}
use Rattle.card_set.specs.declared.game.Game.{Game}
use Rattle.card_set.specs.declared.game.Game.TheVariants.{Holdem, Omaha, Hilo}
use Rattle.betting_round.specs.declared.street.Street.{Street}
use Rattle.betting_round.specs.WhoIsDue.{due_seat, is_one_live}
use Rattle.deal_order.specs.DealOrder.{count_up, hole_card_place}
use Rattle.table_engine.specs.declared.start.HandStart.{HandStart}
use Rattle.table_engine.specs.declared.start.StartSeat.{StartSeat}
use Rattle.table_engine.specs.Deals.{two_of_clubs, dealt_seats, hole_card, hole_count, board_of, listed, tabled as at_showdown}
use Rattle.table_engine.specs.Hands.{HandTerms, Streets, street_now, street_of, streets_of, player_of, players_by_seat, is_live, is_over}
use Rattle.table_engine.specs.Results.{award, is_won_by_folds, live_on, live_in_hand, pot, showdown_awards, stack_after_hand}
use Rattle.table_engine.proofs.NoCards.{with_deck, redealt, streets-deck, live-deck, ShowAlike, awards-deck}
use Rattle.view_rules.specs.Shown.{Viewer, BoardStreet, Flop, Turn, River, due_streets, is_shown_down, open_streets, players_clockwise, tabled_players, own_places, hole_places, street_places, places_shown}
use Rattle.view_rules.specs.Agreeing.{HaveSameAt}
use Rattle.view_laws.proofs.Members.{first_part, second_part, made_hold, given_hold, kept_hold, both_kinds, found_holds}
use Rattle.view_laws.proofs.Betting.{over-deck, won-deck, pot-deck, behind-deck}

-- Another deck has the same card at a place.
abbrev pub IsSameAt : HandStart → List Card → ℕ → Type 0
IsSameAt start deck place = slice_index_or start.deck place two_of_clubs ≡ slice_index_or deck place two_of_clubs

-- The streets that are open, by the streets that were played.
abbrev open_by : Streets → List BoardStreet
open_by streets =
    cond (is_none (due_seat (street_now streets)) && not (is_one_live (street_now streets).players))
    (Flop ∷ Turn ∷ River ∷ [])
    (due_streets (streets.last ∷ streets.before))

-- The same streets are open with another deck.
pub open-deck : (hand : HandTerms) (deck : List Card) → open_streets (redealt hand deck) ≡ open_streets hand
unfolding open_streets
open-deck hand deck = ap open_by (streets-deck hand deck)

-- The hand is shown down with another deck where it is.
down-deck : (hand : HandTerms) (deck : List Card) → is_shown_down (redealt hand deck) ≡ is_shown_down hand
down-deck hand deck = λ i. over-deck hand deck i && not (won-deck hand deck i)

-- The same players' hands are tabled with another deck.
pub tabled-deck : (hand : HandTerms) (deck : List Card) → tabled_players (redealt hand deck) ≡ tabled_players hand
unfolding tabled_players
tabled-deck hand deck =
    λ i. cond (down-deck hand deck i)
    (filter (λ player. live-deck hand deck player i) (players_clockwise hand.start)) []

-- A player's hole cards have the same places.
pub hole_places-deck : (start : HandStart) (deck : List Card) (seat : ℕ)
    → hole_places (with_deck start deck) seat ≡ hole_places start seat
unfolding hole_places dealt_seats
hole_places-deck start deck seat = refl

-- So do the own cards of who is told.
pub own_places-deck : (who : Viewer) (start : HandStart) (deck : List Card)
    → own_places who (with_deck start deck) ≡ own_places who start
unfolding hole_places dealt_seats
own_places-deck who start deck = refl

-- So do the cards of a street.
pub street_places-deck : (start : HandStart) (deck : List Card) (street : BoardStreet)
    → street_places (with_deck start deck) street ≡ street_places start street
unfolding street_places dealt_seats
street_places-deck start deck street = refl

-- The same board.
board-alike : (start : HandStart) (deck : List Card)
    → HaveSameAt (flat_map (street_places start) (Flop ∷ Turn ∷ River ∷ [])) start.deck deck
    → board_of start ≡ board_of (with_deck start deck)
unfolding street_places board_of dealt_seats
board-alike start deck same =
    λ i. same.0 i ∷ same.1.0 i ∷ same.1.1.0 i ∷ same.1.1.1.0 i ∷ same.1.1.1.1.0 i ∷ []

-- What holds of each of a player's hole cards holds of the four that a showdown lists.
four_listed : (Holds : ℕ → Type 0) (game : Game) → AllByRecursion Holds (count_up 0 (hole_count game))
    → Holds (listed game 0) × Holds (listed game 1) × Holds (listed game 2) × Holds (listed game 3)
four_listed Holds Holdem all = (all.0, all.1.0, all.0, all.1.0)
four_listed Holds Omaha all = (all.0, all.1.0, all.1.1.0, all.1.1.1.0)
four_listed Holds Hilo all = (all.0, all.1.0, all.1.1.0, all.1.1.1.0)

-- The same hole cards of a player.
holes-alike : (start : HandStart) (deck : List Card) (seat : ℕ) → HaveSameAt (hole_places start seat) start.deck deck
    → at_showdown start seat ≡ at_showdown (with_deck start deck) seat
unfolding hole_places at_showdown dealt_seats
holes-alike start deck seat same =
    let each = made_hold (IsSameAt start deck)
    (hole_card_place (dealt_seats start) start.marks.button start.seat_count seat)
    (count_up 0 (hole_count start.game)) same in
    let four = four_listed
    (λ card. hole_card start seat card ≡ hole_card (with_deck start deck) seat card) start.game each in
    λ i. record { seat = seat; hole = four.0 i ∷ four.1 i ∷ four.2 i ∷ four.3 i ∷ []; four = refl }

-- Of each live player of a hand the other deck has the same hole cards.
abbrev AreLiveSame : HandTerms → List Card → List StartSeat → Type 0
AreLiveSame hand deck players =
    AllByRecursion (λ player. is_live hand player ≡ true
    → HaveSameAt (hole_places hand.start player.seat) hand.start.deck deck) players

-- The same live players with the same hole cards.
lives-alike : (hand : HandTerms) (deck : List Card) (seats : List ℕ) → AreLiveSame hand deck hand.start.seats
    → map (live_on hand.start (street_of hand)) (map (player_of hand.start) seats)
    ≡ map (live_on (with_deck hand.start deck) (street_of hand)) (map (player_of hand.start) seats)
lives-alike hand deck [] same = refl
lives-alike hand deck (seat ∷ seats) same =
    let first = by_slot (player_of hand.start seat) refl in
    let rest = lives-alike hand deck seats same in
    λ i. first i ∷ rest i
  where
    by_live : (player : StartSeat) (live : Bool) → is_live hand player ≡ live
        → (is_live hand player ≡ true → HaveSameAt (hole_places hand.start player.seat) hand.start.deck deck)
        → cond live (Some (at_showdown hand.start player.seat)) None
        ≡ cond live (Some (at_showdown (with_deck hand.start deck) player.seat)) None
    by_live player true is holes = ap Some (holes-alike hand.start deck player.seat (holes is))
    by_live player false is holes = refl

    by_slot : (slot : Option StartSeat) → player_of hand.start seat ≡ slot
        → live_on hand.start (street_of hand) slot ≡ live_on (with_deck hand.start deck) (street_of hand) slot
    by_slot None is = refl
    by_slot (Some player) is =
        by_live player (is_live hand player) refl
        (found_holds (λ player. is_live hand player ≡ true → HaveSameAt (hole_places hand.start player.seat)
        hand.start.deck deck) (λ player. player.seat == seat) hand.start.seats player is same)

-- A hand that is shown down shows the own cards, the whole board and the hands of all who are live.
places-down : (who : Viewer) (hand : HandTerms) → is_shown_down hand ≡ true
    → places_shown who hand
    ≡ (own_places who hand.start ++ flat_map (street_places hand.start) (Flop ∷ Turn ∷ River ∷ []))
    ++ flat_map (λ player. hole_places hand.start player.seat) (filter (is_live hand) (players_clockwise hand.start))
unfolding open_streets tabled_players
places-down who hand down =
    ap (λ (down : Bool). (own_places who hand.start
    ++ flat_map (street_places hand.start) (cond down (Flop ∷ Turn ∷ River ∷ [])
    (due_streets ((streets_of hand).last ∷ (streets_of hand).before))))
    ++ flat_map (λ player. hole_places hand.start player.seat)
    (cond down (filter (is_live hand) (players_clockwise hand.start)) [])) down

-- What holds of each player clockwise holds of each player.
each-seat : (P : StartSeat → Type 0) (start : HandStart) → AllByRecursion P (players_clockwise start)
    → AllByRecursion P start.seats
each-seat P start all =
    let above = λ (player : StartSeat). nat_lt start.marks.button player.seat in
    let up = filter above start.seats in
    let down = filter (λ (player : StartSeat). not (above player)) start.seats in
    both_kinds P above start.seats (first_part P up down all) (second_part P up down all)

-- Where a hand is shown down the other deck shows the same board and the same hands.
shows-alike : (who : Viewer) (hand : HandTerms) (deck : List Card) → is_shown_down hand ≡ true
    → HaveSameAt (places_shown who hand) hand.start.deck deck → ShowAlike hand deck
unfolding live_in_hand
shows-alike who hand deck down same =
    let P = IsSameAt hand.start deck in
    let own = own_places who hand.start in
    let streets = flat_map (street_places hand.start) (Flop ∷ Turn ∷ River ∷ []) in
    let lives = filter (is_live hand) (players_clockwise hand.start) in
    let holes = flat_map (λ (player : StartSeat). hole_places hand.start player.seat) lives in
    let all : AllByRecursion P ((own ++ streets) ++ holes) =
    subst (AllByRecursion P) (places-down who hand down) same in
    let board = board-alike hand.start deck (second_part P own streets (first_part P (own ++ streets) holes all)) in
    let each = given_hold P (λ (player : StartSeat). hole_places hand.start player.seat) lives
    (second_part P (own ++ streets) holes all) in
    let live = each-seat
    (λ (player : StartSeat). is_live hand player ≡ true → HaveSameAt (hole_places hand.start player.seat)
    hand.start.deck deck) hand.start
    (kept_hold (λ (player : StartSeat). HaveSameAt (hole_places hand.start player.seat) hand.start.deck deck)
    (is_live hand) (players_clockwise hand.start) each) in
    let lives = lives-alike hand deck (walk (λ seat. seat + 1) 10 0) live in
    let street = ap street_now (streets-deck hand deck) in
    let there = ap (λ (street : Street). map (live_on (with_deck hand.start deck) street) (players_by_seat hand.start))
    street in
    record { board = sym board; live = there ∙ sym lives }

-- what a player gets, by what it depends on
abbrev award_by : Bool → Bool → ℕ → List ℕ → ℕ → ℕ
award_by folds live all awards seat = cond folds (cond live all 0) (slice_index_or awards (seat - 1) 0)

-- Where a hand is over each player gets the same with another deck that shows the same cards.
pub award-alike : (who : Viewer) (hand : HandTerms) (deck : List Card) → is_over hand ≡ true
    → HaveSameAt (places_shown who hand) hand.start.deck deck → (player : StartSeat)
    → award (redealt hand deck) player ≡ award hand player
award-alike who hand deck over same player =
    (λ i. award_by (won-deck hand deck i) (live-deck hand deck player i) (pot-deck hand deck i)
    (showdown_awards (redealt hand deck)) player.seat)
    ∙ by_folds (is_won_by_folds hand) refl
  where
    by_folds : (folds : Bool) → is_won_by_folds hand ≡ folds
        → award_by (is_won_by_folds hand) (is_live hand player) (pot hand) (showdown_awards (redealt hand deck))
        player.seat ≡ award_by (is_won_by_folds hand) (is_live hand player) (pot hand) (showdown_awards hand)
        player.seat
    by_folds true is =
        ap (λ (folds : Bool). award_by folds (is_live hand player) (pot hand) (showdown_awards (redealt hand deck))
        player.seat) is
        ∙ sym (ap (λ (folds : Bool). award_by folds (is_live hand player) (pot hand) (showdown_awards hand)
        player.seat) is)
    by_folds false is =
        let down : is_shown_down hand ≡ true = and_from _ _ over (ap not is) in
        ap (λ (awards : List ℕ). award_by (is_won_by_folds hand) (is_live hand player) (pot hand) awards player.seat)
        (awards-deck hand deck (shows-alike who hand deck down same))

-- So each player has the same stack after it.
pub stack-alike : (who : Viewer) (hand : HandTerms) (deck : List Card) → is_over hand ≡ true
    → HaveSameAt (places_shown who hand) hand.start.deck deck → (player : StartSeat)
    → stack_after_hand (redealt hand deck) player ≡ stack_after_hand hand player
stack-alike who hand deck over same player =
    let rest = behind-deck hand deck player in
    let more = award-alike who hand deck over same player in
    λ i. rest i + more i
