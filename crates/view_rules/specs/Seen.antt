-- What a player sees of a tournament: all of it but the decks, and the cards that are shown to him. This project's own.
use Rattle.std.specs.Prelude.{ℕ, nat_lt, List, [], map, filter, replicate, refl, Option, option_map, option_and_then, if◌then◌else◌}
use Rattle.card_set.specs.declared.card.Card.{Card}
use Rattle.card_set.specs.declared.card.CardRow.{CardRow}
use Rattle.table_engine.specs.declared.start.HandStart.{HandStart}
use Rattle.table_engine.specs.declared.start.StartSeat.{StartSeat}
use Rattle.table_engine.specs.Deals.{card_at, two_of_clubs}
use Rattle.table_engine.specs.Hands.{HandTerms, is_over}
use Rattle.table_engine.specs.Results.{award, players_after}
use Rattle.tournament_events.specs.declared.event.Event.{Event}
use Rattle.tournament_events.specs.declared.event.Event.TheVariants as events
use Rattle.tournament_rules.specs.Books.{BookState}
use Rattle.tournament_rules.specs.States.{State, PlayState, hand_at}
use Rattle.view_rules.specs.Shown.{Viewer, BoardStreet, hole_places, own_places, street_places, open_streets, players_clockwise, tabled_players}

-- the start of a hand without its deck
abbrev pub without_deck : HandStart → HandStart
without_deck start = record start { deck = [] }

-- a hand without its deck
abbrev pub undealt : HandTerms → HandTerms
undealt hand = record { start = without_deck hand.start; acts = hand.acts }

-- a book without the decks of the hands that are played
abbrev pub undealt_book : BookState → BookState
undealt_book book = record book { started = map (option_map without_deck) book.started }

-- a tournament without the decks of the hands that are played
abbrev pub undealt_play : PlayState → PlayState
undealt_play play = record { book = undealt_book play.book; acts = play.acts }

-- a state without the decks of the hands that are played
abbrev pub undealt_state : State → State
undealt_state state = record state { play = option_map undealt_play state.play }

-- the cards of a hand at places of its deck
abbrev pub cards_at : HandStart → List ℕ → List Card
cards_at start places = map (card_at start) places

-- A street that is open, with its cards.
pub record OpenStreet : Type 0 where
  pub street : BoardStreet
  pub cards : List Card

-- Hole cards that are tabled, with the name of the player whose they are.
pub record Tabled : Type 0 where
  pub name : List ℕ
  pub cards : List Card

-- What a player gets at the end of a hand, in chips.
pub record Won : Type 0 where
  pub name : List ℕ
  pub chips : ℕ

-- an open street of a hand
abbrev pub opened : HandStart → BoardStreet → OpenStreet
opened start street = record { street = street; cards = cards_at start (street_places start street) }

-- the hole cards of a player that are tabled
abbrev pub tabled : HandStart → StartSeat → Tabled
tabled start player = record { name = player.name; cards = cards_at start (hole_places start player.seat) }

-- what a player gets of a hand that is over
abbrev pub won_by : HandTerms → StartSeat → Won
won_by hand player = record { name = player.name; chips = award hand player }

-- the players who get something once a hand is over, clockwise from the seat after the button
unfoldable pub winners_of : HandTerms → List Won
winners_of hand =
    if is_over hand
    then filter (λ won. nat_lt 0 won.chips) (map (won_by hand) (players_clockwise hand.start)) else []

-- What a player sees of a hand.
pub record SeenHand : Type 0 where
  -- the hand without its deck
  pub hand : HandTerms
  -- his own hole cards, in the order dealt, where he is dealt in
  pub own : List Card
  -- the streets that are open, in the order of play
  pub streets : List OpenStreet
  -- the hole cards that are tabled, clockwise from the seat after the button
  pub tabled : List Tabled
  -- what each player who gets something gets, once the hand is over, in the same order
  pub won : List Won
  -- its players with their stacks after it, once it is over, in rising seat
  pub after : List StartSeat

unfoldable pub seen_hand : Viewer → HandTerms → SeenHand
seen_hand who hand = record {
  hand = undealt hand;
  own = cards_at hand.start (own_places who hand.start);
  streets = map (opened hand.start) (open_streets hand);
  tabled = map (tabled hand.start) (tabled_players hand);
  won = winners_of hand;
  after = if is_over hand then players_after hand else [];
}

-- What a player sees of a state.
pub record SeenState : Type 0 where
  -- the state without the decks
  pub state : State
  -- by table number, what he sees of the hand that is played
  pub hands : ℕ → Option SeenHand

-- the hand that is played at a table of a state, if one is
abbrev pub hand_in : State → ℕ → Option HandTerms
hand_in state table = option_and_then (λ play. hand_at play table) state.play

abbrev pub seen_by : Viewer → State → SeenState
seen_by who state =
    record { state = undealt_state state; hands = λ table. option_map (seen_hand who) (hand_in state table) }

-- a row of which nothing is seen
abbrev pub unseen_row : CardRow
unseen_row = record { cards = replicate 52 two_of_clubs; whole = refl }

-- an event as all see it: of a begin not the row
abbrev pub seen_event : Event → Event
seen_event (events.Begin table row) = events.Begin table unseen_row
seen_event event = event
