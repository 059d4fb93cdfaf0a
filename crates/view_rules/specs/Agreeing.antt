-- When two lists of events agree on all that a player may see. This project's own.
use Rattle.std.specs.Prelude.{◌≡◌, ℕ, true, false, List, [], ◌∷◌, slice_index_or, ◌⊎◌, Option, is_some, if◌then◌else◌}
use Rattle.std.specs.List.{AllByRecursion}
use Rattle.std.specs.Option.{option_map_or}
use Rattle.card_set.specs.declared.card.Card.{Card}
use Rattle.card_set.specs.declared.card.CardRow.{CardRow}
use Rattle.card_set.specs.Decks.{repeats_a_card}
use Rattle.table_engine.specs.Deals.{two_of_clubs}
use Rattle.table_engine.specs.Hands.{HandTerms}
use Rattle.tournament_events.specs.declared.event.Event.{Event}
use Rattle.tournament_events.specs.declared.event.Event.TheVariants as events
use Rattle.tournament_rules.specs.States.{State, first_state, answer_to, is_accepted, state_after}
use Rattle.view_rules.specs.Shown.{Viewer, places_shown}
use Rattle.view_rules.specs.Seen.{hand_in}

-- The hand that is played at a table as a list of events leaves it: before the event that ends it, or at the list's
-- end.
abbrev pub hand_left : State → ℕ → List Event → Option HandTerms
hand_left state table [] = hand_in state table
hand_left state table (event ∷ events) =
    if is_some (hand_in (state_after state event) table) then hand_left (state_after state event) table events
    else hand_in state table

-- The places that are shown to a player, in a list of events, of the hand that is played at a table.
abbrev pub places_shown_in : Viewer → State → ℕ → List Event → List ℕ
places_shown_in who state table events = option_map_or (places_shown who) (hand_left state table events) []

-- Two lists of cards have the same cards at these places.
abbrev pub HaveSameAt : List ℕ → List Card → List Card → Type 0
HaveSameAt places one other =
    AllByRecursion (λ place. slice_index_or one place two_of_clubs ≡ slice_index_or other place two_of_clubs) places

-- A `begin` that is accepted, and a `begin` at the same table with another deck, which has the same cards at the places
-- that the list of events behind it comes to show to a player.
pub record IsOtherDeal (who : Viewer) (state : State) (events_behind : List Event) (event entry : Event) : Type 0 where
  pub table : ℕ
  pub row : CardRow
  pub other : CardRow
  pub is : event ≡ events.Begin table row
  pub in_its_place : entry ≡ events.Begin table other
  pub accepted : is_accepted (answer_to state event) ≡ true
  pub deck : repeats_a_card other.cards ≡ false
  pub shown : HaveSameAt (places_shown_in who (state_after state event) table events_behind) row.cards other.cards

-- Two lists agree for a player from a state of the first on: they are equal event by event, but that an accepted
-- `begin` may have another deck with the same cards at all places that the first list shows to him of it.
abbrev pub AgreeFrom : Viewer → State → List Event → List Event → Type 0
AgreeFrom who state [] [] = Unit {0}
AgreeFrom who state [] (entry ∷ entries) = ⊥
AgreeFrom who state (event ∷ events) [] = ⊥
AgreeFrom who state (event ∷ events) (entry ∷ entries) =
    ((event ≡ entry) ⊎ IsOtherDeal who state events event entry)
    × AgreeFrom who (state_after state event) events entries

-- Two lists agree for a player, or for nobody.
abbrev pub AgreeFor : Viewer → List Event → List Event → Type 0
AgreeFor who events entries = AgreeFrom who first_state events entries
