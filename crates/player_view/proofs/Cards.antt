-- The cards that a line of a hand shows.
use Rattle.std.proofs.Common.{◌≡◌, ℕ, List, [], ◌∷◌, map, refl, ap, sym, inl, inr}
use Rattle.std.specs.Prelude.{◌⊎◌}
use Rattle.deal_order.specs.DealOrder.{places_of_player}
use Rattle.card_set.specs.declared.card.Card.{Card}
use Rattle.card_set.specs.declared.game.Game.{Game}
use Rattle.card_set.specs.declared.game.Game.TheVariants.{Holdem, Omaha, Hilo}
use Rattle.table_engine.specs.declared.start.HandStart.{HandStart}
use Rattle.table_engine.specs.Deals.{board_card, card_at, dealt_seats, hole_card, hole_count}
use Rattle.view_rules.specs.Shown.{Flop, Turn, River, hole_places, street_places}
use Rattle.view_rules.specs.Seen.{cards_at}
use Rattle.view_rules.specs.Spelling.{HoleLine}
use Rattle.view_rules.specs.Lines.{hole_lines}

-- The hole cards of a seat, where each player is dealt as many as in this game.
abbrev holes_in : HandStart → ℕ → Game → List Card
holes_in start seat game =
    map (card_at start)
    (places_of_player (dealt_seats start) start.marks.button start.seat_count (hole_count game) seat)

holes-are : (start : HandStart) (seat : ℕ) → holes_in start seat start.game ≡ cards_at start (hole_places start seat)
unfolding hole_places
holes-are start seat = refl

-- In hold'em a player has two hole cards.
pub hole-two : (start : HandStart) (seat : ℕ) → start.game ≡ Holdem
    → hole_card start seat 0 ∷ hole_card start seat 1 ∷ [] ≡ cards_at start (hole_places start seat)
unfolding hole_places
hole-two start seat is = ap (holes_in start seat) (sym is)

-- In the other games he has four.
pub hole-four : (start : HandStart) (seat : ℕ) → (start.game ≡ Omaha) ⊎ (start.game ≡ Hilo)
    → hole_card start seat 0 ∷ hole_card start seat 1 ∷ hole_card start seat 2 ∷ hole_card start seat 3 ∷ []
    ≡ cards_at start (hole_places start seat)
unfolding hole_places
hole-four start seat (inl omaha) = ap (holes_in start seat) (sym omaha)
hole-four start seat (inr hilo) = ap (holes_in start seat) (sym hilo)

-- A player who is dealt in has hole cards, so there is a line of them.
pub hole-line : (start : HandStart) (seat : ℕ)
    → HoleLine (cards_at start (hole_places start seat)) ∷ [] ≡ hole_lines (cards_at start (hole_places start seat))
unfolding hole_places
hole-line start seat = by_game start.game
  where
    by_game : (game : Game) → HoleLine (holes_in start seat game) ∷ [] ≡ hole_lines (holes_in start seat game)
    by_game Holdem = refl
    by_game Omaha = refl
    by_game Hilo = refl

-- The cards of the flop.
pub flop-cards : (start : HandStart)
    → board_card start 0 ∷ board_card start 1 ∷ board_card start 2 ∷ [] ≡ cards_at start (street_places start Flop)
unfolding street_places
flop-cards start = refl

-- The card of the turn.
pub turn-cards : (start : HandStart) → board_card start 3 ∷ [] ≡ cards_at start (street_places start Turn)
unfolding street_places
turn-cards start = refl

-- The card of the river.
pub river-cards : (start : HandStart) → board_card start 4 ∷ [] ≡ cards_at start (street_places start River)
unfolding street_places
river-cards start = refl
