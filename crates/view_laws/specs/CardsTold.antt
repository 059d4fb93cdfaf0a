-- Which cards lines tell. This project's own.
use Rattle.std.specs.Prelude.{ℕ, ◌==◌, Bool, true, List, [], filter}
use Rattle.std.specs.List.{flat_map}
use Rattle.std.specs.Option.{option_map_or}
use Rattle.card_set.specs.declared.card.Card.{Card}
use Rattle.tournament_events.specs.declared.event.Event.{Event}
use Rattle.tournament_events.specs.declared.event.Event.TheVariants.{Begin, Race}
use Rattle.table_engine.specs.Hands.{HandTerms}
use Rattle.tournament_rules.specs.States.{State, first_state, run}
use Rattle.view_rules.specs.Shown.{Viewer, places_shown}
use Rattle.view_rules.specs.Seen.{cards_at, hand_in}
use Rattle.view_rules.specs.Lines.{lines_of_event}
use Rattle.view_rules.specs.Views.{told_of}
use Rattle.view_rules.specs.Spelling.{EventLine, HoleLine, StreetLine, ShowLine, ViewLine, Floor, Table}

-- The cards that a line tells: those of a row, the own hole cards, those of a street, or a hand that is tabled.
abbrev pub cards_of_line : ViewLine → List Card
cards_of_line (Floor (EventLine (Begin table row))) = row.cards
cards_of_line (Floor (EventLine (Race table row))) = row.cards
cards_of_line (Table table (HoleLine cards)) = cards
cards_of_line (Table table (StreetLine open_)) = open_.cards
cards_of_line (Table table (ShowLine tabled)) = tabled.cards
cards_of_line _ = []

-- A line may tell of a table where it is one of that table or of the floor.
abbrev pub may_tell_of : ℕ → ViewLine → Bool
may_tell_of table (Floor line) = true
may_tell_of table (Table at line) = at == table

-- The cards that lines tell of a table.
abbrev pub cards_told : ℕ → List ViewLine → List Card
cards_told table lines = flat_map cards_of_line (filter (may_tell_of table) lines)

-- The cards that are shown to a player of a hand.
abbrev pub cards_shown : Viewer → HandTerms → List Card
cards_shown who hand = cards_at hand.start (places_shown who hand)

-- The cards that are shown to a player of the hand that is played at a table, if one is.
abbrev pub cards_shown_at : Viewer → State → ℕ → List Card
cards_shown_at who state table = option_map_or (cards_shown who) (hand_in state table) []

-- The lines that a player is told of an event that comes after others.
abbrev pub lines_after : Viewer → List Event → Event → List ViewLine
lines_after who before event = told_of lines_of_event who (run first_state before) event
