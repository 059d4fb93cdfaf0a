-- How the lines of a player are spelled. This project's own.
use Rattle.std.specs.Prelude.{ℕ, List, [], ◌∷◌, ◌++◌, codes}
use Rattle.std.specs.Fmt.{decimal}
use Rattle.std.specs.List.{flat_map}
use Rattle.card_set.specs.declared.card.Card.{Card}
use Rattle.card_set.specs.Cards.{cards_text}
use Rattle.button_blinds.specs.declared.marks.Marks.{Marks}
use Rattle.betting_round.specs.declared.act.Done.{Done}
use Rattle.betting_round.specs.declared.act.Done.TheVariants.{Folded, Checked, Called, BetTo, RaisedTo}
use Rattle.table_engine.specs.declared.start.StartSeat.{StartSeat}
use Rattle.line_words.specs.Words.{line_of_words}
use Rattle.tournament_events.specs.declared.event.Event.{Event}
use Rattle.replay_rules.specs.Replay.{event_line}
use Rattle.view_rules.specs.declared.entries.StackLine.{StackLine}
use Rattle.view_rules.specs.Shown.{BoardStreet, Flop, Turn, River}
use Rattle.view_rules.specs.Seen.{OpenStreet, Tabled, Won}

-- What a line of the floor tells.
pub data FloorLine : Type 0 where
  -- an event, as it was given
  EventLine : Event → FloorLine
  -- a hand has begun at a table, with this number
  BeginLine : ℕ → ℕ → FloorLine
  -- the hand at a table is settled
  SettleLine : ℕ → FloorLine
  -- the chip race at a table is made
  RaceLine : ℕ → FloorLine
  -- a player's stack
  StackIs : StackLine → FloorLine

-- What a line of a table tells.
pub data TableLine : Type 0 where
  -- a hand has begun, with this number and these marks
  HandLine : ℕ → Marks → TableLine
  -- a player is dealt in
  SeatLine : StartSeat → TableLine
  -- a player of this name has posted a blind of so many chips
  PostLine : List ℕ → ℕ → TableLine
  -- a player of this name has posted an ante of so many chips
  AnteLine : List ℕ → ℕ → TableLine
  -- these are the hole cards of whoever is told
  HoleLine : List Card → TableLine
  -- a player of this name has acted, and this is what the act came to
  ActLine : List ℕ → Done → TableLine
  -- a street is open
  StreetLine : OpenStreet → TableLine
  -- a player's hole cards are tabled
  ShowLine : Tabled → TableLine
  -- a player gets chips
  WinLine : Won → TableLine

-- A line: one of the floor, or one of a table.
pub data ViewLine : Type 0 where
  Floor : FloorLine → ViewLine
  Table : ℕ → TableLine → ViewLine

-- how a line of the floor goes on behind `# `
abbrev pub floor_text : FloorLine → List ℕ
floor_text (EventLine event) = event_line event
floor_text (BeginLine table serial) = line_of_words (codes "begin" ∷ decimal table ∷ decimal serial ∷ [])
floor_text (SettleLine table) = line_of_words (codes "settle" ∷ decimal table ∷ [])
floor_text (RaceLine table) = line_of_words (codes "race" ∷ decimal table ∷ [])
floor_text (StackIs line) =
    line_of_words
    (codes "stack" ∷ decimal line.place.table ∷ decimal line.place.seat ∷ line.name ∷ decimal line.stack ∷ [])

-- the words of what an act came to
abbrev pub done_words : Done → List (List ℕ)
done_words Folded = codes "fold" ∷ []
done_words Checked = codes "check" ∷ []
done_words (Called chips) = codes "call" ∷ decimal chips ∷ []
done_words (BetTo level) = codes "bet" ∷ decimal level ∷ []
done_words (RaisedTo level) = codes "raise" ∷ decimal level ∷ []

-- the word of a street
abbrev pub street_word : BoardStreet → List ℕ
street_word Flop = codes "flop"
street_word Turn = codes "turn"
street_word River = codes "river"

-- the words of a line of a table
abbrev pub table_words : TableLine → List (List ℕ)
table_words (HandLine serial marks) =
    codes "hand" ∷ decimal serial ∷ decimal marks.button ∷ decimal marks.small ∷ decimal marks.big ∷ []
table_words (SeatLine player) = codes "seat" ∷ decimal player.seat ∷ player.name ∷ decimal player.stack ∷ []
table_words (PostLine name chips) = codes "post" ∷ name ∷ decimal chips ∷ []
table_words (AnteLine name chips) = codes "ante" ∷ name ∷ decimal chips ∷ []
table_words (HoleLine cards) = codes "hole" ∷ cards_text cards ∷ []
table_words (ActLine name done) = name ∷ done_words done
table_words (StreetLine open_) = street_word open_.street ∷ cards_text open_.cards ∷ []
table_words (ShowLine tabled) = codes "show" ∷ tabled.name ∷ cards_text tabled.cards ∷ []
table_words (WinLine won) = codes "win" ∷ won.name ∷ decimal won.chips ∷ []

-- A line's text: lines of the floor begin with `# `, and those of a table with its number and `: `.
unfoldable pub line_text : ViewLine → List ℕ
line_text (Floor line) = codes "# " ++ floor_text line
line_text (Table table line) = decimal table ++ (codes ": " ++ line_of_words (table_words line))

-- the text of lines, one after another
abbrev pub lines_text : List ViewLine → List ℕ
lines_text lines = flat_map line_text lines
