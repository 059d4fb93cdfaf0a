-- Rounds of hand-for-hand: each table that may play plays one hand, and then all go on. This project's own, after the
-- Poker TDA Rules, by which all tables play hand for hand near the prizes.
use Rattle.std.specs.Prelude.{ℕ, Bool, false, not, ◌&&◌, ◌||◌, nat_le, if◌then◌else◌, List, [], ◌∷◌, map}
use Rattle.std.specs.List.{list_any}
use Rattle.floor_text.specs.declared.refusal.Refusal.{Refusal}
use Rattle.floor_text.specs.declared.refusal.Refusal.TheVariants.{RoundDone, RoundOpen, SwitchWrong}
use Rattle.seat_book.specs.declared.table_status.TableStatus.{TableStatus}
use Rattle.seat_book.specs.Counts.{count_at, table_numbers}
use Rattle.seat_book.specs.Tables.{status_at}
use Rattle.seat_book.specs.Seatings.{Seating, is_any_playing}
use Rattle.balance_rule.specs.Halting.{is_halted}

-- A table has begun a hand in the round that is open.
abbrev pub has_begun : Seating → ℕ → Bool
has_begun seating table = seating.hands && (status_at seating.tables table).begun

-- The check of a hand that is to begin: the table has begun in this round.
abbrev pub begin_checks : Seating → ℕ → List (Refusal × Bool)
begin_checks seating table = (RoundDone, has_begun seating table) ∷ []

-- A table plays a hand.
abbrev pub is_playing : Seating → ℕ → Bool
is_playing seating table = (status_at seating.tables table).playing

-- A table is still to play in the round: it has two or more players, is not halted, and has not begun.
abbrev pub is_still_to_play : Seating → ℕ → Bool
is_still_to_play seating table =
    nat_le 2 (count_at seating.players table)
    && (not (is_halted seating table) && not (status_at seating.tables table).begun)

-- A table holds the round open: it plays, or is still to play.
abbrev pub holds_open : Seating → ℕ → Bool
holds_open seating table = is_playing seating table || is_still_to_play seating table

-- The round is not finished: some table holds it open.
abbrev pub is_unfinished : Seating → Bool
is_unfinished seating = list_any (holds_open seating) (table_numbers seating.table_count)

-- The checks of the end of a round.
abbrev pub round_checks : Seating → List (Refusal × Bool)
round_checks seating =
    (RoundOpen, seating.hands && is_unfinished seating) ∷ (SwitchWrong, not seating.hands) ∷ []

-- The checks of a switch to on.
abbrev pub on_checks : Seating → List (Refusal × Bool)
on_checks seating = (SwitchWrong, seating.hands) ∷ []

-- The checks of a switch to off.
abbrev pub off_checks : Seating → List (Refusal × Bool)
off_checks seating =
    (RoundOpen, seating.hands && is_any_playing seating) ∷ (SwitchWrong, not seating.hands) ∷ []

-- The checks of a switch.
abbrev pub switch_checks : Bool → Seating → List (Refusal × Bool)
switch_checks on seating = if on then on_checks seating else off_checks seating

-- How a table stands that has begun in the round where it passes a test.
abbrev pub begun_by : (TableStatus → Bool) → TableStatus → TableStatus
begun_by test status = record status { begun = test status }

-- The seating where just the tables that pass a test have begun in the round.
abbrev pub with_begun : (TableStatus → Bool) → Seating → Seating
with_begun test seating = record seating { tables = map (begun_by test) seating.tables }

-- A playing table has begun at a switch to on, and none at a switch to off.
abbrev pub begins_with : Bool → TableStatus → Bool
begins_with on status = if on then status.playing else false

-- The end of a round empties it: no table has begun.
abbrev pub round_closed : Seating → Seating
round_closed seating = with_begun (begins_with false) seating

-- A switch to on makes the playing tables those that have begun in the round. A switch to off empties the round.
abbrev pub switched : Bool → Seating → Seating
switched on seating = record (with_begun (begins_with on) seating) { hands = on }
