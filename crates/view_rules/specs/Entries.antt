-- What the floor and a table are told of, entry by entry. This project's own.
use Rattle.std.specs.Prelude.{◌≡◌, ℕ, true, List, [], ◌∷◌, ◌++◌, map, Option, Some, None}
use Rattle.std.specs.Option.{option_map, option_map_or}
use Rattle.table_engine.specs.declared.start.HandStart.{HandStart}
use Rattle.table_engine.specs.declared.record.ActOf.{ActOf}
use Rattle.table_engine.specs.Hands.{HandTerms}
use Rattle.table_engine.specs.Starts.{IsLawfulStart}
use Rattle.table_engine.specs.Acts.{refusal_of_act, time_act}
use Rattle.view_rules.specs.declared.entries.JournalEntry.{JournalEntry}
use Rattle.view_rules.specs.declared.entries.TableEntry.{TableEntry}
use Rattle.view_rules.specs.declared.entries.TableEntry.TheVariants.{Opened, Acted, Closed}
use Rattle.view_rules.specs.Shown.{Viewer}
use Rattle.view_rules.specs.Seen.{seen_hand}
use Rattle.view_rules.specs.Spelling.{ViewLine, Floor, Table}
use Rattle.view_rules.specs.Lines.{floor_lines, opening_lines, act_lines}

-- The lines of an entry of the floor.
unfoldable pub journal_lines : JournalEntry → List ViewLine
journal_lines entry = map Floor (floor_lines entry.event entry.serial entry.stacks)

-- Who tells of a table, to whom, with the hand that is played there as far as it was told.
pub record TableTold : Type 0 where
  pub table : ℕ
  pub who : Viewer
  pub hand : Option HandTerms

-- a hand before any act
abbrev pub begun : HandStart → HandTerms
begun start = record { start = start; acts = [] }

-- a hand after one more act
abbrev pub with_act : ActOf → HandTerms → HandTerms
with_act act hand = record hand { acts = hand.acts ++ act ∷ [] }

-- the hand after an entry
abbrev pub hand_told : Option HandTerms → TableEntry → Option HandTerms
hand_told hand (Opened start) = Some (begun start)
hand_told hand (Acted caller act) = option_map (with_act act) hand
hand_told hand Closed = None

-- who tells, after an entry
abbrev pub told_after : TableTold → TableEntry → TableTold
told_after told entry = record told { hand = hand_told told.hand entry }

-- The lines of an entry of a table.
unfoldable pub entry_lines : TableTold → TableEntry → List ViewLine
entry_lines told (Opened start) = map (Table told.table) (opening_lines (seen_hand told.who (begun start)))
entry_lines told (Acted caller act) =
    option_map_or
    (λ hand. map (Table told.table)
    (act_lines (seen_hand told.who hand) act (seen_hand told.who (with_act act hand))))
    told.hand []
entry_lines told Closed = []

-- An act is lawful in the hand that is played: nothing refuses it there, and one by a called time is the one that a
-- called time makes.
pub record IsLawfulAct (hand : HandTerms) (act : ActOf) : Type 0 where
  pub free : refusal_of_act hand act.name act.act ≡ None
  pub timed : act.by_time ≡ true → act ≡ time_act hand

-- An entry may come next at a table: a hand begins lawfully where none is played, and an act is lawful and an end comes
-- where one is.
abbrev pub MayCome : Option HandTerms → TableEntry → Type 0
MayCome None (Opened start) = IsLawfulStart start
MayCome (Some hand) (Acted caller act) = IsLawfulAct hand act
MayCome (Some hand) Closed = Unit {0}
MayCome _ _ = ⊥
