-- The parts of what is told, the floor's and each table's, and whether all hands of a table were opened there. This
-- project's own.
use Rattle.std.specs.Prelude.{◌≡◌, ℕ, Bool, true, false, ◌==◌, List, [], ◌∷◌, ◌++◌, filter, map}
use Rattle.table_engine.specs.declared.start.HandStart.{HandStart}
use Rattle.view_rules.specs.declared.entries.JournalEntry.{JournalEntry}
use Rattle.view_rules.specs.declared.entries.TableEntry.{TableEntry}
use Rattle.view_rules.specs.Spelling.{ViewLine, Floor, Table}
use Rattle.dock_rules.specs.Journals.{tale_of}
use Rattle.dock_rules.specs.Whole.{begun_at, hands_of, hands_played}

-- whether a line is one of the floor
abbrev pub is_of_floor : ViewLine → Bool
is_of_floor (Floor line) = true
is_of_floor (Table at line) = false

-- The part of the floor in lines, in their order.
abbrev pub part_of_floor : List ViewLine → List ViewLine
part_of_floor lines = filter is_of_floor lines

-- whether a line is one of a table
abbrev pub is_of_table : ℕ → ViewLine → Bool
is_of_table table (Floor line) = false
is_of_table table (Table at line) = at == table

-- The part of a table in lines, in their order.
abbrev pub part_of_table : ℕ → List ViewLine → List ViewLine
part_of_table table lines = filter (is_of_table table) lines

-- the starts of the hands that were played at a table, in order
abbrev pub starts_played : List TableEntry → List HandStart
starts_played history = map (λ hand. hand.start) (hands_played (hands_of history))

-- Each hand that began at a table by a journal was opened there.
abbrev pub AreAllOpened : ℕ → List JournalEntry → List TableEntry → Type 0
AreAllOpened table journal history = begun_at table (tale_of journal) ≡ starts_played history

-- Each was opened there but the last, which has this start.
abbrev pub IsLastToOpen : ℕ → List JournalEntry → List TableEntry → HandStart → Type 0
IsLastToOpen table journal history last = begun_at table (tale_of journal) ≡ starts_played history ++ last ∷ []
