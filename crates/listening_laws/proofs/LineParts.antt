-- Which of the lines that are told are a table's, and which are the floor's.
use Rattle.std.proofs.Common.{◌≡◌, ◌∙◌, refl, sym, ap, ℕ, Bool, true, false, cond, List, [], ◌∷◌, ◌++◌, map, append-nil}
use Rattle.std.specs.Prelude.{◌==◌, Option, Some, None, if◌then◌else◌}
use Rattle.std.specs.Option.{option_map_or}
use Rattle.std.proofs.lemmas.List.{map-append}
use Rattle.table_engine.specs.Hands.{HandTerms}
use Rattle.tournament_events.specs.declared.event.Event.{Event}
use Rattle.tournament_rules.specs.States.{State, answer_to, is_accepted, state_after}
use Rattle.view_rules.specs.declared.entries.TableEntry.{TableEntry}
use Rattle.view_rules.specs.declared.entries.TableEntry.TheVariants.{Opened, Acted, Closed}
use Rattle.view_rules.specs.Entries.{TableTold, begun, entry_lines, told_after, with_act}
use Rattle.view_rules.specs.Lines.{act_lines, floor_lines, lines_of_event, opening_lines, serial_told, stacks_told, table_lines}
use Rattle.view_rules.specs.Seen.{SeenState, seen_by, seen_event, seen_hand}
use Rattle.view_rules.specs.Shown.{Viewer}
use Rattle.view_rules.specs.Spelling.{FloorLine, TableLine, ViewLine, Floor, Table}
use Rattle.view_rules.specs.Views.{told_of}
use Rattle.dock_rules.specs.Tables.{entries_lines}
use Rattle.listening_laws.specs.Parts.{part_of_floor, part_of_table}
use Rattle.listening_laws.proofs.Tellings.{lines_at, told-accepted}

-- All lines of a table are its part.
kept-made : (table at : ℕ) (lines : List TableLine) → (at == table) ≡ true
    → part_of_table table (map (Table at) lines) ≡ map (Table at) lines
kept-made table at [] here = refl
kept-made table at (line ∷ lines) here =
    let rest = kept-made table at lines here in λ i. cond (here i) (Table at line ∷ rest i) (rest i)

-- None of another table's is.
none-made : (table at : ℕ) (lines : List TableLine) → (at == table) ≡ false
    → part_of_table table (map (Table at) lines) ≡ []
none-made table at [] apart = refl
none-made table at (line ∷ lines) apart =
    let rest = none-made table at lines apart in λ i. cond (apart i) (Table at line ∷ rest i) (rest i)

-- No line of the floor is.
none-floor : (table : ℕ) (lines : List FloorLine) (more : List ViewLine) → more ≡ []
    → part_of_table table (map Floor lines ++ more) ≡ []
none-floor table [] more none = ap (part_of_table table) none
none-floor table (line ∷ lines) more none = none-floor table lines more none

-- The lines of an entry are lines of its table.
made-entry : (told : TableTold) (entry : TableEntry)
    → (lines : List TableLine) × (entry_lines told entry ≡ map (Table told.table) lines)
unfolding entry_lines
made-entry told (Opened start) = (opening_lines (seen_hand told.who (begun start)), refl)
made-entry told (Acted caller act) = by_hand told.hand
  where
    by_hand : (hand : Option HandTerms) → (lines : List TableLine)
        × (option_map_or (λ hand. map (Table told.table)
        (act_lines (seen_hand told.who hand) act (seen_hand told.who (with_act act hand)))) hand []
        ≡ map (Table told.table) lines)
    by_hand None = ([], refl)
    by_hand (Some hand) = (act_lines (seen_hand told.who hand) act (seen_hand told.who (with_act act hand)), refl)
made-entry told Closed = ([], refl)

-- So are those of entries.
made-entries : (told : TableTold) (entries : List TableEntry)
    → (lines : List TableLine) × (entries_lines told entries ≡ map (Table told.table) lines)
made-entries told [] = ([], refl)
made-entries told (entry ∷ entries) =
    let first = made-entry told entry in
    let rest = made-entries (told_after told entry) entries in (
      first.0 ++ rest.0,
      (λ i. first.1 i ++ rest.1 i) ∙ sym (map-append (Table told.table) first.0 rest.0),
    )

-- The lines of entries of a table are its part.
pub part-own : (table : ℕ) (told : TableTold) (entries : List TableEntry) → (told.table == table) ≡ true
    → part_of_table table (entries_lines told entries) ≡ entries_lines told entries
part-own table told entries here =
    let made = made-entries told entries in
    ap (part_of_table table) made.1 ∙ (kept-made table told.table made.0 here ∙ sym made.1)

-- Those of another table have no part in it.
pub part-other : (table : ℕ) (told : TableTold) (entries : List TableEntry) → (told.table == table) ≡ false
    → part_of_table table (entries_lines told entries) ≡ []
part-other table told entries apart =
    let made = made-entries told entries in
    ap (part_of_table table) made.1 ∙ none-made table told.table made.0 apart

-- Nor has an event of which the tables tell nothing.
pub part-none : (who : Viewer) (state : State) (event : Event) (table : ℕ)
    → ((before after : SeenState) → table_lines before (seen_event event) after ≡ [])
    → part_of_table table (told_of lines_of_event who state event ++ []) ≡ []
unfolding lines_of_event
part-none who state event table none = by_answer (is_accepted (answer_to state event))
  where
    by_answer : (taken : Bool) → part_of_table table ((if taken then lines_at who state event else []) ++ []) ≡ []
    by_answer true =
        let before : SeenState = seen_by who state in
        let after : SeenState = seen_by who (state_after state event) in
        let told : Event = seen_event event in
        ap (part_of_table table) (append-nil (lines_at who state event))
        ∙ none-floor table (floor_lines told (serial_told told after) (stacks_told before told after))
        (table_lines before told after) (none before after)
    by_answer false = refl

-- The floor's part of its lines and others behind.
floor-kept : (lines : List FloorLine) (more : List ViewLine)
    → part_of_floor (map Floor lines ++ more) ≡ map Floor lines ++ part_of_floor more
floor-kept [] more = refl
floor-kept (line ∷ lines) more = ap (λ (kept : List ViewLine). Floor line ∷ kept) (floor-kept lines more)

none-table : (at : ℕ) (lines : List TableLine) → part_of_floor (map (Table at) lines) ≡ []
none-table at [] = refl
none-table at (line ∷ lines) = none-table at lines

-- No line of entries of a table is the floor's.
pub floor-none : (told : TableTold) (entries : List TableEntry) → part_of_floor (entries_lines told entries) ≡ []
floor-none told entries =
    let made = made-entries told entries in ap part_of_floor made.1 ∙ none-table told.table made.0

-- the lines of the floor of an event, as all see it, that leads from one state to another
abbrev pub floor_between : Viewer → State → Event → State → List ViewLine
floor_between who before event after =
    map Floor (floor_lines event (serial_told event (seen_by who after))
    (stacks_told (seen_by who before) event (seen_by who after)))

-- The floor's part of an event that is accepted, and of which the tables tell nothing.
pub floor-event : (who : Viewer) (state : State) (event : Event) → is_accepted (answer_to state event) ≡ true
    → ((before after : SeenState) → table_lines before (seen_event event) after ≡ [])
    → part_of_floor (told_of lines_of_event who state event ++ [])
    ≡ floor_between who state (seen_event event) (state_after state event)
unfolding lines_of_event
floor-event who state event taken none =
    let before : SeenState = seen_by who state in
    let after : SeenState = seen_by who (state_after state event) in
    let told : Event = seen_event event in
    let lines : List FloorLine = floor_lines told (serial_told told after) (stacks_told before told after) in
    ap part_of_floor (append-nil (told_of lines_of_event who state event) ∙ told-accepted who state event taken)
    ∙ (floor-kept lines (table_lines before told after)
    ∙ (ap (λ (more : List ViewLine). map Floor lines ++ part_of_floor more) (none before after)
    ∙ append-nil (map Floor lines)))
