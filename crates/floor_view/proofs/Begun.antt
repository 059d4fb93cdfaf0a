-- What tells that a hand has begun, and what tells of an event as it was given.
use Rattle.std.proofs.Common.{◌≡◌, ◌∙◌, refl, sym, ap, ℕ, true, List, [], ◌++◌, map}
use Rattle.std.specs.Prelude.{Option, Some, None, option_map}
use Rattle.std.specs.Option.{option_map_or}
use Rattle.std.proofs.lemmas.Grind.{flat_map-append}
use Rattle.card_set.specs.declared.card.CardRow.{CardRow}
use Rattle.table_engine.specs.declared.start.HandStart.{HandStart}
use Rattle.table_engine.specs.Hands.{HandTerms}
use Rattle.tournament_events.specs.declared.event.Event.{Event}
use Rattle.tournament_events.specs.declared.event.Event.TheVariants as events
use Rattle.tournament_rules.specs.States.{State}
use Rattle.view_rules.specs.Shown.{Viewer}
use Rattle.view_rules.specs.Seen.{hand_in, seen_hand}
use Rattle.view_rules.specs.Spelling.{ViewLine, Floor, Table, line_text, lines_text}
use Rattle.view_rules.specs.Lines.{floor_lines, opening_lines, lines_of_event}
use Rattle.player_view.specs.Each.{table_text}
use Rattle.player_view.proofs.Texts.{written-both}
use Rattle.floor_view.specs.Kinds.{IsBeginAt, is_told_after}
use Rattle.floor_view.specs.Told.{text_between}

-- the lines of a begin, after which this hand is played, if one is
abbrev begin_lines : Viewer → ℕ → CardRow → Option HandTerms → List ViewLine
begin_lines who table row hand =
    map Floor (floor_lines (events.Begin table row)
    (option_map_or (λ seen. seen.hand.start.serial) (option_map (seen_hand who) hand) 0) [])
    ++ map (Table table) (option_map_or opening_lines (option_map (seen_hand who) hand) [])

-- They are the lines of the begin.
begin-lines : (who : Viewer) (before after : State) (table : ℕ) (row : CardRow)
    → lines_text (begin_lines who table row (hand_in after table))
    ≡ text_between who before (events.Begin table row) after
unfolding text_between lines_of_event floor_lines
begin-lines who before after table row = refl

-- The text where a hand is played after it.
text-begun : (who : Viewer) (before after : State) (table : ℕ) (row : CardRow) (hand : HandTerms)
    → hand_in after table ≡ Some hand
    → lines_text (map Floor (floor_lines (events.Begin table row) hand.start.serial []))
    ++ table_text table (opening_lines (seen_hand who hand)) ≡ text_between who before (events.Begin table row) after
unfolding seen_hand
text-begun who before after table row hand is =
    sym (flat_map-append line_text (map Floor (floor_lines (events.Begin table row) hand.start.serial []))
    (map (Table table) (opening_lines (seen_hand who hand))))
    ∙ (ap (λ (hand : Option HandTerms). lines_text (begin_lines who table row hand)) (sym is)
    ∙ begin-lines who before after table row)

-- The text where none is.
text-nothing : (who : Viewer) (before after : State) (table : ℕ) (row : CardRow) → hand_in after table ≡ None
    → lines_text (map Floor (floor_lines (events.Begin table row) 0 []))
    ≡ text_between who before (events.Begin table row) after
unfolding floor_lines
text-nothing who before after table row is =
    ap (λ (hand : Option HandTerms). lines_text (begin_lines who table row hand)) (sym is)
    ∙ begin-lines who before after table row

-- What was written of a begin, where a hand is played after it, is what tells of it.
pub written-begun : (who : Viewer) (before after : State) (table : ℕ) (event : Event) (hand : HandTerms)
    (old front new : List ℕ)
    → IsBeginAt event table → hand_in after table ≡ Some hand
    → front ≡ old ++ lines_text (map Floor (floor_lines event hand.start.serial []))
    → new ≡ front ++ table_text table (opening_lines (seen_hand who hand))
    → new ≡ old ++ text_between who before event after
written-begun who before after table event hand old front new begin is first then =
    written-both old _ front _ new first then
    ∙ ap (λ (text : List ℕ). old ++ text)
    ((λ i. lines_text (map Floor (floor_lines (begin.1 i) hand.start.serial []))
    ++ table_text table (opening_lines (seen_hand who hand)))
    ∙ (text-begun who before after table begin.0 hand is
    ∙ ap (λ (event : Event). text_between who before event after) (sym begin.1)))

-- So is what was written of a begin where none is.
pub written-nothing : (who : Viewer) (before after : State) (table : ℕ) (event : Event) (old new : List ℕ)
    → IsBeginAt event table → hand_in after table ≡ None
    → new ≡ old ++ lines_text (map Floor (floor_lines event 0 []))
    → new ≡ old ++ text_between who before event after
written-nothing who before after table event old new begin is written =
    written
    ∙ ap (λ (text : List ℕ). old ++ text)
    (ap (λ (event : Event). lines_text (map Floor (floor_lines event 0 []))) begin.1
    ∙ (text-nothing who before after table begin.0 is
    ∙ ap (λ (event : Event). text_between who before event after) (sym begin.1)))

-- The text of an event that is told as it was given.
pub text-given : (who : Viewer) (before after : State) (event : Event) → is_told_after event ≡ true
    → ((table : ℕ) (row : CardRow) → event ≡ events.Begin table row → ⊥)
    → ((table : ℕ) (row : CardRow) → event ≡ events.Race table row → ⊥)
    → lines_text (map Floor (floor_lines event 0 [])) ≡ text_between who before event after
unfolding text_between lines_of_event floor_lines
text-given who before after (events.Begin table row) told begin race = absurd (begin table row refl)
text-given who before after (events.Act table name act) told begin race = absurd cc
text-given who before after (events.Time table) told begin race = absurd cc
text-given who before after (events.Settle table) told begin race = absurd cc
text-given who before after (events.Race table row) told begin race = absurd (race table row refl)
text-given who before after event told begin race = refl

-- The same, as it is written from the start of the hand.
pub written-opened : (who : Viewer) (before after : State) (table : ℕ) (event : Event) (hand : HandTerms)
    (start : HandStart) (old front new : List ℕ)
    → IsBeginAt event table → hand_in after table ≡ Some hand → hand.start.table ≡ table → start ≡ hand.start
    → front ≡ old ++ lines_text (map Floor (floor_lines event start.serial []))
    → new ≡ front ++ table_text start.table (opening_lines (seen_hand who hand))
    → new ≡ old ++ text_between who before event after
written-opened who before after table event hand start old front new begin is here same first then =
    written-begun who before after table event hand old front new begin is
    (first ∙ ap (λ (start : HandStart). old ++ lines_text (map Floor (floor_lines event start.serial []))) same)
    (then ∙ (ap (λ (start : HandStart). front ++ table_text start.table (opening_lines (seen_hand who hand))) same
    ∙ ap (λ (number : ℕ). front ++ table_text number (opening_lines (seen_hand who hand))) here))
