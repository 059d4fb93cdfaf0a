-- The stacks of those who sit at a table, and what tells of a chip race.
use Rattle.std.proofs.Common.{◌≡◌, ◌∙◌, refl, sym, ap, ℕ, ◌+◌, ◌<◌, true, List, [], ◌∷◌, ◌++◌, map, length, take, get_or, append-nil, arith}
use Rattle.std.specs.Prelude.{not, Option, Some, None, option_map}
use Rattle.std.specs.Option.{option_map_or}
use Rattle.std.proofs.lemmas.Bool.Decides.{nat_tests}
use Rattle.std.proofs.lemmas.List.{map-append, take_more}
use Rattle.rulebook.proofs.Passing.{filter-none}
use Rattle.rulebook.proofs.Tests.{list_all-follows}
use Rattle.card_set.specs.declared.card.CardRow.{CardRow}
use Rattle.seat_book.specs.declared.seated.Seated.{Seated}
use Rattle.seat_book.specs.Players.{players_at, players_in, sits_at}
use Rattle.seat_book.specs.Seatings.{Seating, IsSeating, empty_seating, sits_within}
use Rattle.tournament_events.specs.declared.event.Event.{Event}
use Rattle.tournament_events.specs.declared.event.Event.TheVariants as events
use Rattle.tournament_rules.specs.States.{State, PlayState, players_of}
use Rattle.view_rules.specs.declared.entries.StackLine.{StackLine}
use Rattle.view_rules.specs.Shown.{Viewer}
use Rattle.view_rules.specs.Seen.{undealt_play, undealt_state}
use Rattle.view_rules.specs.Spelling.{Floor, lines_text}
use Rattle.view_rules.specs.Lines.{floor_lines, lines_of_event, stack_at_rest}
use Rattle.floor_view.specs.Kinds.{IsRaceAt}
use Rattle.floor_view.specs.Told.{text_between}

-- Nobody sits at a table that is not there.
pub nobody-there : (seating : Seating) (table : ℕ) → IsSeating seating
    → ((player : Seated) → sits_within seating.table_count seating.seat_count player ≡ true
    → not (sits_at table player) ≡ true)
    → players_at seating.players table ≡ []
nobody-there seating table lawful away =
    filter-none (sits_at table) seating.players
    (list_all-follows (sits_within seating.table_count seating.seat_count) (λ player. not (sits_at table player))
    seating.players away lawful.within)

-- Nobody is at table 0.
pub none-below : (seating : Seating) (table : ℕ) → IsSeating seating → table ≡ 0
    → players_at seating.players table ≡ []
none-below seating table lawful is =
    nobody-there seating table lawful (λ player within. away seating.table_count seating.seat_count table player is
    within)
  where
    away : (tables seats table : ℕ) (player : Seated) → table ≡ 0 → sits_within tables seats player ≡ true
        → not (sits_at table player) ≡ true
    away tables seats table player is within = grind (arith, nat_tests)

-- Nor at a table above the last.
pub none-above : (seating : Seating) (table : ℕ) → IsSeating seating → seating.table_count < table
    → players_at seating.players table ≡ []
none-above seating table lawful above =
    nobody-there seating table lawful (λ player within. away seating.table_count seating.seat_count table player above
    within)
  where
    away : (tables seats table : ℕ) (player : Seated) → tables < table → sits_within tables seats player ≡ true
        → not (sits_at table player) ≡ true
    away tables seats table player above within = grind (arith, nat_tests)

-- The players of a state are those of its seating, or of one where nobody sits.
pub players-seated : (play : Option PlayState)
    → (option_map_or (λ play. play.book.seating) play (empty_seating 1 2)).players
    ≡ option_map_or (λ play. play.book.seating.players) play []
players-seated None = refl
players-seated (Some play) = refl

-- They sit where decks are not seen too.
players-undealt : (state : State) → players_of (undealt_state state) ≡ players_of state
players-undealt state = by_play state.play
  where
    by_play : (play : Option PlayState)
        → option_map_or (λ play. play.book.seating.players) (option_map undealt_play play) []
        ≡ option_map_or (λ play. play.book.seating.players) play []
    by_play None = refl
    by_play (Some play) = refl

-- the text of a race with these stacks
abbrev race_text : ℕ → CardRow → List StackLine → List ℕ
race_text table row stacks = lines_text (map Floor (floor_lines (events.Race table row) 0 stacks))

-- The text of a race, of whose table the stacks at rest after it are told.
text-raced : (who : Viewer) (before after : State) (table : ℕ) (row : CardRow)
    → race_text table row (map stack_at_rest (players_at (players_of after) table))
    ≡ text_between who before (events.Race table row) after
unfolding text_between lines_of_event
text-raced who before after table row =
    ap (λ (players : List Seated). race_text table row (map stack_at_rest (players_at players table)))
    (sym (players-undealt after))
    ∙ ap lines_text (sym (append-nil (map Floor (floor_lines (events.Race table row) 0
    (map stack_at_rest (players_at (players_of (undealt_state after)) table))))))

-- What was written of a race is what tells of it.
pub written-raced : (who : Viewer) (before after : State) (table : ℕ) (event : Event) (stacks : List StackLine)
    (old new : List ℕ)
    → IsRaceAt event table → stacks ≡ map stack_at_rest (players_at (players_of after) table)
    → new ≡ old ++ lines_text (map Floor (floor_lines event 0 stacks))
    → new ≡ old ++ text_between who before event after
written-raced who before after table event stacks old new race listed written =
    written
    ∙ ap (λ (text : List ℕ). old ++ text)
    ((λ i. lines_text (map Floor (floor_lines (race.1 i) 0 (listed i))))
    ∙ (text-raced who before after table race.0
    ∙ ap (λ (event : Event). text_between who before event after) (sym race.1)))

-- Who sits in slots in a row sits in the first of them or in the others.
players-both : (front back : List (Option Seated)) → players_in (front ++ back) ≡ players_in front ++ players_in back
players-both [] back = refl
players-both (None ∷ front) back = players-both front back
players-both (Some seated ∷ front) back = ap (λ (rest : List Seated). seated ∷ rest) (players-both front back)

-- The stacks of those who sit in one slot more.
pub more-listed : (slots : List (Option Seated)) (index : ℕ) (slot : Option Seated) (before after : List StackLine)
    → index < length slots → slot ≡ get_or slots index slot
    → before ≡ map stack_at_rest (players_in (take index slots))
    → after ≡ before ++ map stack_at_rest (players_in (slot ∷ []))
    → after ≡ map stack_at_rest (players_in (take (index + 1) slots))
more-listed slots index slot before after within is listed more =
    let one : take (index + 1) slots ≡ take index slots ++ (slot ∷ [])
    = take_more slots index slot within ∙ ap (λ (slot : Option Seated). take index slots ++ (slot ∷ [])) (sym is) in
    more
    ∙ (ap (λ (lines : List StackLine). lines ++ map stack_at_rest (players_in (slot ∷ []))) listed
    ∙ (sym (map-append stack_at_rest (players_in (take index slots)) (players_in (slot ∷ [])))
    ∙ (sym (ap (λ (players : List Seated). map stack_at_rest players) (players-both (take index slots) (slot ∷ [])))
    ∙ sym (ap (λ (slots : List (Option Seated)). map stack_at_rest (players_in slots)) one))))

-- An empty slot has no stack.
pub nothing-listed : (slot : Option Seated) (stacks : List StackLine) → slot ≡ None
    → stacks ≡ stacks ++ map stack_at_rest (players_in (slot ∷ []))
nothing-listed slot stacks none =
    sym (append-nil stacks)
    ∙ ap (λ (slot : Option Seated). stacks ++ map stack_at_rest (players_in (slot ∷ []))) (sym none)
