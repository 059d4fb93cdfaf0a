-- What an entry of the journal is in the whole tells at the floor: the lines of the entry.
use Rattle.std.proofs.Common.{◌≡◌, ◌∙◌, refl, sym, ap, ℕ, ◌+◌, Bool, true, inl, inr, List, [], ◌∷◌, ◌++◌, map, fold, append-nil}
use Rattle.std.specs.Prelude.{Option, Some, None, option_map, if◌then◌else◌}
use Rattle.std.specs.List.{flat_map}
use Rattle.std.specs.Option.{option_map_or}
use Rattle.std.proofs.lemmas.Bool.{and_parts}
use Rattle.std.proofs.lemmas.Grind.{flat_map-append}
use Rattle.card_set.specs.declared.card.CardRow.{CardRow}
use Rattle.seat_book.specs.Players.{players_at}
use Rattle.seat_book.specs.declared.seated.Seated.{Seated}
use Rattle.table_engine.specs.declared.record.ActOf.{ActOf}
use Rattle.table_engine.specs.Hands.{HandTerms, is_over}
use Rattle.table_engine.specs.Results.{players_after}
use Rattle.tournament_events.specs.declared.event.Event.{Event}
use Rattle.tournament_events.specs.declared.event.Event.TheVariants as events
use Rattle.tournament_rules.specs.Dealing.{next_start}
use Rattle.tournament_rules.specs.Effects.{raced}
use Rattle.tournament_rules.specs.States.{State, PlayState, answer_to, is_accepted, state_after}
use Rattle.tournament_rules.specs.Valid.{IsValidState}
use Rattle.view_rules.specs.declared.entries.JournalEntry.{JournalEntry}
use Rattle.view_rules.specs.declared.entries.StackLine.{StackLine}
use Rattle.view_rules.specs.declared.entries.TableEntry.TheVariants.{Opened}
use Rattle.view_rules.specs.Entries.{journal_lines}
use Rattle.view_rules.specs.Lines.{floor_lines, lines_of_event, stack_after, stack_at_rest}
use Rattle.view_rules.specs.Seen.{hand_in, seen_hand, undealt_play}
use Rattle.view_rules.specs.Shown.{Viewer}
use Rattle.view_rules.specs.Spelling.{BeginLine, Floor, ViewLine}
use Rattle.view_rules.specs.Views.{told_from}
use Rattle.dock_rules.specs.Journals.{Tale, acts_kept, are_accepted, book_of, entry_again, events_of, may_come, next_row, seeded, serial_of, stacks_of, told_one, with_draws}
use Rattle.dock_rules.specs.Whole.{TableHands, whole_events}
use Rattle.dock_rules.proofs.Coming.{accepted-in_play}
use Rattle.whole_laws.proofs.EntriesTaken.{never-played}
use Rattle.whole_laws.proofs.Fits.{DoFit}
use Rattle.whole_laws.proofs.Planning.{by_plan}
use Rattle.whole_laws.proofs.WholeOf.{ArePlaying}
use Rattle.listening_laws.specs.Parts.{part_of_floor}
use Rattle.session_desk.specs.Telling.{first_teller}
use Rattle.listening_laws.proofs.HandLines.{act_entries}
use Rattle.listening_laws.proofs.LineParts.{floor-event, floor-none, floor_between}
use Rattle.listening_laws.proofs.InWhole.{acts_behind, free-in_play, settled-in, told-begin, whole-book}
use Rattle.listening_laws.proofs.UnderWay.{IsUnderWay, next-may, next-told, next-whole}

-- the lines of an event at the floor, with the number and the stacks that are told of it at a journal
abbrev lines_told : Tale → Event → List ActOf → List ViewLine
lines_told tale event acts =
    map Floor (floor_lines event (serial_of tale (with_draws tale event))
    (stacks_of tale (with_draws tale event) (acts_kept event acts)))

-- The stacks that are told of a settle are those of its hand, which is over.
settle-stacks : (who : Viewer) (table : ℕ) (found : Option HandTerms) (hand : HandTerms) → found ≡ Some hand
    → is_over hand ≡ true
    → option_map_or (λ seen. map (stack_after table) seen.after) (option_map (seen_hand who) found) []
    ≡ map (stack_after table) (players_after hand)
unfolding seen_hand
settle-stacks who table found hand is over =
    ap (λ (found : Option HandTerms).
    option_map_or (λ seen. map (stack_after table) seen.after) (option_map (seen_hand who) found) []) is
    ∙ ap (λ (over : Bool). map (stack_after table) (if over then players_after hand else [])) over

module _ (tables : ℕ → TableHands) (who : Viewer) (tale : Tale) (state : State) (entry : JournalEntry) where
  -- What an event is in the whole tells at the floor the lines that the journal tells of it.
  abbrev AreToldAlike : Event → List ActOf → Type 0
  AreToldAlike event acts =
      part_of_floor (told_from lines_of_event who state (whole_events tables tale event))
      ≡ lines_told (seeded tale entry) event acts

  -- It is so before the plan is whole.
  floor-planning : tale.state.play ≡ None → are_accepted tale.state (events_of entry) ≡ true
      → are_accepted state (whole_events tables tale entry.event) ≡ true → AreToldAlike entry.event entry.acts
  unfolding floor_lines
  floor-planning none accepted taken = by_plan tale.state
      (λ event acts. are_accepted state (whole_events tables tale event) ≡ true → AreToldAlike event acts) none
      (λ line acts taken. floor-event who state (events.Plan line) (and_parts _ _ taken).0 (λ before after. refl))
      (λ acts ends taken. floor-event who state events.Go (and_parts _ _ taken).0 (λ before after. refl))
      entry.event entry.acts accepted taken

  -- The stacks after a race that is made are those by the journal's book.
  floor-race : (table : ℕ) (row : CardRow) (acts : List ActOf) → ArePlaying tables tale state
      → is_accepted (answer_to state (events.Race table row)) ≡ true → next_row (seeded tale entry) ≡ row
      → floor_between who state (events.Race table row) (state_after state (events.Race table row))
      ≡ lines_told (seeded tale entry) (events.Race table row) acts
  floor-race table row acts playing taken drawn =
      let event : Event = events.Race table row in
      let lines : List Seated → List ViewLine =
      λ players. map Floor (floor_lines event 0 (map stack_at_rest (players_at players table))) in
      let free = free-in_play state playing.whole event playing.whole_is taken in
      let accept = accepted-in_play state playing.whole event playing.whole_is free in
      let books = whole-book tables tale state playing in
      ap (λ (found : Option PlayState). lines (option_map_or (λ (play : PlayState). play.book.seating.players)
      (option_map undealt_play found) [])) accept.play_is
      ∙ (λ i. lines (raced (books i) table (sym drawn i).cards).seating.players)

  -- It is so once the plan is whole.
  floor-playing : (rest : List JournalEntry)
      → ((number : ℕ) → DoFit number (tables number) (fold told_one tale (entry ∷ rest)))
      → IsValidState state → may_come (seeded tale entry) entry ≡ true → ArePlaying tables tale state
      → are_accepted state (whole_events tables tale entry.event) ≡ true
      → with_draws (seeded tale entry) entry.event ≡ entry.event → AreToldAlike entry.event entry.acts
  unfolding floor_lines
  floor-playing rest fit valid may playing accepted drawn = by_event entry.event fit may accepted drawn
    where
      -- the entry with this event
      entry_of : Event → JournalEntry
      entry_of event = record entry { event = event }

      by_event : (event : Event)
          → ((number : ℕ) → DoFit number (tables number) (fold told_one tale (entry_of event ∷ rest)))
          → may_come (seeded tale (entry_of event)) (entry_of event) ≡ true
          → are_accepted state (whole_events tables tale event) ≡ true
          → with_draws (seeded tale entry) event ≡ event → AreToldAlike event entry.acts
      by_event (events.Act there name act) fits may accepted drawn =
          absurd (never-played tale (entry_of (events.Act there name act)) refl may)
      by_event (events.Time there) fits may accepted drawn =
          absurd (never-played tale (entry_of (events.Time there)) refl may)
      by_event (events.Begin there row) fits may accepted drawn =
          ap part_of_floor (told-begin tables tale state valid playing who entry rest there row (fits there) accepted)
          ∙ ap (λ (lines : List ViewLine). Floor (BeginLine there ((book_of tale).begun + 1)) ∷ lines)
          (floor-none (first_teller who there)
          (Opened (next_start (book_of tale) there row.cards) ∷ act_entries (acts_behind tables tale there)))
      by_event (events.Settle there) fits may accepted drawn =
          let taken = (and_parts (is_accepted (answer_to state (events.Settle there))) _ accepted).0 in
          let settled = settled-in tables tale state valid playing entry rest there (fits there) taken in
          let lines : List StackLine → List ViewLine =
          λ stacks. map Floor (floor_lines (events.Settle there) 0 stacks) in
          floor-event who state (events.Settle there) taken (λ before after. refl)
          ∙ (ap lines (settle-stacks who there (hand_in state there) settled.0 settled.1.now settled.1.over)
          ∙ ap (λ (found : Option HandTerms).
          lines (option_map_or (λ hand. map (stack_after there) (players_after hand)) found [])) (sym settled.1.out))
      by_event (events.Race there row) fits may accepted drawn =
          let taken = (and_parts (is_accepted (answer_to state (events.Race there row))) _ accepted).0 in
          floor-event who state (events.Race there row) taken (λ before after. refl)
          ∙ floor-race there row entry.acts playing taken (cc)
      by_event event fits may accepted drawn =
          floor-event who state event (and_parts (is_accepted (answer_to state event)) _ accepted).0
          (λ before after. refl)

-- the lines of the floor by a journal so far, as it is made again
abbrev pub lines_again : Tale → List ViewLine
lines_again tale = flat_map journal_lines tale.again

-- An entry is told in the whole at the floor by its lines.
pub floor-entry : (tables : ℕ → TableHands) (who : Viewer) (tale : Tale) (state : State) (entry : JournalEntry)
    (entries : List JournalEntry) → IsUnderWay tables tale state (entry ∷ entries)
    → lines_again tale ++ part_of_floor (told_from lines_of_event who state (whole_events tables tale entry.event))
    ≡ lines_again (told_one tale entry)
unfolding journal_lines
floor-entry tables who tale state entry entries way =
    let told : Tale = seeded tale entry in
    let again : JournalEntry = entry_again told entry in
    let may = next-may tables tale state entry entries way in
    let accepted = (next-whole tables tale state entry entries way).accepted in
    let drawn = ap (λ (entry : JournalEntry). entry.event) (next-told tables tale state entry entries way) in
    let alike : part_of_floor (told_from lines_of_event who state (whole_events tables tale entry.event))
    ≡ lines_told told entry.event entry.acts = elim way.beside [
      | inl planning ↦ floor-planning tables who tale state entry planning.none (and_parts _ _ may).0 accepted
      | inr playing ↦ floor-playing tables who tale state entry entries way.fit way.whole_valid may playing accepted
          drawn
    ] in
    ap (λ (lines : List ViewLine). lines_again tale ++ lines)
    (alike ∙ (λ i. map Floor (floor_lines (sym drawn i) again.serial again.stacks)))
    ∙ (ap (λ (lines : List ViewLine). lines_again tale ++ lines) (sym (append-nil (journal_lines again)))
    ∙ sym (flat_map-append journal_lines tale.again (again ∷ [])))
