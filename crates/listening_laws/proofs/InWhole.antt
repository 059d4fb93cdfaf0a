-- What a begin and a settle of the journal are in the whole.
use Rattle.std.proofs.Common.{◌≡◌, ◌∙◌, refl, sym, ap, ℕ, ◌+◌, true, List, ◌∷◌, drop, fold, length}
use Rattle.std.specs.Prelude.{Option, Some, None, option_map, option_and_then}
use Rattle.std.proofs.lemmas.Bool.{and_parts, eq-eqb}
use Rattle.card_set.specs.declared.card.CardRow.{CardRow}
use Rattle.table_engine.specs.declared.start.HandStart.{HandStart}
use Rattle.table_engine.specs.declared.record.ActOf.{ActOf}
use Rattle.table_engine.specs.Hands.{HandTerms, is_over}
use Rattle.tournament_events.specs.declared.event.Event.{Event}
use Rattle.tournament_events.specs.declared.event.Event.TheVariants as events
use Rattle.tournament_rules.specs.Apart.{hand_refusal}
use Rattle.tournament_rules.specs.Books.{BookState, start_at}
use Rattle.tournament_rules.specs.Dealing.{next_start}
use Rattle.tournament_rules.specs.States.{State, PlayState, acts_at, answer_to, hand_at, is_accepted, refusal_of}
use Rattle.tournament_rules.specs.Valid.{IsValidState}
use Rattle.tournament_rules.proofs.Passed.{end_passed, passed-parts}
use Rattle.tournament_rules.proofs.Steps.{accepted_none}
use Rattle.view_rules.specs.declared.entries.JournalEntry.{JournalEntry}
use Rattle.view_rules.specs.Lines.{lines_of_event}
use Rattle.view_rules.specs.Seen.{hand_in}
use Rattle.view_rules.specs.Shown.{Viewer}
use Rattle.view_rules.specs.Spelling.{BeginLine, Floor}
use Rattle.view_rules.specs.Views.{told_from}
use Rattle.dock_rules.specs.Journals.{Tale, are_accepted, book_of, hand_out, seeded, told_one}
use Rattle.dock_rules.specs.Whole.{TableHands, begun_at, first_acts, hands_played, whole_events}
use Rattle.dock_rules.proofs.Coming.{answer-in_play}
use Rattle.whole_laws.proofs.EntriesTaken.{book-told}
use Rattle.whole_laws.proofs.Fits.{DoFit, begins-lawfully, settles-next}
use Rattle.whole_laws.proofs.Starts.{settled-at}
use Rattle.whole_laws.proofs.Told.{settled-one}
use Rattle.whole_laws.proofs.WholeOf.{ArePlaying}
use Rattle.listening_laws.proofs.HandLines.{hand_lines}
use Rattle.listening_laws.proofs.Tellings.{told-hand}

-- An event that is accepted once the plan is whole is not refused.
pub free-in_play : (state : State) (play : PlayState) (event : Event) → state.play ≡ Some play
    → is_accepted (answer_to state event) ≡ true → refusal_of play event ≡ None
free-in_play state play event is taken =
    accepted_none (refusal_of play event) (sym (ap is_accepted (answer-in_play state play event is)) ∙ taken)

-- the acts that the whole has behind the next begin at a table
abbrev pub acts_behind : (ℕ → TableHands) → Tale → ℕ → List ActOf
acts_behind tables tale table = first_acts (drop (length (begun_at table tale)) (hands_played (tables table)))

-- The whole has the journal's book.
pub whole-book : (tables : ℕ → TableHands) (tale : Tale) (state : State) (playing : ArePlaying tables tale state)
    → playing.whole.book ≡ book_of tale
whole-book tables tale state playing = playing.beside.book ∙ sym (book-told tale playing.told playing.told_is)

module _ (tables : ℕ → TableHands) (tale : Tale) (state : State) (valid : IsValidState state)
    (playing : ArePlaying tables tale state) where
  -- A begin is told in the whole as the floor's line and the lines of its hand.
  pub told-begin : (who : Viewer) (entry : JournalEntry) (rest : List JournalEntry) (table : ℕ) (row : CardRow)
      → DoFit table (tables table) (fold told_one tale (record entry { event = events.Begin table row } ∷ rest))
      → are_accepted state (whole_events tables tale (events.Begin table row)) ≡ true
      → told_from lines_of_event who state (whole_events tables tale (events.Begin table row))
      ≡ Floor (BeginLine table ((book_of tale).begun + 1)) ∷ hand_lines who table (record {
        start = next_start (book_of tale) table row.cards;
        acts = acts_behind tables tale table;
      })
  told-begin who entry rest table row fit accepted =
      let event : Event = events.Begin table row in
      let start : HandStart = next_start (book_of tale) table row.cards in
      let begin : JournalEntry = record entry { event = event } in
      told-hand who state playing.whole table row start (acts_behind tables tale table) valid playing.whole_is
      (free-in_play state playing.whole event playing.whole_is
      (and_parts (is_accepted (answer_to state event)) _ accepted).0)
      (ap (λ (book : BookState). next_start book table row.cards) (whole-book tables tale state playing))
      (begins-lawfully table (tables table) tale begin rest (record { by = entry.caller; start = start }) fit refl
      (eq-eqb table table refl))

  -- A settle is one of this hand in the whole, and by the journal, and the hand is over.
  pub record IsSettledIn (table : ℕ) (entry : JournalEntry) (hand : HandTerms) : Type 0 where
    pub now : hand_in state table ≡ Some hand
    pub out : hand_out (seeded tale entry) table entry.acts ≡ Some hand
    pub over : is_over hand ≡ true

  -- Each settle that is accepted in the whole is so.
  pub settled-in : (entry : JournalEntry) (rest : List JournalEntry) (table : ℕ)
      → DoFit table (tables table) (fold told_one tale (record entry { event = events.Settle table } ∷ rest))
      → is_accepted (answer_to state (events.Settle table)) ≡ true
      → (hand : HandTerms) × IsSettledIn table entry hand
  settled-in entry rest table fit taken =
      let event : Event = events.Settle table in
      let whole : PlayState = playing.whole in
      let told : PlayState = playing.told in
      let settle : JournalEntry = record entry { event = event } in
      let free = free-in_play state whole event playing.whole_is taken in
      let found = settled-at whole table (valid.play whole playing.whole_is) free in
      let start : HandStart = found.0 in
      let at = found.1 in
      let hand : HandTerms = record { start = start; acts = entry.acts } in
      let books = playing.beside.book in
      let goes = ap (λ (book : BookState). book.stopped) (sym books) ∙ at.going in
      let out_told : start_at told.book.started table ≡ Some start =
      ap (λ (book : BookState). start_at book.started table) (sym books) ∙ at.before in
      let out : start_at (book_of tale).started table ≡ Some start =
      ap (λ (book : BookState). start_at book.started table) (sym (whole-book tables tale state playing)) ∙ at.before in
      let next = settles-next table (tables table) tale settle rest (record { by = entry.caller; hand = hand }) fit
      (settled-one (seeded tale settle) entry.caller table entry.acts start out) (eq-eqb start.table table at.here) in
      let acts : acts_at whole.acts table ≡ entry.acts =
      playing.beside.plays goes table start out_told ∙ next.acts in
      let there : hand_at whole table ≡ Some hand =
      λ i. option_map (λ (start : HandStart). record { start = start; acts = acts i }) (at.before i) in (
        hand,
        record {
          now = ap (λ (found : Option PlayState). option_and_then (λ play. hand_at play table) found) playing.whole_is
              ∙ there;
          out = ap (λ (found : Option HandStart).
              option_map (λ (start : HandStart). record { start = start; acts = entry.acts }) found) out;
          over = end_passed hand
              (sym (ap (λ (found : Option HandTerms). option_and_then (hand_refusal event) found) there)
              ∙ (passed-parts whole event free).1);
        },
      )
