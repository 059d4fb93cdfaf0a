-- One entry of a journal in the whole: its event, and behind a begin the acts of the hand.
use Rattle.std.proofs.Common.{◌≡◌, ◌∙◌, refl, sym, ap, subst, ℕ, inl, inr, true, List, [], ◌∷◌, ◌++◌, map, drop, fold, length, append-nil}
use Rattle.std.specs.Prelude.{◌==◌, Some}
use Rattle.std.proofs.lemmas.Bool.{and_parts, eq-eqb}
use Rattle.std.proofs.lemmas.Option.{same_Some}
use Rattle.card_set.specs.declared.card.CardRow.{CardRow}
use Rattle.table_engine.specs.declared.start.HandStart.{HandStart}
use Rattle.table_engine.specs.declared.record.ActOf.{ActOf}
use Rattle.table_engine.specs.Hands.{HandTerms}
use Rattle.table_engine.specs.Plays.{IsLawfulPlay}
use Rattle.tournament_events.specs.declared.event.Event.{Event}
use Rattle.tournament_events.specs.declared.event.Event.TheVariants as events
use Rattle.tournament_rules.specs.Books.{BookState, start_at}
use Rattle.tournament_rules.specs.Dealing.{next_start}
use Rattle.tournament_rules.specs.States.{State, PlayState, play_effect}
use Rattle.tournament_rules.specs.Valid.{IsValidState}
use Rattle.tournament_rules.proofs.Passed.{go_late, passed-parts, plan_late}
use Rattle.view_rules.specs.declared.entries.JournalEntry.{JournalEntry}
use Rattle.dock_rules.specs.Journals.{Settled, Tale, act_event, book_of, may_come, seeded, told_one}
use Rattle.dock_rules.specs.Whole.{TableHands, first_acts, hands_played, whole_events}
use Rattle.whole_laws.proofs.WholeOf.{ArePlaying, AreBeside, IsWholeOf, acts_due, step-planning}
use Rattle.whole_laws.proofs.Fits.{DoFit, begins-lawfully, settles-next}
use Rattle.whole_laws.proofs.Beside.{GoesOn, IsBeside, begin-beside, order-beside, settle-beside, stop-beside}
use Rattle.whole_laws.proofs.EntriesTaken.{IsTaken, book-told, event-taken, never-played}
use Rattle.whole_laws.proofs.HandActs.{HasActed, acts-walk}
use Rattle.whole_laws.proofs.Told.{settled-one, settled-same}
use Rattle.whole_laws.proofs.Starts.{settled-at}
use Rattle.whole_laws.proofs.Turns.{AreInTurn, as_many, bare-taken}

-- One event once the plan is whole.
step-playing : (tables : ℕ → TableHands) (tale : Tale) (state : State) (entry : JournalEntry)
    (rest : List JournalEntry) → ((table : ℕ) → DoFit table (tables table) (fold told_one tale (entry ∷ rest)))
    → IsValidState tale.state → IsValidState state → AreInTurn tale → may_come (seeded tale entry) entry ≡ true
    → ArePlaying tables tale state
    → IsWholeOf tables (told_one tale entry) state (whole_events tables tale entry.event)
step-playing tables tale state entry rest fit valid valid_too turns may playing =
    by_event entry.event fit may
    (event-taken tale.state entry.event entry.acts told valid playing.told_is (and_parts _ _ may).0)
  where
    told : PlayState
    told = playing.told

    due : ℕ → List ActOf
    due = acts_due tables tale.settled

    book : book_of tale ≡ told.book
    book = book-told tale told playing.told_is

    -- the entry with this event
    entry_of : Event → JournalEntry
    entry_of event = record entry { event = event }

    -- Where no acts come before an event, it is taken as the tournament stands.
    beside-now : (play : PlayState) → tale.state.play ≡ Some play → IsBeside due play playing.whole
    beside-now play is = subst (λ (play : PlayState). IsBeside due play playing.whole)
        (same_Some told play (sym playing.told_is ∙ is)) playing.beside

    whole_of : (event : Event) (taken : IsTaken tale.state event entry.acts told.book)
        → GoesOn (acts_due tables (told_one tale (entry_of event)).settled) (play_effect taken.play event) state
        (whole_events tables tale event)
        → IsWholeOf tables (told_one tale (entry_of event)) state (whole_events tables tale event)
    whole_of event taken on = record {
      accepted = on.accepted;
      beside = inr (record {
        told = play_effect taken.play event;
        whole = on.whole;
        told_is = taken.after;
        whole_is = on.whole_is;
        beside = on.beside;
      });
    }

    -- Of an event that settles none.
    unsettled : (after : PlayState) (made : List Event) → GoesOn due after state made
        → GoesOn (acts_due tables (tale.settled ++ [])) after state made
    unsettled after made = subst (λ (settled : List Settled). GoesOn (acts_due tables settled) after state made)
        (sym (append-nil tale.settled))

    begins : (table : ℕ) (row : CardRow)
        → DoFit table (tables table) (fold told_one tale (entry_of (events.Begin table row) ∷ rest))
        → (taken : IsTaken tale.state (events.Begin table row) entry.acts told.book)
        → GoesOn due (play_effect taken.play (events.Begin table row)) state
        (whole_events tables tale (events.Begin table row))
    begins table row fits taken =
        let hands : List HandTerms = hands_played (tables table) in
        let event : Event = events.Begin table row in
        let many = as_many tale table turns (bare-taken tale told.book table row entry.acts book taken) in
        let start : HandStart = next_start (book_of tale) table row.cards in
        let lawful = begins-lawfully table (tables table) tale (entry_of event) rest
        (record { by = entry.caller; start = start }) fits refl (eq-eqb table table refl) in
        let next : HandStart = next_start taken.play.book table row.cards in
        let lawful_now : IsLawfulPlay (record { start = next; acts = due table }) =
        subst IsLawfulPlay (λ i. record {
          start = next_start ((book ∙ sym taken.same) i) table row.cards;
          acts = first_acts (drop (many i) hands);
        }) lawful in
        subst (λ (count : ℕ). GoesOn due (play_effect taken.play event) state
        (event ∷ map (act_event table) (first_acts (drop count hands)))) (sym many)
        (begin-beside due taken.play playing.whole state table row valid_too playing.whole_is
        (beside-now taken.play taken.play_is) taken.free lawful_now)

    settles : (table : ℕ) → DoFit table (tables table) (fold told_one tale (entry_of (events.Settle table) ∷ rest))
        → (taken : IsTaken tale.state (events.Settle table) entry.acts told.book)
        → GoesOn (acts_due tables (told_one tale (entry_of (events.Settle table))).settled)
        (play_effect taken.play (events.Settle table)) state (events.Settle table ∷ [])
    settles table fits taken =
        let settle : JournalEntry = entry_of (events.Settle table) in
        let found = settled-at taken.play table taken.valid taken.free in
        let at = found.1 in
        let out : start_at told.book.started table ≡ Some found.0 =
        ap (λ (book : BookState). start_at book.started table) (sym taken.same) ∙ at.before in
        let new : Settled = record { by = entry.caller; hand = record { start = found.0; acts = entry.acts } } in
        let brought = settled-one (seeded tale settle) entry.caller table entry.acts found.0
        (ap (λ (book : BookState). start_at book.started table) book ∙ out) in
        let next = settles-next table (tables table) tale settle rest new fits brought
        (eq-eqb found.0.table table at.here) in
        let walk = acts-walk tale.state told table found.0 [] entry.acts entry.acts valid playing.told_is
        (record {
          going = ap (λ (book : BookState). book.stopped) (sym taken.same) ∙ at.going;
          started = out;
          has = playing.beside.rests table;
        }) next.lawful refl in
        let acted : HasActed told taken.play table (due table) =
        subst (λ (acts : List ActOf). HasActed told taken.play table acts) (sym next.acts)
        (subst (λ (play : PlayState). HasActed told play table entry.acts)
        (same_Some walk.play taken.play (sym walk.play_is ∙ taken.play_is)) walk.acted) in
        settle-beside due (acts_due tables (told_one tale settle).settled) told taken.play playing.whole state table
        playing.whole_is playing.beside taken.valid acted taken.free
        (λ other apart. ap (λ (hands : List HandTerms). first_acts (drop (length hands) (hands_played (tables other))))
        (settled-same other tale settle new brought (ap (λ (number : ℕ). number == other) at.here ∙ apart)))

    by_event : (event : Event)
        → ((table : ℕ) → DoFit table (tables table) (fold told_one tale (entry_of event ∷ rest)))
        → may_come (seeded tale (entry_of event)) (entry_of event) ≡ true
        → IsTaken tale.state event entry.acts told.book
        → IsWholeOf tables (told_one tale (entry_of event)) state (whole_events tables tale event)
    by_event (events.Plan line) fits may taken =
        absurd (plan_late taken.play.book line (passed-parts taken.play (events.Plan line) taken.free).0)
    by_event events.Go fits may taken =
        absurd (go_late taken.play.book (passed-parts taken.play events.Go taken.free).0)
    by_event (events.Act table name act) fits may taken =
        absurd (never-played tale (entry_of (events.Act table name act)) refl may)
    by_event (events.Time table) fits may taken = absurd (never-played tale (entry_of (events.Time table)) refl may)
    by_event (events.Begin table row) fits may taken = whole_of (events.Begin table row) taken
        (unsettled (play_effect taken.play (events.Begin table row))
        (whole_events tables tale (events.Begin table row)) (begins table row (fits table) taken))
    by_event (events.Settle table) fits may taken =
        whole_of (events.Settle table) taken (settles table (fits table) taken)
    by_event events.Stop fits may taken = whole_of events.Stop taken
        (unsettled (play_effect taken.play events.Stop) (events.Stop ∷ [])
        (stop-beside due taken.play playing.whole state playing.whole_is (beside-now taken.play taken.play_is)
        taken.free))
    by_event event fits may taken = whole_of event taken
        (unsettled (play_effect taken.play event) (event ∷ [])
        (order-beside due taken.play playing.whole state event refl playing.whole_is
        (beside-now taken.play taken.play_is) taken.free))

-- An entry that is allowed, in the whole.
pub step-whole : (tables : ℕ → TableHands) (tale : Tale) (state : State) (entry : JournalEntry)
    (rest : List JournalEntry) → ((table : ℕ) → DoFit table (tables table) (fold told_one tale (entry ∷ rest)))
    → IsValidState tale.state → IsValidState state → AreInTurn tale → may_come (seeded tale entry) entry ≡ true
    → AreBeside tables tale state
    → IsWholeOf tables (told_one tale entry) state (whole_events tables tale entry.event)
step-whole tables tale state entry rest fit valid valid_too turns may beside = elim beside [
  | inl planning ↦ step-planning tables tale state entry planning (and_parts _ _ may).0
  | inr playing ↦ step-playing tables tale state entry rest fit valid valid_too turns may playing
]
