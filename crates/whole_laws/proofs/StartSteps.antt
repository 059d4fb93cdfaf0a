-- What an event that a tournament takes makes of the hands that have started in its book.
use Rattle.std.proofs.Common.{◌≡◌, ◌∙◌, refl, sym, ap, subst, ℕ, ◌+◌, ◌==◌, Bool, true, false, cond, List, [], ◌∷◌, ◌++◌, append-nil, arith}
use Rattle.std.specs.Prelude.{filter, if◌then◌else◌, slice_set, Option, Some, None}
use Rattle.std.specs.Option.{ForSome, option_map_or, option_to_list}
use Rattle.std.proofs.lemmas.Bool.{eqb-true}
use Rattle.card_set.specs.declared.card.CardRow.{CardRow}
use Rattle.level_plan.specs.Drafts.{Draft, draft_after, plan_of}
use Rattle.level_plan.specs.Plans.{PlanTerms}
use Rattle.table_engine.specs.declared.start.HandStart.{HandStart}
use Rattle.table_engine.specs.Hands.{HandTerms}
use Rattle.tournament_events.specs.declared.event.Event.{Event}
use Rattle.tournament_events.specs.declared.event.Event.TheVariants as events
use Rattle.tournament_rules.specs.Books.{BookState, start_at}
use Rattle.tournament_rules.specs.Checks.{book_refusal}
use Rattle.tournament_rules.specs.Dealing.{next_start}
use Rattle.tournament_rules.specs.Effects.{begun_book, first_book, settled}
use Rattle.tournament_rules.specs.States.{PlayState, State, accepted, answer_to, hand_at, is_accepted, play_effect, refusal_of, state_after}
use Rattle.tournament_rules.specs.Valid.{IsValid, IsValidPlay, IsValidState}
use Rattle.tournament_rules.proofs.Begins.{may_begin, none_started}
use Rattle.tournament_rules.proofs.Ends.{none_started-stopped}
use Rattle.tournament_rules.proofs.Entries.{start_none}
use Rattle.tournament_rules.proofs.Fitting.{table_range}
use Rattle.tournament_rules.proofs.Going.{goes_on}
use Rattle.tournament_rules.proofs.Passed.{go_late, passed-parts, plan_late, settle_passed}
use Rattle.tournament_rules.proofs.PlayedHands.{hand_there}
use Rattle.tournament_rules.proofs.Steps.{accepted_none}
use Rattle.dock_rules.specs.Journals.{ends_hand, is_stop}
use Rattle.whole_laws.proofs.InSlots.{slot-set}

-- the hand that has started at a table, if one has
abbrev pub out_at : BookState → ℕ → List HandStart
out_at book table = option_to_list (start_at book.started table)

-- those of some hands that are at a table
abbrev pub those_at : ℕ → List HandStart → List HandStart
those_at table starts = filter (λ start. start.table == table) starts

-- the start of the hand that an event begins
abbrev pub starts_by : BookState → Event → List HandStart
starts_by book (events.Begin table row) = next_start book table row.cards ∷ []
starts_by book _ = []

-- What an event that is taken makes of a book, as far as its hands go.
pub record IsStep (before : BookState) (event : Event) (after : BookState) : Type 0 where
  pub goes : before.stopped ≡ false
  pub stopped : after.stopped ≡ is_stop event
  -- the hand at a table is out as before, unless the event ends it, and then the one that the event begins there
  pub out : (table : ℕ) → out_at after table
      ≡ (if ends_hand table event then [] else out_at before table) ++ those_at table (starts_by before event)
  -- a hand begins where none is out
  pub free : (table : ℕ) (row : CardRow) → event ≡ events.Begin table row → start_at before.started table ≡ None

-- A hand begins.
begun-step : (book : BookState) (table : ℕ) (row : CardRow) → IsValid book
    → book_refusal book (events.Begin table row) ≡ None
    → IsStep book (events.Begin table row) (begun_book book table row.cards)
begun-step book table row valid taken =
    let goes = goes_on book (events.Begin table row) taken in
    let may = may_begin book table row taken in
    let none = none_started book table valid may.rests in
    let range = table_range 1 book.plan.tables table may.there in
    let room = valid.tables.room in
    record {
      goes = goes;
      stopped = goes;
      out = λ other. ap option_to_list (slot-set book.started table other (Some start) (omega (arith, range.1, room)))
          ∙ by_table other none (table == other) refl;
      free = λ other again is.
          let same : table ≡ other = cc in
          subst (λ (number : ℕ). start_at book.started number ≡ None) same none;
    }
  where
    start : HandStart
    start = next_start book table row.cards

    by_table : (other : ℕ) → start_at book.started table ≡ None → (same : Bool) → (table == other) ≡ same
        → option_to_list (if same then Some start else start_at book.started other)
        ≡ out_at book other ++ cond same (start ∷ []) []
    by_table other none true same =
        ap (λ (found : Option HandStart). option_to_list found ++ start ∷ [])
        (sym (ap (λ (number : ℕ). start_at book.started number) (sym (eqb-true table other same)) ∙ none))
    by_table other none false apart = sym (append-nil (out_at book other))

-- The hand at a table is settled.
settled-step : (play : PlayState) (table : ℕ) → IsValidPlay play → book_refusal play.book (events.Settle table) ≡ None
    → IsStep play.book (events.Settle table) (option_map_or (settled play.book) (hand_at play table) play.book)
settled-step play table valid taken =
    let book : BookState = play.book in
    let goes = goes_on book (events.Settle table) taken in
    let may = settle_passed book table taken in
    let played = hand_there play table valid may.playing in
    let range = table_range 1 book.plan.tables table may.there in
    let room = valid.book.tables.room in
    subst (λ (hand : Option HandTerms).
    IsStep play.book (events.Settle table) (option_map_or (settled play.book) hand play.book)) (sym played.is)
    (record {
      goes = goes;
      stopped = goes;
      out = λ other.
          ap (λ (number : ℕ). option_to_list (start_at (slice_set play.book.started number None) other)) played.here
          ∙ (ap option_to_list (slot-set book.started table other None (omega (arith, range.1, room)))
          ∙ by_table other (table == other));
      free = λ other row is. absurd cc;
    })
  where
    by_table : (other : ℕ) (same : Bool)
        → option_to_list (if same then None else start_at play.book.started other)
        ≡ (if same then [] else out_at play.book other) ++ []
    by_table other true = refl
    by_table other false = sym (append-nil (out_at play.book other))

-- An event is taken once the plan is whole.
play-step : (play : PlayState) (event : Event) → IsValidPlay play → refusal_of play event ≡ None
    → IsStep play.book event (play_effect play event).book
play-step play (events.Plan line) valid taken =
    absurd (plan_late play.book line (passed-parts play (events.Plan line) taken).0)
play-step play events.Go valid taken = absurd (go_late play.book (passed-parts play events.Go taken).0)
play-step play (events.Begin table row) valid taken =
    begun-step play.book table row valid.book (passed-parts play (events.Begin table row) taken).0
play-step play (events.Settle table) valid taken =
    settled-step play table valid (passed-parts play (events.Settle table) taken).0
play-step play events.Stop valid taken = record {
  goes = goes_on play.book events.Stop (passed-parts play events.Stop taken).0;
  stopped = refl;
  out = λ table. ap option_to_list (none_started-stopped play.book table valid.book);
  free = λ table row is. absurd cc;
}
play-step play event valid taken =
    let goes = goes_on play.book event (passed-parts play event taken).0 in
    record {
      goes = goes;
      stopped = goes;
      out = λ table. sym (append-nil (out_at play.book table));
      free = λ table row is. absurd cc;
    }

-- No hand has started before any entry.
pub none_first : (plan : PlanTerms) (table : ℕ) → out_at (first_book plan) table ≡ []
none_first plan table = ap option_to_list (start_none (plan.tables + 1) table)

-- the book of a state; before the plan is whole that of what was given of it
abbrev pub book_at : State → BookState
book_at state = option_map_or (λ play. play.book) state.play (first_book (plan_of state.draft))

-- An event is taken at any moment.
accepted-step : (draft : Draft) (play : Option PlayState) (count : ℕ) (event : Event) → ForSome play IsValidPlay
    → is_accepted (answer_to (record { draft = draft; play = play; accepted = count }) event) ≡ true
    → IsStep (book_at (record { draft = draft; play = play; accepted = count })) event
    (book_at (accepted (record { draft = draft; play = play; accepted = count }) event))
accepted-step draft None count (events.Plan line) valid taken = record {
  goes = refl;
  stopped = refl;
  out = λ table. none_first (plan_of (draft_after draft line)) table
      ∙ sym (ap (λ (starts : List HandStart). starts ++ []) (none_first (plan_of draft) table));
  free = λ table row is. absurd cc;
}
accepted-step draft None count events.Go valid taken = record {
  goes = refl;
  stopped = refl;
  out = λ table. sym (append-nil (out_at (first_book (plan_of draft)) table));
  free = λ table row is. absurd cc;
}
accepted-step draft None count event valid taken = absurd cc
accepted-step draft (Some play) count event valid taken =
    play-step play event (valid play refl) (accepted_none (refusal_of play event) taken)

-- What an accepted event makes of the book of a state.
pub event-step : (state : State) (event : Event) → IsValidState state → is_accepted (answer_to state event) ≡ true
    → IsStep (book_at state) event (book_at (state_after state event))
event-step state event valid taken =
    subst (λ (yes : Bool). IsStep (book_at state) event (book_at (if yes then accepted state event else state)))
    (sym taken) (accepted-step state.draft state.play state.accepted event valid.play taken)
