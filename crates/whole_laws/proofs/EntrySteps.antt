-- What an entry that may come next makes of the hands that are out.
use Rattle.std.proofs.Common.{◌≡◌, ◌∙◌, refl, sym, subst, ℕ, Bool, true, false, List, [], ◌∷◌, map}
use Rattle.std.specs.Prelude.{if◌then◌else◌, Option, Some, None}
use Rattle.std.proofs.lemmas.Bool.{and_parts}
use Rattle.level_plan.specs.Drafts.{Draft}
use Rattle.table_engine.specs.declared.record.ActOf.{ActOf}
use Rattle.tournament_events.specs.declared.event.Event.{Event}
use Rattle.tournament_events.specs.declared.event.Event.TheVariants as events
use Rattle.tournament_rules.specs.Books.{BookState}
use Rattle.tournament_rules.specs.States.{PlayState, State, accepted, answer_to, is_accepted, run, state_after}
use Rattle.tournament_rules.specs.Valid.{IsValidState}
use Rattle.tournament_rules.proofs.Steps.{valid_events, valid_run}
use Rattle.view_rules.specs.declared.entries.JournalEntry.{JournalEntry}
use Rattle.dock_rules.specs.Journals.{Tale, act_event, acts_before, are_accepted, book_of, events_of, expand, may_come, seeded, tale_of, told_next, told_one}
use Rattle.dock_rules.proofs.JournalTales.{accepted-append, run-append, state-told}
use Rattle.whole_laws.proofs.StartSteps.{IsStep, book_at, event-step}

-- An act changes no book.
act-accepted : (draft : Draft) (play : Option PlayState) (count table : ℕ) (act : ActOf) (timed : Bool)
    → book_at (accepted (record { draft = draft; play = play; accepted = count })
    (if timed then events.Time table else events.Act table act.name act.act))
    ≡ book_at (record { draft = draft; play = play; accepted = count })
act-accepted draft None count table act true = refl
act-accepted draft None count table act false = refl
act-accepted draft (Some play) count table act true = refl
act-accepted draft (Some play) count table act false = refl

-- Acts change no book.
acts-book : (state : State) (table : ℕ) (acts : List ActOf)
    → book_at (run state (map (act_event table) acts)) ≡ book_at state
acts-book state table [] = refl
acts-book state table (act ∷ acts) =
    acts-book (state_after state (act_event table act)) table acts
    ∙ by_answer (is_accepted (answer_to state (act_event table act)))
  where
    by_answer : (taken : Bool)
        → book_at (if taken then accepted state (act_event table act) else state) ≡ book_at state
    by_answer true = act-accepted state.draft state.play state.accepted table act act.by_time
    by_answer false = refl

-- The acts before an event change no book.
before-book : (state : State) (event : Event) (acts : List ActOf)
    → book_at (run state (acts_before event acts)) ≡ book_at state
before-book state (events.Settle table) acts = acts-book state table acts
before-book state event acts = refl

-- What an entry that may come next makes of the book of a tale.
pub entry-step : (tale : Tale) (entry : JournalEntry) → IsValidState tale.state → may_come tale entry ≡ true
    → IsStep (book_of tale) entry.event (book_of (told_next tale entry))
entry-step tale entry valid may =
    let front : List Event = acts_before entry.event entry.acts in
    let middle : State = run tale.state front in
    let all = (and_parts (are_accepted tale.state (events_of entry)) _ may).0 in
    let taken = and_parts _ _ (sym (accepted-append tale.state front (entry.event ∷ [])) ∙ all) in
    let own = (and_parts (is_accepted (answer_to middle entry.event)) true taken.1).0 in
    subst (λ (before : BookState). IsStep before entry.event (book_of (told_next tale entry)))
    (before-book tale.state entry.event entry.acts)
    (subst (λ (state : State). IsStep (book_at middle) entry.event (book_at state))
    (sym (run-append tale.state front (entry.event ∷ [])))
    (event-step middle entry.event (valid_run tale.state front valid) own))

-- An entry of a legal journal is a step of the book.
pub legal-step : (tale : Tale) (entry : JournalEntry) → IsValidState tale.state → (told_one tale entry).legal ≡ true
    → IsStep (book_of tale) entry.event (book_of (told_one tale entry))
legal-step tale entry valid legal =
    entry-step (seeded tale entry) entry valid (and_parts tale.legal (may_come (seeded tale entry) entry) legal).1

-- The state of a journal is valid.
pub valid-told : (journal : List JournalEntry) → IsValidState (tale_of journal).state
valid-told journal = subst IsValidState (sym (state-told journal)) (valid_events (expand journal))
