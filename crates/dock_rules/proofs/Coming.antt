-- One event of the book more, that is about no hand that is played.
use Rattle.std.proofs.Common.{◌≡◌, ◌∙◌, refl, sym, ap, ℕ, zero, suc, ◌+◌, Bool, true, false, List, [], ◌∷◌, ◌++◌, length-append, arith}
use Rattle.std.specs.Prelude.{not, ◌==◌, if◌then◌else◌, replicate, slice_set, Option, Some, None, option_and_then}
use Rattle.std.specs.Option.{option_map_or, option_or}
use Rattle.std.proofs.lemmas.Bool.{and_from}
use Rattle.std.proofs.lemmas.List.{length-replicate}
use Rattle.floor_text.specs.declared.refusal.Refusal.{Refusal}
use Rattle.level_plan.specs.Drafts.{plan_of}
use Rattle.level_plan.specs.Plans.{PlanTerms}
use Rattle.table_engine.specs.Hands.{HandTerms}
use Rattle.table_engine.specs.declared.record.ActOf.{ActOf}
use Rattle.tournament_events.specs.declared.event.Event.{Event}
use Rattle.tournament_events.specs.declared.event.Event.TheVariants as events
use Rattle.tournament_rules.specs.Books.{BookState}
use Rattle.tournament_rules.specs.Checks.{book_refusal}
use Rattle.tournament_rules.specs.Effects.{book_effect, first_book}
use Rattle.tournament_rules.specs.Kinds.{kind_of, is_played}
use Rattle.tournament_rules.specs.States.{State, PlayState, accepted, acts_effect, answer_to, answered, hand_at, hand_table, is_accepted, no_acts, planning_answer, planning_effect, play_effect, refusal_of, run, state_after}
use Rattle.tournament_rules.specs.Apart.{hand_refusal}
use Rattle.tournament_rules.proofs.Ends.{left-void_first}
use Rattle.tournament_rules.proofs.Going.{goes_on}
use Rattle.tournament_rules.proofs.Passed.{refusal-parts, plan_late, go_late}
use Rattle.view_rules.specs.declared.entries.JournalEntry.{JournalEntry}
use Rattle.dock_rules.specs.Journals.{Tale, acts_before, acts_kept, are_accepted, book_of, entry_again, entry_told, events_of, is_brought_back, is_stop, may_come, seeded, tale_of, told_next, with_draws}
use Rattle.dock_rules.specs.Kept.{IsKept, at_rest}
use Rattle.dock_rules.specs.Points.{refusal_at, refusal_told}
use Rattle.dock_rules.proofs.JournalTales.{tale_push}

-- A list of one item stays so where the item is set.
pub set-replicate : {A : Type 0} (count place : ℕ) (item : A)
    → slice_set (replicate count item) place item ≡ replicate count item
set-replicate zero place item = refl
set-replicate (suc count) zero item = refl
set-replicate (suc count) (suc place) item = ap (◌∷◌ item) (set-replicate count place item)

-- What tells a refusal tells that refusal.
pub told-answered : (refusal : Option Refusal) → refusal_told (answered refusal) ≡ refusal
told-answered None = refl
told-answered (Some refusal) = refl

or_none : (refusal : Option Refusal) → option_or refusal None ≡ refusal
or_none None = refl
or_none (Some refusal) = refl

-- A tournament whose hands lie at their tables refuses what its book refuses.
pub refusal-rests : (book : BookState) (event : Event) → hand_table event ≡ None
    → refusal_of (at_rest book) event ≡ book_refusal book event
refusal-rests book event none =
    refusal-parts (at_rest book) event
    ∙ ap (λ (table : Option ℕ). option_or (book_refusal book event)
    (option_and_then (hand_refusal event) (option_and_then (hand_at (at_rest book)) table))) none
    ∙ or_none (book_refusal book event)

-- The answer once the plan is whole.
pub answer-in_play : (state : State) (play : PlayState) (event : Event) → state.play ≡ Some play
    → answer_to state event ≡ answered (refusal_of play event)
answer-in_play state play event is =
    ap (λ (found : Option PlayState). option_map_or (λ play. answered (refusal_of play event)) found
    (planning_answer state.draft event)) is

-- What is refused at a journal is what its book refuses.
pub refusal-kept : (tale : Tale) (book : BookState) (event : Event) → tale.state.play ≡ Some (at_rest book)
    → hand_table event ≡ None → refusal_at tale event ≡ book_refusal book event
refusal-kept tale book event is none =
    ap refusal_told (answer-in_play tale.state (at_rest book) event is)
    ∙ told-answered (refusal_of (at_rest book) event) ∙ refusal-rests book event none

-- The book of a journal is the one that it comes to.
pub book-kept : (tale : Tale) (book : BookState) → tale.state.play ≡ Some (at_rest book) → book_of tale ≡ book
book-kept tale book is =
    ap (λ (found : Option PlayState). option_map_or (λ play. play.book) found (first_book (plan_of tale.state.draft))) is

-- Where no hand has an act, none has one after an event that is about no hand.
acts-none : (tables : ℕ) (event : Event) → hand_table event ≡ None
    → acts_effect (no_acts tables) None event ≡ no_acts tables
acts-none tables (events.Begin table row) none = set-replicate (tables + 1) table []
acts-none tables (events.Act table name act) none = absurd cc
acts-none tables (events.Time table) none = absurd cc
acts-none tables (events.Settle table) none = absurd cc
acts-none tables events.Stop none = ap (λ (count : ℕ). replicate count []) (length-replicate (tables + 1) [])
acts-none tables event none = refl

-- What an event that the book takes leaves of it, and what not.
pub record IsTaken (book : BookState) (event : Event) (after : BookState) : Type 0 where
  pub plan : after.plan ≡ book.plan
  pub stopped : after.stopped ≡ is_stop event
  pub counted : after.accepted ≡ book.accepted + 1

-- It is so of each event that is about no hand.
pub taken : (book : BookState) (event : Event) → hand_table event ≡ None → book_refusal book event ≡ None
    → IsTaken book event (book_effect book None event)
taken book (events.Plan line) none free = absurd (plan_late book line free)
taken book events.Go none free = absurd (go_late book free)
taken book (events.Act table name act) none free = absurd cc
taken book (events.Time table) none free = absurd cc
taken book (events.Settle table) none free = absurd cc
taken book events.Stop none free = record {
  plan = left-void_first (λ book. book.plan) (record { same = λ book table payees. refl }) book book.plan.tables;
  stopped = refl;
  counted = refl;
}
taken book event none free = record { plan = refl; stopped = goes_on book event free; counted = refl }

-- What an event that is not refused makes of a state.
pub record IsAcceptedTo (state : State) (event : Event) (play : PlayState) : Type 0 where
  pub yes : is_accepted (answer_to state event) ≡ true
  pub play_is : (state_after state event).play ≡ Some play

-- An event that is not refused has its effect.
pub accepted-in_play : (state : State) (play : PlayState) (event : Event) → state.play ≡ Some play
    → refusal_of play event ≡ None → IsAcceptedTo state event (play_effect play event)
accepted-in_play state play event is free =
    let yes : is_accepted (answer_to state event) ≡ true =
    ap is_accepted (answer-in_play state play event is ∙ ap answered free) in
    record {
      yes = yes;
      play_is = ap (λ (taken : Bool). (if taken then accepted state event else state).play) yes
          ∙ ap (λ (found : Option PlayState).
          (option_map_or (λ (play : PlayState). record state { play = Some (play_effect play event) }) found
          (planning_effect state event)).play) is;
    }

-- A tournament whose hands lie at their tables after an event of the book that is about none of them.
pub rests-after : (book : BookState) (event : Event) → hand_table event ≡ None → book_refusal book event ≡ None
    → play_effect (at_rest book) event ≡ at_rest (book_effect book None event)
rests-after book event none free =
    let tables = ap (λ (plan : PlanTerms). plan.tables) (taken book event none free).plan in
    ap (λ (table : Option ℕ).
    let hand : Option HandTerms = option_and_then (hand_at (at_rest book)) table in
    record { book = book_effect book hand event; acts = acts_effect (no_acts book.plan.tables) hand event }) none
    ∙ ap (λ (acts : List (List ActOf)). record { book = book_effect book None event; acts = acts })
    (acts-none book.plan.tables event none ∙ ap no_acts (sym tables))

-- What an entry is whose event is about no hand.
pub record IsAlone (tale : Tale) (caller : ℕ) (event : Event) : Type 0 where
  pub front : acts_before event [] ≡ []
  pub mine : not (is_played (kind_of event)) ≡ true
  pub back : is_brought_back tale caller event ≡ true
  pub acts : acts_kept event [] ≡ []

alone : (tale : Tale) (caller : ℕ) (event : Event) → hand_table event ≡ None → IsAlone tale caller event
alone tale caller (events.Act table name act) none = absurd cc
alone tale caller (events.Time table) none = absurd cc
alone tale caller (events.Settle table) none = absurd cc
alone tale caller event none = record { front = refl; mine = refl; back = refl; acts = refl }

-- The seed of an entry that has the tale's.
pub seeded-same : (tale : Tale) (entry : JournalEntry) → entry.seed ≡ tale.seed → seeded tale entry ≡ tale
seeded-same tale entry same = λ i. record tale { seed = by_count (tale.count == 0) i }
  where
    by_count : (first : Bool) → (if first then entry.seed else tale.seed) ≡ tale.seed
    by_count true = same
    by_count false = refl

-- The tale of one entry more that has its seed.
pub push-seeded : (journal : List JournalEntry) (entry : JournalEntry) → entry.seed ≡ (tale_of journal).seed
    → tale_of (journal ++ entry ∷ []) ≡ told_next (tale_of journal) entry
push-seeded journal entry same =
    tale_push journal entry ∙ ap (λ (tale : Tale). told_next tale entry) (seeded-same (tale_of journal) entry same)

-- A journal with one entry more is kept, where its events are accepted and lead to the book.
pub kept-more : (journal : List JournalEntry) (seed : List ℕ) (book after : BookState) (entry : JournalEntry)
    → IsKept journal seed book → entry.seed ≡ (tale_of journal).seed → may_come (tale_of journal) entry ≡ true
    → entry_again (tale_of journal) entry ≡ entry
    → (run (tale_of journal).state (events_of entry)).play ≡ Some (at_rest after)
    → after.stopped ≡ is_stop entry.event → after.accepted ≡ book.accepted + 1
    → IsKept (journal ++ entry ∷ []) seed after
kept-more journal seed book after entry kept same may again come stopped counted =
    let is = push-seeded journal entry same in
    let allowed : (tale_of (journal ++ entry ∷ [])).legal ≡ true =
    ap (λ (tale : Tale). tale.legal) is ∙ and_from _ _ kept.legal.allowed may in
    let told : (tale_of (journal ++ entry ∷ [])).again ≡ journal ++ entry ∷ [] =
    ap (λ (tale : Tale). tale.again) is ∙ (λ i. kept.legal.told i ++ again i ∷ []) in
    let count : (tale_of (journal ++ entry ∷ [])).count ≡ (tale_of journal).count + 1 =
    ap (λ (tale : Tale). tale.count) is in
    record {
      legal = record { allowed = allowed; told = told };
      come = ap (λ (tale : Tale). tale.state.play) is ∙ come;
      seeded = ap (λ (tale : Tale). tale.seed) is ∙ kept.seeded;
      counted = let before = kept.counted in omega (arith, count, before, length-append journal (entry ∷ []));
      ended = ap (λ (tale : Tale). tale.ended) is ∙ sym stopped;
      accepted = let before = kept.accepted in omega (arith, counted, before, length-append journal (entry ∷ []));
    }

-- A journal with the entry of an event more is kept, where the book takes the event, with the draws that come next.
pub kept-event : (journal : List JournalEntry) (seed : List ℕ) (book : BookState) (caller : ℕ) (event : Event)
    → IsKept journal seed book → hand_table event ≡ None → with_draws (tale_of journal) event ≡ event
    → book_refusal book event ≡ None
    → IsKept (journal ++ entry_told (tale_of journal) caller event [] ∷ []) seed (book_effect book None event)
kept-event journal seed book caller event kept none drawn free =
    let tale : Tale = tale_of journal in
    let is = alone tale caller event none in
    let accept = accepted-in_play tale.state (at_rest book) event kept.come (refusal-rests book event none ∙ free) in
    let change = taken book event none free in
    kept-more journal seed book (book_effect book None event) (entry_told tale caller event []) kept refl
    (and_from _ _ (ap (λ (front : List Event). are_accepted tale.state (front ++ event ∷ [])) is.front
    ∙ and_from _ _ accept.yes refl) (and_from _ _ is.mine is.back))
    (λ i. entry_told tale caller (drawn i) (is.acts i))
    (ap (λ (front : List Event). (run tale.state (front ++ event ∷ [])).play) is.front
    ∙ (accept.play_is ∙ ap Some (rests-after book event none free)))
    change.stopped change.counted
