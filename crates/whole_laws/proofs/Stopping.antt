-- A journal ends with the stop just where its tournament is stopped, and behind that nothing comes.
use Rattle.std.proofs.Common.{◌≡◌, ◌∙◌, refl, sym, ap, Bool, true, false, List, [], ◌∷◌, ◌++◌, fold}
use Rattle.std.specs.Prelude.{◌&&◌, if◌then◌else◌, Option, Some, None}
use Rattle.std.specs.Option.{option_map_or}
use Rattle.std.proofs.lemmas.Bool.{and_parts}
use Rattle.level_plan.specs.Drafts.{plan_of}
use Rattle.table_engine.specs.Hands.{HandTerms}
use Rattle.tournament_events.specs.declared.event.Event.{Event}
use Rattle.tournament_events.specs.declared.event.Event.TheVariants as events
use Rattle.tournament_rules.specs.Books.{BookState}
use Rattle.tournament_rules.specs.Checks.{book_refusal}
use Rattle.tournament_rules.specs.Effects.{book_effect, first_book, settled}
use Rattle.tournament_rules.specs.States.{PlayState, State, accepted, answer_to, answered, hand_about, is_accepted, planning_answer, planning_effect, play_effect, refusal_of, run, state_after}
use Rattle.tournament_rules.proofs.Going.{goes_on}
use Rattle.tournament_rules.proofs.Passed.{go_late, passed-parts, plan_late}
use Rattle.tournament_rules.proofs.Steps.{accepted_none}
use Rattle.view_rules.specs.declared.entries.JournalEntry.{JournalEntry}
use Rattle.dock_rules.specs.Journals.{Tale, acts_before, are_accepted, book_of, events_of, first_tale, is_stop, may_come, seeded, tale_of, told_one}
use Rattle.dock_rules.proofs.Coming.{accepted-in_play, answer-in_play}
use Rattle.dock_rules.proofs.JournalTales.{accepted-append, legal-before, run-append, tale_append, tale_from}

-- whether the tournament of a state is stopped
abbrev pub is_stopped_in : State → Bool
is_stopped_in state = option_map_or (λ play. play.book.stopped) state.play false

-- An event that the book takes stops it just where it is the stop.
stopped-effect : (book : BookState) (hand : Option HandTerms) (event : Event) → book_refusal book event ≡ None
    → (book_effect book hand event).stopped ≡ is_stop event
stopped-effect book hand (events.Plan line) free = absurd (plan_late book line free)
stopped-effect book hand events.Go free = absurd (go_late book free)
stopped-effect book hand (events.Settle table) free = by_hand hand
  where
    by_hand : (hand : Option HandTerms) → (option_map_or (settled book) hand book).stopped ≡ false
    by_hand None = goes_on book (events.Settle table) free
    by_hand (Some hand) = goes_on book (events.Settle table) free
stopped-effect book hand events.Stop free = refl
stopped-effect book hand event free = goes_on book event free

-- The events of a plan stop nothing.
stopped-planning : (state : State) (event : Event) → state.play ≡ None
    → is_accepted (planning_answer state.draft event) ≡ true
    → option_map_or (λ (play : PlayState). play.book.stopped) (planning_effect state event).play false ≡ is_stop event
stopped-planning state (events.Plan line) none taken = rw none refl
stopped-planning state events.Go none taken = refl
stopped-planning state event none taken = absurd cc

-- An accepted event leaves a stopped tournament just where it is the stop.
stopped-event : (state : State) (event : Event) → is_accepted (answer_to state event) ≡ true
    → is_stopped_in (state_after state event) ≡ is_stop event
stopped-event state event taken = by_play state.play refl
  where
    by_play : (found : Option PlayState) → state.play ≡ found → is_stopped_in (state_after state event) ≡ is_stop event
    by_play None at =
        let planned = sym (ap (λ (found : Option PlayState). is_accepted
        (option_map_or (λ play. answered (refusal_of play event)) found (planning_answer state.draft event))) at) ∙ taken in
        ap (λ (taken : Bool). is_stopped_in (if taken then accepted state event else state)) taken
        ∙ (ap (λ (found : Option PlayState). is_stopped_in
        (option_map_or (λ (play : PlayState). record state { play = Some (play_effect play event) }) found
        (planning_effect state event))) at
        ∙ stopped-planning state event at planned)
    by_play (Some play) at =
        let free = accepted_none (refusal_of play event)
        (sym (ap is_accepted (answer-in_play state play event at)) ∙ taken) in
        let after = (accepted-in_play state play event at free).play_is in
        ap (λ (found : Option PlayState). option_map_or (λ (play : PlayState). play.book.stopped) found false) after
        ∙ stopped-effect play.book (hand_about play event) event (passed-parts play event free).0

-- The last of accepted events tells whether the tournament is stopped after them.
stopped-events : (state : State) (front : List Event) (event : Event)
    → are_accepted state (front ++ event ∷ []) ≡ true
    → is_stopped_in (run state (front ++ event ∷ [])) ≡ is_stop event
stopped-events state front event all =
    let last = (and_parts _ _ (sym (accepted-append state front (event ∷ [])) ∙ all)).1 in
    ap is_stopped_in (run-append state front (event ∷ []))
    ∙ stopped-event (run state front) event (and_parts (is_accepted (answer_to (run state front) event)) true last).0

-- An accepted event comes before any stop.
going-event : (state : State) (event : Event) → is_accepted (answer_to state event) ≡ true
    → is_stopped_in state ≡ false
going-event state event taken = by_play state.play refl
  where
    by_play : (found : Option PlayState) → state.play ≡ found → is_stopped_in state ≡ false
    by_play None at =
        ap (λ (found : Option PlayState). option_map_or (λ (play : PlayState). play.book.stopped) found false) at
    by_play (Some play) at =
        let free = accepted_none (refusal_of play event)
        (sym (ap is_accepted (answer-in_play state play event at)) ∙ taken) in
        ap (λ (found : Option PlayState). option_map_or (λ (play : PlayState). play.book.stopped) found false) at
        ∙ goes_on play.book event (passed-parts play event free).0

-- So do accepted events.
going-events : (state : State) (front : List Event) (event : Event)
    → are_accepted state (front ++ event ∷ []) ≡ true → is_stopped_in state ≡ false
going-events state [] event all = going-event state event (and_parts (is_accepted (answer_to state event)) true all).0
going-events state (first ∷ front) event all = going-event state first (and_parts _ _ all).0

-- The events of the first of entries that are legal behind a tale are accepted.
first-accepted : (tale : Tale) (entry : JournalEntry) (entries : List JournalEntry)
    → (fold told_one (told_one tale entry) entries).legal ≡ true
    → are_accepted tale.state (events_of entry) ≡ true
first-accepted tale entry entries legal =
    let may = (and_parts tale.legal (may_come (seeded tale entry) entry)
    (legal-before (told_one tale entry) entries legal)).1 in
    (and_parts _ _ may).0

ended-from : (tale : Tale) (entries : List JournalEntry) → tale.ended ≡ is_stopped_in tale.state
    → (fold told_one tale entries).legal ≡ true
    → (fold told_one tale entries).ended ≡ is_stopped_in (fold told_one tale entries).state
ended-from tale [] same legal = same
ended-from tale (entry ∷ entries) same legal =
    ended-from (told_one tale entry) entries
    (sym (stopped-events tale.state (acts_before entry.event entry.acts) entry.event
    (first-accepted tale entry entries legal))) legal

stopped-book : (tale : Tale) → (book_of tale).stopped ≡ is_stopped_in tale.state
stopped-book tale = by_play tale.state.play
  where
    by_play : (found : Option PlayState)
        → (option_map_or (λ (play : PlayState). play.book) found (first_book (plan_of tale.state.draft))).stopped
        ≡ option_map_or (λ (play : PlayState). play.book.stopped) found false
    by_play None = refl
    by_play (Some play) = refl

-- A legal journal ends with the stop just where its tournament is stopped.
pub ended-stopped : (journal : List JournalEntry) → (tale_of journal).legal ≡ true
    → (tale_of journal).ended ≡ (book_of (tale_of journal)).stopped
ended-stopped journal legal =
    let from = tale_from journal in
    ap (λ (tale : Tale). tale.ended) from
    ∙ (ended-from first_tale journal refl (sym (ap (λ (tale : Tale). tale.legal) from) ∙ legal)
    ∙ (sym (ap (λ (tale : Tale). is_stopped_in tale.state) from) ∙ sym (stopped-book (tale_of journal))))

none-behind : (tale : Tale) (others : List JournalEntry) → is_stopped_in tale.state ≡ true
    → (fold told_one tale others).legal ≡ true → others ≡ []
none-behind tale [] stopped legal = refl
none-behind tale (entry ∷ entries) stopped legal =
    let going = going-events tale.state (acts_before entry.event entry.acts) entry.event
    (first-accepted tale entry entries legal) in
    absurd (let never : true ≡ false = sym stopped ∙ going in cc)

-- Behind the stop nothing comes.
pub none-behind_stop : (before others : List JournalEntry) → (tale_of (before ++ others)).legal ≡ true
    → (tale_of before).ended ≡ true → others ≡ []
none-behind_stop before others legal ended =
    let is = tale_append before others in
    let legal_so = sym (ap (λ (tale : Tale). tale.legal) is) ∙ legal in
    none-behind (tale_of before) others
    (sym (ended-stopped before (legal-before (tale_of before) others legal_so) ∙ stopped-book (tale_of before)) ∙ ended)
    legal_so
