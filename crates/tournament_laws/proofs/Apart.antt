-- A book and its hands, each by itself, answer as the tournament that they are.
use Rattle.std.proofs.Common.{◌≡◌, ◌∙◌, refl, sym, ap, subst, ℕ, ◌+◌, true, false, List, [], ◌∷◌, ◌++◌, map, length, set, arith}
use Rattle.std.specs.Prelude.{replicate, Option, Some, None, is_some, is_none, option_map, option_and_then, if◌then◌else◌}
use Rattle.std.specs.Option.{option_map_or, option_or}
use Rattle.std.proofs.Math.Seq.{map-set_same}
use Rattle.std.proofs.lemmas.List.{map-set, length-map}
use Rattle.rulebook.proofs.Tests.{some_there}
use Rattle.floor_text.specs.declared.refusal.Refusal.{Refusal}
use Rattle.card_set.specs.declared.card.CardRow.{CardRow}
use Rattle.betting_round.specs.declared.act.Act.{Act}
use Rattle.level_plan.specs.Plans.{PlanTerms, is_right}
use Rattle.table_engine.specs.declared.start.HandStart.{HandStart}
use Rattle.table_engine.specs.declared.record.ActOf.{ActOf}
use Rattle.table_engine.specs.Hands.{HandTerms}
use Rattle.table_engine.specs.Acts.{hand_after, hand_after_time}
use Rattle.tournament_events.specs.declared.event.Event.{Event}
use Rattle.tournament_events.specs.declared.event.Event.TheVariants as events
use Rattle.tournament_rules.specs.Books.{BookState}
use Rattle.tournament_rules.specs.Checks.{book_refusal, is_playing}
use Rattle.tournament_rules.specs.Dealing.{next_start}
use Rattle.tournament_rules.specs.Effects.{first_book, book_effect, settled, void_first, stopped_book}
use Rattle.level_plan.specs.Drafts.{Draft, plan_of, go_fault}
use Rattle.tournament_events.specs.declared.answer.Answer.TheVariants.{Ok}
use Rattle.tournament_rules.specs.States.{State, first_state, answer_to, answers, accepted, is_accepted, state_after, run, PlayState, first_play, answered, refusal_of, acts_effect, play_effect, play_after, answers_in_play, run_in_play}
use Rattle.tournament_rules.specs.Valid.{IsValidPlay}
use Rattle.tournament_rules.specs.Report.{book_report, empty_report, report_of}
use Rattle.tournament_rules.specs.Apart.{Apart, first_apart, hand_in, hand_for, hand_refusal, refusal_apart, hands_effect, after_apart, answers_apart, run_apart, start_of, acts_of, seen_of}
use Rattle.tournament_rules.proofs.Ends.{left-void_first, valid_stopped, none_started-stopped}
use Rattle.tournament_rules.proofs.Passed.{refusal-parts, passed-parts, act_passed, time_passed, settle_passed, plan_late, go_late}
use Rattle.tournament_rules.proofs.Drafts.{right_plan}
use Rattle.tournament_rules.proofs.Steps.{go_right, valid_events}
use Rattle.tournament_rules.proofs.Plays.{play_keeps, valid_first_play}
use Rattle.tournament_rules.proofs.Layers.{start_read, acts_read, hand_for-read, map_empty, hands_length, all_empty}

-- The starts of the hands are those that the book has, and the tournament that they are is valid.
pub record AreTied (apart : Apart) : Type 0 where
  pub tied : map start_of apart.hands ≡ apart.book.started
  pub valid : IsValidPlay (seen_of apart)

-- An event is refused alike.
refused_alike : (apart : Apart) (event : Event) → AreTied apart
    → refusal_of (seen_of apart) event ≡ refusal_apart apart event
refused_alike apart event ties =
    let same = hand_for-read apart.book apart.hands event ties.tied in
    let later = ap (option_and_then (hand_refusal event)) same in
    refusal-parts (seen_of apart) event ∙ ap (option_or (book_refusal apart.book event)) later

-- There is a hand at a table that is played at.
hand_there : (apart : Apart) (table : ℕ) → AreTied apart → is_playing apart.book table ≡ true
    → (hand : HandTerms) × (hand_in apart.hands table ≡ Some hand)
hand_there apart table ties playing =
    let same = same_there (hand_in apart.hands table) in
    let start = ap is_some (start_read apart.book apart.hands table ties.tied) in
    let started = ties.valid.book.tables.playing table in
    some_there (hand_in apart.hands table) (sym same ∙ (sym start ∙ (sym started ∙ playing)))
  where
    same_there : (hand : Option HandTerms) → is_some (start_of hand) ≡ is_some hand
    same_there None = refl
    same_there (Some hand) = refl

-- An accepted event makes the same of the hands as of the starts and the acts.
pub record IsAlike (apart : Apart) (event : Event) : Type 0 where
  pub tied : map start_of (hands_effect apart event)
      ≡ (book_effect apart.book (hand_for apart.hands event) event).started
  pub acts : map acts_of (hands_effect apart event)
      ≡ acts_effect (map acts_of apart.hands) (hand_for apart.hands event) event

begin_alike : (apart : Apart) (table : ℕ) (row : CardRow) → AreTied apart → IsAlike apart (events.Begin table row)
begin_alike apart table row ties =
    let start = next_start apart.book table row.cards in
    let started = ap (λ (started : List (Option HandStart)). set started table (Some start)) ties.tied in
    record { tied = map-set start_of apart.hands table _ ∙ started; acts = map-set acts_of apart.hands table _ }

act_alike : (apart : Apart) (table : ℕ) (name : List ℕ) (act : Act) → AreTied apart → is_playing apart.book table ≡ true
    → IsAlike apart (events.Act table name act)
act_alike apart table name act ties playing =
    let found = hand_there apart table ties playing in
    let new : ActOf = record { name = name; act = act; by_time = false } in
    let after = hand_after found.0 name act false in
    let same = ap (option_map (λ (hand : HandTerms). hand_after hand name act false)) found.1 in
    let start = ap start_of (sym found.1) in
    let before = acts_read apart.hands table ∙ ap acts_of found.1 in
    let acts = ap (λ (acts : List ActOf). set (map acts_of apart.hands) table (acts ++ new ∷ [])) before in
    record {
      tied = ap (λ (hand : Option HandTerms). map start_of (set apart.hands table hand)) same
          ∙ (map-set_same start_of apart.hands table (Some after) None start ∙ ties.tied);
      acts = ap (λ (hand : Option HandTerms). map acts_of (set apart.hands table hand)) same
          ∙ (map-set acts_of apart.hands table (Some after) ∙ sym acts);
    }

time_alike : (apart : Apart) (table : ℕ) → AreTied apart → is_playing apart.book table ≡ true
    → IsAlike apart (events.Time table)
time_alike apart table ties playing =
    let found = hand_there apart table ties playing in
    let after = hand_after_time found.0 in
    let same = ap (option_map hand_after_time) found.1 in
    let start = ap start_of (sym found.1) in
    let acts = ap (λ (hand : Option HandTerms). set (map acts_of apart.hands) table
    (option_map_or (λ hand. (hand_after_time hand).acts) hand [])) found.1 in
    record {
      tied = ap (λ (hand : Option HandTerms). map start_of (set apart.hands table hand)) same
          ∙ (map-set_same start_of apart.hands table (Some after) None start ∙ ties.tied);
      acts = ap (λ (hand : Option HandTerms). map acts_of (set apart.hands table hand)) same
          ∙ (map-set acts_of apart.hands table (Some after) ∙ sym acts);
    }

settle_alike : (apart : Apart) (table : ℕ) → AreTied apart → is_playing apart.book table ≡ true
    → IsAlike apart (events.Settle table)
settle_alike apart table ties playing =
    let found = hand_there apart table ties playing in
    let started = start_read apart.book apart.hands table ties.tied ∙ ap start_of found.1 in
    let here = (ties.valid.book.hands.starts table found.0.start started).here in
    let before = ap (λ (started : List (Option HandStart)). set started table None) ties.tied in
    let number = ap (λ (number : ℕ). set apart.book.started number None) here in
    let hand = ap (λ (hand : Option HandTerms). (option_map_or (settled apart.book) hand apart.book).started) found.1 in
    record {
      tied = map-set start_of apart.hands table None ∙ (before ∙ (sym number ∙ sym hand));
      acts = map-set acts_of apart.hands table None;
    }

tables_left : (book : BookState) (tables : ℕ) → (void_first book tables).plan.tables ≡ book.plan.tables
tables_left book tables =
    left-void_first (λ book. book.plan.tables) (record { same = λ book table payees. refl }) book tables

stop_alike : (apart : Apart) → AreTied apart → IsAlike apart events.Stop
stop_alike apart ties =
    let none = all_empty (stopped_book apart.book).started
    (λ table. none_started-stopped apart.book table ties.valid.book) in
    let tables = tables_left apart.book apart.book.plan.tables in
    let after = (valid_stopped apart.book ties.valid.book).tables.room in
    let before = ties.valid.book.tables.room in
    let hands = hands_length apart.book apart.hands ties.tied in
    let started = (stopped_book apart.book).started in
    let size : length apart.hands ≡ length started = omega (arith, hands, tables, after, before) in
    let acts = ap (λ (count : ℕ). replicate {A = List ActOf} count []) (length-map apart.hands acts_of) in
    record {
      tied = map_empty start_of (length apart.hands) None ∙ (ap (λ (count : ℕ). replicate count None) size ∙ sym none);
      acts = map_empty acts_of (length apart.hands) None ∙ sym acts;
    }

alike : (apart : Apart) (event : Event) → AreTied apart → refusal_of (seen_of apart) event ≡ None → IsAlike apart event
alike apart (events.Plan line) ties none =
    absurd (plan_late apart.book line (passed-parts (seen_of apart) (events.Plan line) none).0)
alike apart events.Go ties none = absurd (go_late apart.book (passed-parts (seen_of apart) events.Go none).0)
alike apart (events.Begin table row) ties none = begin_alike apart table row ties
alike apart (events.Act table name act) ties none =
    let free = (passed-parts (seen_of apart) (events.Act table name act) none).0 in
    act_alike apart table name act ties (act_passed apart.book table name act free).playing
alike apart (events.Time table) ties none =
    let free = (passed-parts (seen_of apart) (events.Time table) none).0 in
    time_alike apart table ties (time_passed apart.book table free).playing
alike apart (events.Settle table) ties none =
    let free = (passed-parts (seen_of apart) (events.Settle table) none).0 in
    settle_alike apart table ties (settle_passed apart.book table free).playing
alike apart events.Stop ties none = stop_alike apart ties
alike apart _ ties none = record { tied = ties.tied; acts = refl }

-- a book and its hands, after an accepted event
abbrev taken_apart : Apart → Event → Apart
taken_apart apart event =
    record { book = book_effect apart.book (hand_for apart.hands event) event; hands = hands_effect apart event }

-- What an accepted event makes of a book and its hands is what it makes of the tournament that they are.
effect_alike : (apart : Apart) (event : Event) → AreTied apart → refusal_of (seen_of apart) event ≡ None
    → seen_of (taken_apart apart event) ≡ play_effect (seen_of apart) event
effect_alike apart event ties none =
    let same = (alike apart event ties none).acts in
    let hand = hand_for-read apart.book apart.hands event ties.tied in
    cc (same, hand)

-- A book and its hands after an event, beside the tournament after it.
pub record AreAfter (after : Apart) (play : PlayState) : Type 0 where
  pub ties : AreTied after
  pub seen : seen_of after ≡ play

after_alike : (apart : Apart) (event : Event) → AreTied apart
    → AreAfter (after_apart apart event) (play_after (seen_of apart) event)
after_alike apart event ties = by_refusal (refusal_of (seen_of apart) event) refl
  where
    by_refusal : (found : Option Refusal) → refusal_of (seen_of apart) event ≡ found
        → AreAfter (after_apart apart event) (play_after (seen_of apart) event)
    by_refusal None is =
        let refused = sym (refused_alike apart event ties) ∙ is in
        let same = alike apart event ties is in
        let seen = effect_alike apart event ties is in
        let valid = subst IsValidPlay (sym seen) (play_keeps (seen_of apart) event ties.valid is) in
        rw (refused, is) (record { ties = record { tied = same.tied; valid = valid }; seen = seen })
    by_refusal (Some refusal) is =
        let refused = sym (refused_alike apart event ties) ∙ is in
        rw (refused, is) (record { ties = ties; seen = refl })

-- A book and its hands answer any events as the tournament that they are.
answers_alike : (apart : Apart) (events : List Event) → AreTied apart
    → answers_apart apart events ≡ answers_in_play (seen_of apart) events
answers_alike apart [] ties = refl
answers_alike apart (event ∷ events) ties =
    let after = after_alike apart event ties in
    let later = answers_alike (after_apart apart event) events after.ties in
    let play = ap (λ (play : PlayState). answers_in_play play events) after.seen in
    let first = ap answered (sym (refused_alike apart event ties)) in
    cc (first, later ∙ play)

-- A book and its hands run over any events as the tournament that they are.
runs_alike : (apart : Apart) (events : List Event) → AreTied apart
    → seen_of (run_apart apart events) ≡ run_in_play (seen_of apart) events
runs_alike apart [] ties = refl
runs_alike apart (event ∷ events) ties =
    let after = after_alike apart event ties in
    runs_alike (after_apart apart event) events after.ties
    ∙ ap (λ (play : PlayState). run_in_play play events) after.seen

-- A book before any entry and no hand are the tournament before any entry.
first_alike : (plan : PlanTerms) → is_right plan ≡ true → AreAfter (first_apart plan) (first_play plan)
first_alike plan right =
    let acts = map_empty acts_of (plan.tables + 1) None in
    let seen : seen_of (first_apart plan) ≡ first_play plan =
    ap (λ (acts : List (List ActOf)). record { book = first_book plan; acts = acts }) acts in
    let valid = subst IsValidPlay (sym seen) (valid_first_play plan right) in
    record { ties = record { tied = map_empty start_of (plan.tables + 1) None; valid = valid }; seen = seen }

-- They run over any events as it does.
pub first_runs_alike : (plan : PlanTerms) (events : List Event) → is_right plan ≡ true
    → seen_of (run_apart (first_apart plan) events) ≡ run_in_play (first_play plan) events
first_runs_alike plan events right =
    let first = first_alike plan right in
    runs_alike (first_apart plan) events first.ties
    ∙ ap (λ (play : PlayState). run_in_play play events) first.seen

-- A book before any entry and no hand answer any events as the tournament before any entry.
pub first_answers_alike : (plan : PlanTerms) (events : List Event) → is_right plan ≡ true
    → answers_apart (first_apart plan) events ≡ answers_in_play (first_play plan) events
first_answers_alike plan events right =
    let first = first_alike plan right in
    answers_alike (first_apart plan) events first.ties
    ∙ ap (λ (play : PlayState). answers_in_play play events) first.seen

-- the state of a tournament whose plan is whole
abbrev whole : Draft → PlayState → ℕ → State
whole draft play count = record { draft = draft; play = Some play; accepted = count }

-- Once the plan is whole, a tournament is answered as its book and its acts are.
answered_in_play : (draft : Draft) (play : PlayState) (count : ℕ) (events : List Event)
    → answers (whole draft play count) events ≡ answers_in_play play events
answered_in_play draft play count [] = refl
answered_in_play draft play count (event ∷ events) =
    ap (◌∷◌ (answered (refusal_of play event)))
    (by_refusal (refusal_of play event) (λ play count. answered_in_play draft play count events))
  where
    before : State
    before = whole draft play count

    by_refusal : (found : Option Refusal)
        → ((play : PlayState) (count : ℕ) → answers (whole draft play count) events ≡ answers_in_play play events)
        → answers (if is_accepted (answered found) then accepted before event else before) events
        ≡ answers_in_play (if is_none found then play_effect play event else play) events
    by_refusal None rest = rest (play_effect play event) (count + 1)
    by_refusal (Some refusal) rest = rest play count

-- Once the plan is whole, a tournament runs as its book and its acts do.
ran_in_play : (draft : Draft) (play : PlayState) (count : ℕ) (events : List Event)
    → (run (whole draft play count) events).play ≡ Some (run_in_play play events)
ran_in_play draft play count [] = refl
ran_in_play draft play count (event ∷ events) =
    by_refusal (refusal_of play event) (λ play count. ran_in_play draft play count events)
  where
    before : State
    before = whole draft play count

    by_refusal : (found : Option Refusal)
        → ((play : PlayState) (count : ℕ) → (run (whole draft play count) events).play ≡ Some (run_in_play play events))
        → (run (if is_accepted (answered found) then accepted before event else before) events).play
        ≡ Some (run_in_play (if is_none found then play_effect play event else play) events)
    by_refusal None rest = rest (play_effect play event) (count + 1)
    by_refusal (Some refusal) rest = rest play count

begun : (state : State) → state.play ≡ None → answer_to state events.Go ≡ Ok
    → state_after state events.Go ≡ whole state.draft (first_play (plan_of state.draft)) (state.accepted + 1)
begun state unplanned taken = rw (taken, unplanned) refl

-- The plan of a draft whose end is accepted is right.
plan_made : (before : List Event) → (run first_state before).play ≡ None
    → answer_to (run first_state before) events.Go ≡ Ok → is_right (plan_of (run first_state before).draft) ≡ true
plan_made before unplanned taken =
    let state = run first_state before in
    let complete = go_right (go_fault state.draft) (ap is_accepted (rw unplanned at taken)) in
    right_plan state.draft (valid_events before).draft complete

-- A book before any entry and no hand answer any events as the tournament whose plan was just made whole.
pub tournament_answers_alike : (before later : List Event) → (run first_state before).play ≡ None
    → answer_to (run first_state before) events.Go ≡ Ok
    → answers_apart (first_apart (plan_of (run first_state before).draft)) later
    ≡ answers (state_after (run first_state before) events.Go) later
tournament_answers_alike before later unplanned taken =
    let state = run first_state before in
    let after = ap (λ (state : State). answers state later) (begun state unplanned taken) in
    let play = answered_in_play state.draft (first_play (plan_of state.draft)) (state.accepted + 1) later in
    first_answers_alike (plan_of state.draft) later (plan_made before unplanned taken) ∙ sym (after ∙ play)

-- They run over any events as that tournament does.
pub tournament_runs_alike : (before later : List Event) → (run first_state before).play ≡ None
    → answer_to (run first_state before) events.Go ≡ Ok
    → (run (state_after (run first_state before) events.Go) later).play
    ≡ Some (seen_of (run_apart (first_apart (plan_of (run first_state before).draft)) later))
tournament_runs_alike before later unplanned taken =
    let state = run first_state before in
    let after = ap (λ (state : State). (run state later).play) (begun state unplanned taken) in
    let play = ran_in_play state.draft (first_play (plan_of state.draft)) (state.accepted + 1) later in
    after ∙ (play ∙ ap Some (sym (first_runs_alike (plan_of state.draft) later (plan_made before unplanned taken))))

-- They report what that tournament does.
pub tournament_reports_alike : (before later : List Event) → (run first_state before).play ≡ None
    → answer_to (run first_state before) events.Go ≡ Ok
    → report_of (run (state_after (run first_state before) events.Go) later)
    ≡ book_report (run_apart (first_apart (plan_of (run first_state before).draft)) later).book
tournament_reports_alike before later unplanned taken =
    ap (λ (play : Option PlayState). option_map_or (λ play. book_report play.book) play empty_report)
    (tournament_runs_alike before later unplanned taken)
