-- What is counted along a list of events: hands as they begin, and levels.
use Rattle.std.proofs.Common.{◌≡◌, ◌∙◌, refl, ap, ℕ, ◌+◌, ◌≤◌, Bool, true, false, ◌&&◌, List, [], ◌∷◌, length, arith}
use Rattle.std.specs.Prelude.{if◌then◌else◌, Option, Some, None, option_map}
use Rattle.std.specs.Option.{option_map_or, ForSome}
use Rattle.std.proofs.lemmas.List.{get_or-set_same}
use Rattle.level_plan.specs.Drafts.{Draft}
use Rattle.table_engine.specs.declared.start.HandStart.{HandStart}
use Rattle.card_set.specs.declared.card.CardRow.{CardRow}
use Rattle.table_engine.specs.Hands.{HandTerms}
use Rattle.tournament_events.specs.declared.answer.Answer.TheVariants.{Ok, No}
use Rattle.tournament_events.specs.declared.event.Event.{Event}
use Rattle.tournament_events.specs.declared.event.Event.TheVariants as events
use Rattle.tournament_rules.specs.Books.{BookState, start_at}
use Rattle.tournament_rules.specs.Dealing.{next_start}
use Rattle.tournament_rules.specs.Effects.{settled, book_effect}
use Rattle.tournament_rules.specs.Kinds.{is_begin}
use Rattle.tournament_rules.specs.States.{State, PlayState, first_state, hand_about, answer_to, is_accepted, accepted, state_after, run}
use Rattle.tournament_rules.specs.Valid.{IsValid}
use Rattle.tournament_rules.proofs.Steps.{valid_events}
use Rattle.std.proofs.lemmas.Bool.{and_from, le-leb}
use Rattle.level_plan.specs.Items.{is_between}
use Rattle.floor_text.specs.declared.refusal.Refusal.TheVariants.{NoPlan}
use Rattle.tournament_rules.proofs.Begins.{may_begin}
use Rattle.tournament_rules.proofs.Ends.{left-void_first}
use Rattle.tournament_rules.proofs.Fitting.{table_range}
use Rattle.tournament_rules.proofs.Passed.{passed-parts}
use Rattle.tournament_laws.specs.Accepted.{how_many_accepted}
use Rattle.tournament_laws.proofs.Kept.{run_keeps_all}
use Rattle.tournament_rules.proofs.MoveLaws.{after_accepted}

-- how many hands have begun, and none before there is a plan
abbrev begun_in : State → ℕ
begun_in state = option_map_or (λ play. play.book.begun) state.play 0

-- A begin counts one, and no other event of the book does.
begun-effect : (book : BookState) (hand : Option HandTerms) (event : Event)
    → (book_effect book hand event).begun ≡ (if is_begin event then 1 else 0) + book.begun
begun-effect book hand (events.Begin table row) = omega arith
begun-effect book hand (events.Settle table) = by_hand hand
  where
    by_hand : (hand : Option HandTerms) → (option_map_or (settled book) hand book).begun ≡ 0 + book.begun
    by_hand None = omega arith
    by_hand (Some hand) = omega arith
begun-effect book hand events.Stop =
    let same = left-void_first (λ book. book.begun)
    (record { same = λ book table payees. refl }) book book.plan.tables in
    omega (arith, same)
begun-effect book hand _ = omega arith

-- An accepted event counts one where it is a begin.
begun-accepted : (draft : Draft) (play : Option PlayState) (count : ℕ) (event : Event)
    → is_accepted (answer_to (record { draft = draft; play = play; accepted = count }) event) ≡ true
    → begun_in (accepted (record { draft = draft; play = play; accepted = count }) event)
    ≡ (if is_begin event then 1 else 0) + begun_in (record { draft = draft; play = play; accepted = count })
begun-accepted draft None count (events.Begin table row) taken = absurd cc
begun-accepted draft None count events.Go taken = omega arith
begun-accepted draft None count _ taken = omega arith
begun-accepted draft (Some play) count event taken = begun-effect play.book (hand_about play event) event

-- An event counts one where it is a begin that is accepted.
begun-after : (state : State) (event : Event)
    → begun_in (state_after state event)
    ≡ (if is_begin event && is_accepted (answer_to state event) then 1 else 0) + begun_in state
begun-after state event = by_answer (is_accepted (answer_to state event)) refl (is_begin event) refl
  where
    by_answer : (taken : Bool) → is_accepted (answer_to state event) ≡ taken → (begins : Bool) → is_begin event ≡ begins
        → begun_in (if taken then accepted state event else state)
        ≡ (if begins && taken then 1 else 0) + begun_in state
    by_answer true taken true is = rw is at (begun-accepted state.draft state.play state.accepted event taken)
    by_answer true taken false is = rw is at (begun-accepted state.draft state.play state.accepted event taken)
    by_answer false taken true is = omega arith
    by_answer false taken false is = omega arith

-- So many hands more have begun as begins of a list are accepted.
begun-run : (state : State) (events : List Event)
    → begun_in (run state events) ≡ how_many_accepted is_begin state events + begun_in state
begun-run state [] = omega arith
begun-run state (event ∷ events) =
    let first = begun-after state event in
    let rest = begun-run (state_after state event) events in
    omega (arith, first, rest)

-- As many hands have begun as begins were accepted.
pub begun-counted : (events : List Event) (play : PlayState) → (run first_state events).play ≡ Some play
    → play.book.begun ≡ how_many_accepted is_begin first_state events
begun-counted events play is =
    let all = begun-run first_state events in
    let here = ap (λ (play : Option PlayState). option_map_or (λ play. play.book.begun) play 0) is in
    omega (arith, all, here)

-- The hand at a table has the number after the begins that were accepted before it.
abbrev numbered : List Event → ℕ → PlayState → Type 0
numbered before table play = option_map (λ start. start.serial) (start_at play.book.started table)
    ≡ Some (how_many_accepted is_begin first_state before + 1)

-- A hand that begins has the next number.
pub begins-numbered : (before : List Event) (table : ℕ) (row : CardRow)
    → answer_to (run first_state before) (events.Begin table row) ≡ Ok
    → ForSome (state_after (run first_state before) (events.Begin table row)).play (numbered before table)
begins-numbered before table row taken = by_play state.play refl
  where
    state : State
    state = run first_state before

    by_play : (found : Option PlayState) → state.play ≡ found
        → ForSome (state_after state (events.Begin table row)).play (numbered before table)
    by_play None at = let none : No NoPlan ≡ Ok = rw at at taken in absurd cc
    by_play (Some play) at =
        after_accepted (numbered before table) state (events.Begin table row) play at taken (λ none.
        let may = may_begin play.book table row (passed-parts play (events.Begin table row) none).0 in
        let range = table_range 1 play.book.plan.tables table may.there in
        let room = ((valid_events before).play play at).book.tables.room in
        let start = next_start play.book table row.cards in
        let here = get_or-set_same play.book.started table (Some start) None (omega (arith, range.1, room)) in
        ap (option_map (λ (start : HandStart). start.serial)) here
        ∙ ap (λ (count : ℕ). Some (count + 1)) (begun-counted before play at))

-- No event of the book lowers the level.
pub level-effect : (book : BookState) (hand : Option HandTerms) (event : Event)
    → book.level ≤ (book_effect book hand event).level
level-effect book hand (events.Settle table) = by_hand hand
  where
    by_hand : (hand : Option HandTerms) → book.level ≤ (option_map_or (settled book) hand book).level
    by_hand None = omega arith
    by_hand (Some hand) = omega arith
level-effect book hand events.Stop =
    let same = left-void_first (λ book. book.level)
    (record { same = λ book table payees. refl }) book book.plan.tables in
    omega (arith, same)
level-effect book hand _ = omega arith

-- The plan stays.
pub plan-effect : (book : BookState) (hand : Option HandTerms) (event : Event)
    → (book_effect book hand event).plan ≡ book.plan
plan-effect book hand (events.Settle table) = by_hand hand
  where
    by_hand : (hand : Option HandTerms) → (option_map_or (settled book) hand book).plan ≡ book.plan
    by_hand None = refl
    by_hand (Some hand) = refl
plan-effect book hand events.Stop =
    left-void_first (λ book. book.plan) (record { same = λ book table payees. refl }) book book.plan.tables
plan-effect book hand _ = refl

-- The level never falls.
pub level-run : (state : State) (events : List Event) (earlier later : PlayState) → state.play ≡ Some earlier
    → (run state events).play ≡ Some later → earlier.book.level ≤ later.book.level
level-run state events earlier later before after =
    run_keeps_all (λ play. earlier.book.level ≤ play.book.level)
    (λ play event least. let more = level-effect play.book (hand_about play event) event in omega (arith, least, more))
    state events earlier later before after (omega arith)

-- The plan never changes.
pub plan-run : (state : State) (events : List Event) (earlier later : PlayState) → state.play ≡ Some earlier
    → (run state events).play ≡ Some later → later.book.plan ≡ earlier.book.plan
plan-run state events earlier later before after =
    run_keeps_all (λ play. play.book.plan ≡ earlier.book.plan)
    (λ play event same. plan-effect play.book (hand_about play event) event ∙ same)
    state events earlier later before after refl

-- The level is one of the plan.
pub level_listed : (book : BookState) → IsValid book → is_between 1 (length book.plan.blinds) book.level ≡ true
level_listed book valid =
    and_from _ _ (le-leb 1 book.level valid.plan.first) (le-leb book.level (length book.plan.blinds) valid.plan.last)
