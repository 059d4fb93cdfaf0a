-- The states to which lines of the first edition lead: no level has an ante, there is no fixed limit, and nobody entered
-- again.
use Rattle.std.proofs.Common.{◌≡◌, ◌∙◌, refl, sym, ap, subst, ℕ, zero, suc, ◌+◌, ◌-◌, ◌==◌, Bool, true, false, cond, List, [], ◌∷◌}
use Rattle.std.specs.Prelude.{filter, slice_get, slice_set, unwrap_or, if◌then◌else◌, Option, Some, None}
use Rattle.std.specs.List.{list_all}
use Rattle.std.specs.Option.{option_map_or, ForSome}
use Rattle.std.proofs.lemmas.Bool.{and_from, eqb-true}
use Rattle.rulebook.proofs.Passing.{list_all-get}
use Rattle.seat_book.proofs.Numbers.{list_all-joined}
use Rattle.level_plan.specs.declared.line.PlanLine.{PlanLine}
use Rattle.level_plan.specs.declared.line.PlanLine.TheVariants as lines
use Rattle.level_plan.specs.declared.plan.Blind.{Blind}
use Rattle.level_plan.specs.Plans.{PlanTerms, no_level}
use Rattle.level_plan.specs.Drafts.{Draft, draft_after, plan_of}
use Rattle.table_engine.specs.declared.start.HandStart.{HandStart}
use Rattle.table_engine.specs.Hands.{HandTerms}
use Rattle.tournament_events.specs.declared.event.Event.{Event as EventOfLine}
use Rattle.tournament_events.specs.declared.event.Event.TheVariants as events
use Rattle.tournament_rules.specs.Books.{BookState, blind_now, start_at}
use Rattle.tournament_rules.specs.Dealing.{next_start}
use Rattle.tournament_rules.specs.Effects.{ended, void_first, first_book, book_effect}
use Rattle.tournament_rules.specs.States.{State, PlayState, first_state, hand_about, answer_to, play_effect, is_accepted, accepted, state_after}
use Rattle.tournament_rules.proofs.Ends.{left-void_first}
use Rattle.tournament_rules.proofs.Entries.{start_none}
use Rattle.tournament_rules.proofs.Plays.{some_so}
use Rattle.first_edition.specs.First.{is_first_event, IsFirstDraft, IsFirstBook, IsFirstState}
use Rattle.first_edition.specs.FirstHands.{IsFirstStart}

-- Two tests that agree on each item leave the same items.
pub filter_each : {A : Type 0} (one other : A → Bool) → ((item : A) → one item ≡ other item) → (items : List A)
    → filter one items ≡ filter other items
filter_each one other same [] = refl
filter_each one other same (item ∷ items) =
    ap (λ (b : Bool). cond b (item ∷ filter one items) (filter one items)) (same item)
    ∙ ap (λ rest. cond (other item) (item ∷ rest) rest) (filter_each one other same items)

-- What is so of each start, and of a new one, is so of each once the new one is set.
starts_set : (started : List (Option HandStart)) (table : ℕ) (new : Option HandStart) → ForSome new IsFirstStart
    → ((other : ℕ) → ForSome (start_at started other) IsFirstStart)
    → (other : ℕ) → ForSome (start_at (slice_set started table new) other) IsFirstStart
starts_set [] table new so each other = each other
starts_set (start ∷ started) zero new so each zero = so
starts_set (start ∷ started) zero new so each (suc other) = each (suc other)
starts_set (start ∷ started) (suc table) new so each zero = each 0
starts_set (start ∷ started) (suc table) new so each (suc other) =
    starts_set started table new so (λ other. each (suc other)) other

no_start : ForSome None IsFirstStart
no_start = λ start is. absurd cc

-- The current level has no ante.
ante_now : (book : BookState) → list_all (λ blind. blind.ante == 0) book.plan.blinds ≡ true
    → (blind_now book).ante ≡ 0
ante_now book antes = by_level (slice_get book.plan.blinds (book.level - 1)) refl
  where
    by_level : (found : Option Blind) → slice_get book.plan.blinds (book.level - 1) ≡ found
        → (unwrap_or found no_level).ante ≡ 0
    by_level None is = refl
    by_level (Some blind) is =
        eqb-true blind.ante 0 (list_all-get (λ blind. blind.ante == 0) book.plan.blinds (book.level - 1) blind antes is)

-- An event of the first edition leaves the number of re-entries, and each leaves the plan.
reentries-effect : (book : BookState) (hand : Option HandTerms) (event : EventOfLine) → is_first_event event ≡ true
    → (book_effect book hand event).reentries ≡ book.reentries
reentries-effect book hand (events.Reenter name table seat) kind = absurd cc
reentries-effect book None (events.Settle table) kind = refl
reentries-effect book (Some hand) (events.Settle table) kind = refl
reentries-effect book hand events.Stop kind =
    left-void_first (λ book. book.reentries) (record { same = λ book table payees. refl }) book book.plan.tables
reentries-effect book hand _ kind = refl

plan-effect : (book : BookState) (hand : Option HandTerms) (event : EventOfLine)
    → (book_effect book hand event).plan ≡ book.plan
plan-effect book None (events.Settle table) = refl
plan-effect book (Some hand) (events.Settle table) = refl
plan-effect book hand events.Stop =
    left-void_first (λ book. book.plan) (record { same = λ book table payees. refl }) book book.plan.tables
plan-effect book hand _ = refl

-- The hands that are played then start as in the first edition.
starts-void : (book : BookState) (tables : ℕ) → ((other : ℕ) → ForSome (start_at book.started other) IsFirstStart)
    → (other : ℕ) → ForSome (start_at (void_first book tables).started other) IsFirstStart
starts-void book zero each = each
starts-void book (suc tables) each =
    by_start (start_at (void_first book tables).started (suc tables)) (starts-void book tables each)
  where
    by_start : (found : Option HandStart)
        → ((other : ℕ) → ForSome (start_at (void_first book tables).started other) IsFirstStart)
        → (other : ℕ) → ForSome (start_at (option_map_or (λ start. ended (void_first book tables) (suc tables)
        start.seats) found (void_first book tables)).started other) IsFirstStart
    by_start None each = each
    by_start (Some start) each = starts_set (void_first book tables).started (suc tables) None no_start each

starts-effect : (book : BookState) (hand : Option HandTerms) (event : EventOfLine) → IsFirstBook book
    → (other : ℕ) → ForSome (start_at (book_effect book hand event).started other) IsFirstStart
starts-effect book hand (events.Begin table row) first =
    starts_set book.started table (Some (next_start book table row.cards))
    (some_so IsFirstStart (next_start book table row.cards)
    (record { ante = ante_now book first.antes; cap = first.cap })) first.starts
starts-effect book None (events.Settle table) first = first.starts
starts-effect book (Some hand) (events.Settle table) first =
    starts_set book.started hand.start.table None no_start first.starts
starts-effect book hand events.Stop first = starts-void book book.plan.tables first.starts
starts-effect book hand _ first = first.starts

book_first : (book : BookState) (hand : Option HandTerms) (event : EventOfLine) → IsFirstBook book
    → is_first_event event ≡ true → IsFirstBook (book_effect book hand event)
book_first book hand event first kind =
    let plan = plan-effect book hand event in
    record {
      reentries = reentries-effect book hand event kind ∙ first.reentries;
      antes = ap (λ (plan : PlanTerms). list_all (λ blind. blind.ante == 0) plan.blinds) plan ∙ first.antes;
      cap = ap (λ (plan : PlanTerms). plan.cap) plan ∙ first.cap;
      starts = starts-effect book hand event first;
    }

-- A line of a plan gives no ante and no fixed limit.
draft_first : (draft : Draft) (line : PlanLine) → IsFirstDraft draft → is_first_event (events.Plan line) ≡ true
    → IsFirstDraft (draft_after draft line)
draft_first draft (lines.Limit n) first kind = absurd cc
draft_first draft (lines.Blinds blind) first kind = record {
  antes = list_all-joined (λ blind. blind.ante == 0) draft.blinds (blind ∷ []) first.antes (and_from _ _ kind refl);
  cap = first.cap;
}
draft_first draft _ first kind = record { antes = first.antes; cap = first.cap }

-- The book with which play begins.
go_first : (draft : Draft) → IsFirstDraft draft → IsFirstBook (first_book (plan_of draft))
go_first draft first = record {
  reentries = refl;
  antes = first.antes;
  cap = ap (λ (cap : Option ℕ). unwrap_or cap 0) first.cap;
  starts = λ table. subst (λ (start : Option HandStart). ForSome start IsFirstStart)
      (sym (start_none ((plan_of draft).tables + 1) table)) no_start;
}

accepted_first : (draft : Draft) (play : Option PlayState) (count : ℕ) (event : EventOfLine) → IsFirstDraft draft
    → ForSome play (λ play. IsFirstBook play.book) → is_first_event event ≡ true
    → IsFirstState (accepted (record { draft = draft; play = play; accepted = count }) event)
accepted_first draft None count (events.Plan line) given first kind =
    record { draft = draft_first draft line given kind; play = λ play is. absurd cc }
accepted_first draft None count events.Go given first kind =
    record { draft = given; play = some_so (λ play. IsFirstBook play.book) _ (go_first draft given) }
accepted_first draft None count _ given first kind = record { draft = given; play = λ play is. absurd cc }
accepted_first draft (Some play) count event given first kind = record {
  draft = given;
  play = some_so (λ play. IsFirstBook play.book) (play_effect play event)
      (book_first play.book (hand_about play event) event (first play refl) kind);
}

-- An event of the first edition leads to such a state from one.
pub first_after : (state : State) (event : EventOfLine) → IsFirstState state → is_first_event event ≡ true
    → IsFirstState (state_after state event)
first_after state event first kind = by_answer (is_accepted (answer_to state event))
  where
    by_answer : (taken : Bool) → IsFirstState (if taken then accepted state event else state)
    by_answer true = accepted_first state.draft state.play state.accepted event first.draft first.play kind
    by_answer false = first

-- The first state is one.
pub state_first : IsFirstState first_state
state_first = record { draft = record { antes = refl; cap = refl }; play = λ play is. absurd cc }
