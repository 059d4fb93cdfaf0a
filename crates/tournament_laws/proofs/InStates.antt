-- Two neighbors of which one is an act or a called time, in a state: each is accepted before the other just where it is
-- accepted after it, and the state after both is the same.
use Rattle.std.proofs.Common.{◌≡◌, ◌∙◌, refl, sym, ap, ℕ, ◌+◌, Bool, true, false, inl, inr}
use Rattle.std.specs.Prelude.{Option, Some, None, option_map}
use Rattle.std.specs.Option.{ForSome}
use Rattle.std.proofs.lemmas.Bool.{eq-eqb, cases_Bool}
use Rattle.floor_text.specs.declared.refusal.Refusal.{Refusal}
use Rattle.level_plan.specs.Plans.{PlanTerms, is_right}
use Rattle.level_plan.specs.Drafts.{Draft, IsLawful, go_fault, plan_of, draft_after}
use Rattle.table_engine.specs.declared.start.HandStart.{HandStart}
use Rattle.table_engine.specs.Hands.{HandTerms}
use Rattle.tournament_events.specs.declared.event.Event.{Event}
use Rattle.tournament_events.specs.declared.event.Event.TheVariants as events
use Rattle.tournament_rules.specs.States.{State, PlayState, first_play, act_table, acts_at, hand_at, no_acts, refusal_of, answered, answer_to, play_effect, is_accepted, state_after}
use Rattle.tournament_rules.specs.Valid.{IsValidPlay, IsValidState}
use Rattle.tournament_rules.proofs.Drafts.{right_plan}
use Rattle.tournament_rules.proofs.Entries.{start_none}
use Rattle.tournament_rules.proofs.Plays.{valid_first_play}
use Rattle.tournament_rules.proofs.Steps.{accepted_none, go_right}
use Rattle.tournament_laws.specs.Orders.{is_of_book, is_of_hands}
use Rattle.tournament_rules.proofs.Acting.{by_act, may_act}
use Rattle.tournament_laws.proofs.Exchanged.{refused_alike, act_later, act_sooner, effects_alike}

-- whether an event is one of the book, or of the hands at a table: an event of which this is so of one key
abbrev pub has_key : Option ℕ → Event → Bool
has_key None event = is_of_book event
has_key (Some table) event = is_of_hands table event

-- Two events have no key in common.
abbrev pub AreApart : Event → Event → Type 0
AreApart one other = (key : Option ℕ) → has_key key one ≡ true → has_key key other ≡ false

-- Where two events are accepted in one order, they are so in the other, and the state after them is the same.
pub record IsExchanged (state : State) (one other : Event) : Type 0 where
  pub first : is_accepted (answer_to state other) ≡ true
  pub second : is_accepted (answer_to (state_after state other) one) ≡ true
  pub same : state_after (state_after state one) other ≡ state_after (state_after state other) one

-- a state once there is a plan
abbrev whole : Draft → PlayState → ℕ → State
whole draft play count = record { draft = draft; play = Some play; accepted = count }

-- a state before there is a plan
abbrev unplanned : Draft → ℕ → State
unplanned draft count = record { draft = draft; play = None; accepted = count }

-- After an accepted event.
after_one : (draft : Draft) (play : PlayState) (count : ℕ) (event : Event) → refusal_of play event ≡ None
    → state_after (whole draft play count) event ≡ whole draft (play_effect play event) (count + 1)
after_one draft play count event none = rw none refl

-- Two events that are accepted in either order, and make the same of the tournament.
exchanged : (draft : Draft) (play : PlayState) (count : ℕ) (one other : Event)
    → refusal_of play one ≡ None → refusal_of (play_effect play one) other ≡ None
    → refusal_of play other ≡ None → refusal_of (play_effect play other) one ≡ None
    → play_effect (play_effect play one) other ≡ play_effect (play_effect play other) one
    → IsExchanged (whole draft play count) one other
exchanged draft play count one other free later sooner last same =
    let taken = after_one draft play count one free in
    let twice = after_one draft (play_effect play one) (count + 1) other later in
    let other_taken = after_one draft play count other sooner in
    let other_twice = after_one draft (play_effect play other) (count + 1) one last in
    record {
      first = ap (λ (refusal : Option Refusal). is_accepted (answered refusal)) sooner;
      second = ap (λ (state : State). is_accepted (answer_to state one)) other_taken
          ∙ ap (λ (refusal : Option Refusal). is_accepted (answered refusal)) last;
      same = ap (λ (state : State). state_after state other) taken
          ∙ (twice
          ∙ (ap (λ (play : PlayState). whole draft play (count + 1 + 1)) same
          ∙ (sym other_twice
          ∙ ap (λ (state : State). state_after state one) (sym other_taken))));
    }

-- What is accepted after an accepted event is not refused there.
second_free : (draft : Draft) (play : PlayState) (count : ℕ) (one other : Event) → refusal_of play one ≡ None
    → is_accepted (answer_to (state_after (whole draft play count) one) other) ≡ true
    → refusal_of (play_effect play one) other ≡ None
second_free draft play count one other free taken =
    let after = ap (λ (state : State). is_accepted (answer_to state other)) (after_one draft play count one free) in
    accepted_none (refusal_of (play_effect play one) other) (sym after ∙ taken)

-- The act comes first.
act_first : (draft : Draft) (play : PlayState) (count table : ℕ) (act other : Event) → IsValidPlay play
    → act_table act ≡ Some table → is_of_hands table other ≡ false
    → is_accepted (answered (refusal_of play act)) ≡ true
    → is_accepted (answer_to (state_after (whole draft play count) act) other) ≡ true
    → IsExchanged (whole draft play count) act other
act_first draft play count table act other valid at apart first second =
    let free = accepted_none (refusal_of play act) first in
    let later = second_free draft play count act other free second in
    let sooner = sym (refused_alike play table act other at apart) ∙ later in
    exchanged draft play count act other free later sooner
    (act_later play table act other valid at apart sooner free)
    (effects_alike play table act other valid at apart sooner)

-- The act comes second.
act_second : (draft : Draft) (play : PlayState) (count table : ℕ) (act other : Event) → IsValidPlay play
    → act_table act ≡ Some table → is_of_hands table other ≡ false
    → is_accepted (answered (refusal_of play other)) ≡ true
    → is_accepted (answer_to (state_after (whole draft play count) other) act) ≡ true
    → IsExchanged (whole draft play count) other act
act_second draft play count table act other valid at apart first second =
    let free = accepted_none (refusal_of play other) first in
    let later = second_free draft play count other act free second in
    exchanged draft play count other act free later
    (act_sooner play table act other valid at apart free later)
    (refused_alike play table act other at apart ∙ free)
    (sym (effects_alike play table act other valid at apart free))

-- Before there is a plan no act and no called time is accepted.
no_act : (draft : Draft) (count table : ℕ) (act : Event) → act_table act ≡ Some table
    → is_accepted (answer_to (unplanned draft count) act) ≡ true → ⊥
no_act draft count table = by_act (λ act. is_accepted (answer_to (unplanned draft count) act) ≡ true → ⊥) table
    (λ name act taken. absurd cc) (λ taken. absurd cc)

-- Nor is one directly after the plan is whole, since no hand is played.
no_act_yet : (plan : PlanTerms) (table : ℕ) (act : Event) → is_right plan ≡ true → act_table act ≡ Some table
    → is_accepted (answered (refusal_of (first_play plan) act)) ≡ true → ⊥
no_act_yet plan table act right at taken =
    let may = may_act (first_play plan) table (valid_first_play plan right) act at
    (accepted_none (refusal_of (first_play plan) act) taken) in
    let none : hand_at (first_play plan) table ≡ None =
    ap (λ (start : Option HandStart). option_map {U = HandTerms}
    (λ (start : HandStart). record { start = start; acts = acts_at (no_acts plan.tables) table }) start)
    (start_none (plan.tables + 1) table) in
    let some = may.started in
    absurd cc

-- Nor is one directly after any event before there is a plan.
no_act_after : (draft : Draft) (count table : ℕ) (other act : Event) → IsLawful draft → act_table act ≡ Some table
    → is_accepted (answer_to (unplanned draft count) other) ≡ true
    → is_accepted (answer_to (state_after (unplanned draft count) other) act) ≡ true → ⊥
no_act_after draft count table (events.Plan line) act lawful at first second =
    no_act (draft_after draft line) (count + 1) table act at (rw first at second)
no_act_after draft count table events.Go act lawful at first second =
    no_act_yet (plan_of draft) table act (right_plan draft lawful (go_right (go_fault draft) first)) at
    (rw first at second)
no_act_after draft count table _ act lawful at first second = absurd cc

-- In any state that is valid, with the act first.
pub exchanged_after : (state : State) (table : ℕ) (act other : Event) → IsValidState state
    → act_table act ≡ Some table → is_of_hands table other ≡ false
    → is_accepted (answer_to state act) ≡ true → is_accepted (answer_to (state_after state act) other) ≡ true
    → IsExchanged state act other
exchanged_after state table act other valid at apart first second =
    by_play state.draft state.play state.accepted valid.play first second
  where
    by_play : (draft : Draft) (play : Option PlayState) (count : ℕ) → ForSome play IsValidPlay
        → is_accepted (answer_to (record { draft = draft; play = play; accepted = count }) act) ≡ true
        → is_accepted (answer_to (state_after (record { draft = draft; play = play; accepted = count }) act) other)
        ≡ true
        → IsExchanged (record { draft = draft; play = play; accepted = count }) act other
    by_play draft None count valid first second = absurd (no_act draft count table act at first)
    by_play draft (Some play) count valid first second =
        act_first draft play count table act other (valid play refl) at apart first second

-- In any state that is valid, with the act second.
pub exchanged_before : (state : State) (table : ℕ) (act other : Event) → IsValidState state
    → act_table act ≡ Some table → is_of_hands table other ≡ false
    → is_accepted (answer_to state other) ≡ true → is_accepted (answer_to (state_after state other) act) ≡ true
    → IsExchanged state other act
exchanged_before state table act other valid at apart first second =
    by_play state.draft state.play state.accepted valid.draft valid.play first second
  where
    by_play : (draft : Draft) (play : Option PlayState) (count : ℕ) → IsLawful draft → ForSome play IsValidPlay
        → is_accepted (answer_to (record { draft = draft; play = play; accepted = count }) other) ≡ true
        → is_accepted (answer_to (state_after (record { draft = draft; play = play; accepted = count }) other) act)
        ≡ true
        → IsExchanged (record { draft = draft; play = play; accepted = count }) other act
    by_play draft None count lawful valid first second =
        absurd (no_act_after draft count table other act lawful at first second)
    by_play draft (Some play) count lawful valid first second =
        act_second draft play count table act other (valid play refl) at apart first second

-- An act and a called time are of the hands at their table.
pub act_of_hands : (table : ℕ) (act : Event) → act_table act ≡ Some table → is_of_hands table act ≡ true
act_of_hands table =
    by_act (λ act. is_of_hands table act ≡ true) table (λ name act. eq-eqb table table refl) (eq-eqb table table refl)

-- An event that is no act and no called time is one of the book.
pub of_book : (event : Event) → act_table event ≡ None → is_of_book event ≡ true
of_book (events.Act table name act) none = absurd cc
of_book (events.Time table) none = absurd cc
of_book _ none = refl

-- Two events that have no key in common may change places.
pub exchange : (state : State) (one other : Event) → IsValidState state → AreApart one other
    → is_accepted (answer_to state one) ≡ true → is_accepted (answer_to (state_after state one) other) ≡ true
    → IsExchanged state one other
exchange state one other valid apart first second = by_tables (act_table one) refl (act_table other) refl
  where
    by_tables : (his : Option ℕ) → act_table one ≡ his → (hers : Option ℕ) → act_table other ≡ hers
        → IsExchanged state one other
    by_tables (Some table) at hers there =
        exchanged_after state table one other valid at (apart (Some table) (act_of_hands table one at)) first second
    by_tables None at (Some table) there =
        exchanged_before state table other one valid there (not_of table there) first second
      where
        not_of : (table : ℕ) → act_table other ≡ Some table → is_of_hands table one ≡ false
        not_of table there = elim (cases_Bool (is_of_hands table one)) [
          | inl is ↦
              let his = apart (Some table) is in
              let hers = act_of_hands table other there in
              absurd cc
          | inr differs ↦ differs
        ]
    by_tables None at None there =
        let same = apart None (of_book one at) in
        let his = of_book other there in
        absurd cc
