-- Lists with one order: where every event of the one is accepted, every event of the other is, and both end in the same
-- state.
use Rattle.std.proofs.Common.{◌≡◌, ◌∙◌, refl, sym, ap, subst, ℕ, Bool, true, false, List, [], ◌∷◌, ◌++◌}
use Rattle.std.specs.Prelude.{not, filter, Option, Some, None}
use Rattle.std.proofs.lemmas.Bool.{and_parts, and_from, not-true}
use Rattle.tournament_events.specs.declared.event.Event.{Event}
use Rattle.tournament_rules.specs.States.{State, first_state, act_table, answer_to, is_accepted, state_after, run}
use Rattle.tournament_rules.specs.Valid.{IsValidState}
use Rattle.tournament_rules.proofs.Steps.{valid_state_after, valid_first_state, valid_events}
use Rattle.tournament_laws.specs.Orders.{is_of_hands, HaveOneOrder}
use Rattle.tournament_laws.specs.Accepted.{are_accepted}
use Rattle.tournament_laws.proofs.Lists.{none_pass, split_at, none_before, filter-taken_out}
use Rattle.tournament_laws.proofs.InStates.{has_key, exchanged_after, exchanged_before, act_of_hands, of_book, exchange}

-- Every event of a list is accepted, and the state after it is this one.
record EndsIn (state : State) (events : List Event) (end : State) : Type 0 where
  accepted : are_accepted state events ≡ true
  after : run state events ≡ end

-- An event that has no key in common with those before it may be made first.
made_first : (state : State) (front back : List Event) (event : Event) → IsValidState state
    → ((key : Option ℕ) → has_key key event ≡ true → none_pass (has_key key) front ≡ true)
    → are_accepted state (front ++ event ∷ back) ≡ true
    → EndsIn state (event ∷ front ++ back) (run state (front ++ event ∷ back))
made_first state [] back event valid apart accepted = record { accepted = accepted; after = refl }
made_first state (first ∷ front) back event valid apart accepted =
    let parts = and_parts (is_accepted (answer_to state first))
    (are_accepted (state_after state first) (front ++ event ∷ back)) accepted in
    let later = made_first (state_after state first) front back event (valid_state_after state first valid)
    (λ key his. (and_parts (not (has_key key first)) (none_pass (has_key key) front) (apart key his)).1) parts.1 in
    let his = and_parts (is_accepted (answer_to (state_after state first) event))
    (are_accepted (state_after (state_after state first) event) (front ++ back)) later.accepted in
    let changed = exchange state first event valid (λ key hers. apart_too key hers (apart key)) parts.0 his.0 in
    record {
      accepted = and_from _ _ changed.first (and_from _ _ changed.second
          (subst (λ (state : State). are_accepted state (front ++ back) ≡ true) changed.same his.1));
      after = ap (λ (state : State). run state (front ++ back)) (sym changed.same) ∙ later.after;
    }
  where
    apart_too : (key : Option ℕ) → has_key key first ≡ true
        → (has_key key event ≡ true → none_pass (has_key key) (first ∷ front) ≡ true)
        → has_key key event ≡ false
    apart_too key hers none = by_test (has_key key event) none
      where
        by_test : (b : Bool) → (b ≡ true → none_pass (has_key key) (first ∷ front) ≡ true) → b ≡ false
        by_test true none =
            let parts = and_parts (not (has_key key first)) (none_pass (has_key key) front) (none refl) in
            let differs = not-true (has_key key first) parts.0 in
            absurd cc
        by_test false none = refl

-- Each event has a key.
a_key : (event : Event) → (key : Option ℕ) × (has_key key event ≡ true)
a_key event = by_table (act_table event) refl
  where
    by_table : (table : Option ℕ) → act_table event ≡ table → (key : Option ℕ) × (has_key key event ≡ true)
    by_table None is = (None, of_book event is)
    by_table (Some table) is = (Some table, act_of_hands table event is)

-- Two lists of which each key keeps the same.
abbrev KeepAlike : List Event → List Event → Type 0
KeepAlike one other = (key : Option ℕ) → filter (has_key key) one ≡ filter (has_key key) other

-- A list has no event where another with one order has none.
no_event : (one : List Event) → KeepAlike one [] → one ≡ []
no_event [] alike = refl
no_event (event ∷ one) alike =
    let his = a_key event in
    let kept : event ∷ filter (has_key his.0) one ≡ [] = rw his.1 at (alike his.0) in
    absurd cc

-- Lists with one order end in the same state.
ends_alike : (other one : List Event) (state : State) → IsValidState state → KeepAlike one other
    → are_accepted state one ≡ true → EndsIn state other (run state one)
ends_alike [] one state valid alike accepted =
    let none = no_event one alike in
    record { accepted = refl; after = ap (run state) (sym none) }
ends_alike (event ∷ other) one state valid alike accepted =
    let his = a_key event in
    let kept : filter (has_key his.0) one ≡ event ∷ filter (has_key his.0) other = alike his.0 ∙ rw his.1 refl in
    let split = split_at (has_key his.0) one event (filter (has_key his.0) other) kept in
    by_split his.0 his.1 split.front split.back split.none split.is
    (λ rest. ends_alike other rest (state_after state event) (valid_state_after state event valid))
  where
    by_split : (key : Option ℕ) → has_key key event ≡ true → (front back : List Event)
        → none_pass (has_key key) front ≡ true → one ≡ front ++ event ∷ back
        → ((rest : List Event) → KeepAlike rest other → are_accepted (state_after state event) rest ≡ true
        → EndsIn (state_after state event) other (run (state_after state event) rest))
        → EndsIn state (event ∷ other) (run state one)
    by_split key his front back none is later =
        let same : KeepAlike (front ++ event ∷ back) (event ∷ other) =
        subst (λ (one : List Event). KeepAlike one (event ∷ other)) is alike in
        let apart : (key : Option ℕ) → has_key key event ≡ true → none_pass (has_key key) front ≡ true =
        λ own hers. none_before (has_key own) (has_key key) front back event (filter (has_key own) other) none his
        (same own ∙ rw hers refl) in
        let first = made_first state front back event valid apart
        (subst (λ (one : List Event). are_accepted state one ≡ true) is accepted) in
        let parts = and_parts (is_accepted (answer_to state event))
        (are_accepted (state_after state event) (front ++ back)) first.accepted in
        let rest = later (front ++ back)
        (λ own. filter-taken_out (has_key own) front back event other (apart own) (same own)) parts.1 in
        record {
          accepted = and_from _ _ parts.0 rest.accepted;
          after = rest.after ∙ (first.after ∙ ap (run state) (sym is));
        }

-- Lists of events of the book and of hands that have one order keep alike by each key.
keep_alike : (one other : List Event) → HaveOneOrder one other → KeepAlike one other
keep_alike one other order None = order.book
keep_alike one other order (Some table) = order.hands table

-- Where every event of the one list is accepted, every event of the other is.
pub one_order-accepted : (one other : List Event) → HaveOneOrder one other → are_accepted first_state one ≡ true
    → are_accepted first_state other ≡ true
one_order-accepted one other order accepted =
    (ends_alike other one first_state valid_first_state (keep_alike one other order) accepted).accepted

-- Both end in the same state.
pub one_order-after : (one other : List Event) → HaveOneOrder one other → are_accepted first_state one ≡ true
    → run first_state one ≡ run first_state other
one_order-after one other order accepted =
    sym (ends_alike other one first_state valid_first_state (keep_alike one other order) accepted).after

-- What holds of the one where it holds of the other, and the other way round, is equal.
both_ways : (one other : Bool) → (one ≡ true → other ≡ true) → (other ≡ true → one ≡ true) → one ≡ other
both_ways true other there back = sym (there refl)
both_ways false true there back = back refl
both_ways false false there back = refl

-- Two neighbors after which a list ends.
pub neighbors-accepted : (before : List Event) (act other : Event) (table : ℕ) → act_table act ≡ Some table
    → is_of_hands table other ≡ false
    → are_accepted (run first_state before) (act ∷ other ∷ [])
    ≡ are_accepted (run first_state before) (other ∷ act ∷ [])
neighbors-accepted before act other table at apart = both_ways _ _
    (λ accepted.
    let parts = and_parts _ _ accepted in
    let changed = exchanged_after state table act other valid at apart parts.0 (and_parts _ _ parts.1).0 in
    and_from _ _ changed.first (and_from _ _ changed.second refl))
    (λ accepted.
    let parts = and_parts _ _ accepted in
    let changed = exchanged_before state table act other valid at apart parts.0 (and_parts _ _ parts.1).0 in
    and_from _ _ changed.first (and_from _ _ changed.second refl))
  where
    state : State
    state = run first_state before

    valid : IsValidState state
    valid = valid_events before

-- The state after them is the same.
pub neighbors-after : (before : List Event) (act other : Event) (table : ℕ) → act_table act ≡ Some table
    → is_of_hands table other ≡ false → are_accepted (run first_state before) (act ∷ other ∷ []) ≡ true
    → run (run first_state before) (act ∷ other ∷ []) ≡ run (run first_state before) (other ∷ act ∷ [])
neighbors-after before act other table at apart accepted =
    let parts = and_parts _ _ accepted in
    (exchanged_after (run first_state before) table act other (valid_events before) at apart parts.0
    (and_parts _ _ parts.1).0).same
