-- What is found of a state before an event is what has to be known of it.
use Rattle.std.proofs.Common.{◌≡◌, ◌∙◌, refl, sym, subst, ℕ, true}
use Rattle.std.specs.Prelude.{Option, Some, None, option_map}
use Rattle.std.specs.Option.{ForSome}
use Rattle.table_engine.specs.declared.start.HandStart.{HandStart}
use Rattle.table_engine.specs.Hands.{HandTerms}
use Rattle.table_engine.specs.Starts.{IsLawfulStart}
use Rattle.tournament_events.specs.declared.event.Event.{Event}
use Rattle.tournament_events.specs.declared.event.Event.TheVariants as events
use Rattle.tournament_rules.specs.Apart.{hand_refusal}
use Rattle.tournament_rules.specs.States.{State, act_table, answer_to, is_accepted, state_after}
use Rattle.tournament_rules.specs.Valid.{IsValidState}
use Rattle.view_rules.specs.Seen.{hand_in}
use Rattle.floor_view.specs.declared.turns.Turn.{Turn}
use Rattle.floor_view.specs.declared.before.Before.{Before}
use Rattle.floor_view.specs.declared.before.Before.TheVariants as befores
use Rattle.floor_view.specs.Found.{IsFound, IsSettledStart, IsTurnAt}
use Rattle.floor_view.specs.Kinds.{is_told_after}
use Rattle.floor_view.specs.Turns.{IsTurnOf, act_made}
use Rattle.floor_view.proofs.Acted.{IsTold, some-turn, told-turn}
use Rattle.floor_view.proofs.Settled.{some-settled}

-- An act or a called time comes to what was found of it.
pub turn-found : (state : State) (table : ℕ) (event : Event) (found : Option Turn) (turn : Turn)
    → act_table event ≡ Some table
    → ((hand : HandTerms) → hand_in state table ≡ Some hand → hand_refusal event hand ≡ None
    → IsTurnOf hand (act_made event hand) found)
    → found ≡ Some turn → IsFound state event (befores.Turn table turn)
turn-found state table event found turn at right some = record {
  here = at;
  comes = λ hand was free. subst (λ (found : Option Turn). IsTurnOf hand (act_made event hand) found) some
      (right hand was free);
}

-- One of which nothing was found is refused.
pub turn-missed : (state : State) (table : ℕ) (event : Event) (found : Option Turn) → IsValidState state
    → act_table event ≡ Some table
    → ((hand : HandTerms) → hand_in state table ≡ Some hand → hand_refusal event hand ≡ None
    → IsTurnOf hand (act_made event hand) found)
    → found ≡ None → IsFound state event befores.Nothing
turn-missed state table event found valid at right none =
    λ taken. absurd (some-turn state table event found valid at taken right none)

-- The hand of a settle began as it was found.
pub start-found : (state : State) (table : ℕ) (found : Option HandStart) (start : HandStart)
    → found ≡ option_map (λ hand. hand.start) (hand_in state table) → ForSome found IsLawfulStart
    → found ≡ Some start → IsFound state (events.Settle table) (befores.Start start)
start-found state table found start is lawful some = record {
  table = table;
  settle = refl;
  began = sym is ∙ some;
  lawful = lawful start some;
}

-- A settle of which nothing was found is refused.
pub start-missed : (state : State) (table : ℕ) (found : Option HandStart) → IsValidState state
    → found ≡ option_map (λ hand. hand.start) (hand_in state table)
    → found ≡ None → IsFound state (events.Settle table) befores.Nothing
start-missed state table found valid is none =
    λ taken. absurd (some-settled state table (events.Settle table) found valid refl taken is none)

-- It is an act or a called time where that was found.
pub found-turn : (state : State) (event : Event) (before : Before) (table : ℕ) (turn : Turn)
    → IsFound state event before → before ≡ befores.Turn table turn → IsTurnAt state event table turn
found-turn state event before table turn found is = subst (IsFound state event) is found

-- It is a settle where that was found.
pub found-start : (state : State) (event : Event) (before : Before) (start : HandStart)
    → IsFound state event before → before ≡ befores.Start start → IsSettledStart state event start
found-start state event before start found is = subst (IsFound state event) is found

-- It needs no more where nothing was found.
pub found-nothing : (state : State) (event : Event) (before : Before)
    → IsFound state event before → before ≡ befores.Nothing → is_accepted (answer_to state event) ≡ true
    → is_told_after event ≡ true
found-nothing state event before found is = subst (IsFound state event) is found

-- What was found of an act or a called time is told of it once it is made.
pub told-found : (state after : State) (event : Event) (table : ℕ) (turn : Turn) → IsValidState state
    → IsTurnAt state event table turn → is_accepted (answer_to state event) ≡ true → after ≡ state_after state event
    → IsTold state after table event turn
told-found state after event table turn valid found taken is =
    told-turn state after table event (Some turn) turn valid found.here taken is found.comes refl
