-- What is found of a state before an event. This project's own.
use Rattle.std.specs.Prelude.{◌≡◌, ℕ, true, None, Some, option_map}
use Rattle.table_engine.specs.declared.start.HandStart.{HandStart}
use Rattle.table_engine.specs.Hands.{HandTerms}
use Rattle.table_engine.specs.Starts.{IsLawfulStart}
use Rattle.tournament_events.specs.declared.event.Event.{Event}
use Rattle.tournament_events.specs.declared.event.Event.TheVariants as events
use Rattle.tournament_rules.specs.Apart.{hand_refusal}
use Rattle.tournament_rules.specs.States.{State, act_table, answer_to, is_accepted}
use Rattle.view_rules.specs.Seen.{hand_in}
use Rattle.floor_view.specs.declared.turns.Turn.{Turn}
use Rattle.floor_view.specs.declared.before.Before.{Before}
use Rattle.floor_view.specs.declared.before.Before.TheVariants as befores
use Rattle.floor_view.specs.Kinds.{is_told_after}
use Rattle.floor_view.specs.Turns.{IsTurn, act_made}

-- An event is an act or a called time at a table, and comes to this in each hand there that does not refuse it.
pub record IsTurnAt (state : State) (event : Event) (table : ℕ) (turn : Turn) : Type 0 where
  pub here : act_table event ≡ Some table
  pub comes : (hand : HandTerms) → hand_in state table ≡ Some hand → hand_refusal event hand ≡ None
      → IsTurn hand (act_made event hand) turn

-- An event is a settle, and the hand began so that is played at its table.
pub record IsSettledStart (state : State) (event : Event) (start : HandStart) : Type 0 where
  pub table : ℕ
  pub settle : event ≡ events.Settle table
  pub began : option_map (λ hand. hand.start) (hand_in state table) ≡ Some start
  pub lawful : IsLawfulStart start

-- This is found of a state before an event, and nothing only where no more is needed to tell of it once it is accepted.
abbrev pub IsFound : State → Event → Before → Type 0
IsFound state event (befores.Turn table turn) = IsTurnAt state event table turn
IsFound state event (befores.Start start) = IsSettledStart state event start
IsFound state event befores.Nothing = is_accepted (answer_to state event) ≡ true → is_told_after event ≡ true
