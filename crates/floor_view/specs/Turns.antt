-- What an act or a called time comes to. This project's own.
use Rattle.std.specs.Prelude.{◌≡◌, false, Option, Some, None}
use Rattle.table_engine.specs.declared.record.ActOf.{ActOf}
use Rattle.table_engine.specs.Hands.{HandTerms, streets_of}
use Rattle.table_engine.specs.Acts.{done_of_act, time_act}
use Rattle.tournament_events.specs.declared.event.Event.{Event}
use Rattle.tournament_events.specs.declared.event.Event.TheVariants as events
use Rattle.floor_view.specs.declared.turns.Turn.{Turn}

-- the act that an act of a player or a called time makes in a hand
abbrev pub act_made : Event → HandTerms → ActOf
act_made (events.Act table name act) hand = record { name = name; act = act; by_time = false }
act_made event hand = time_act hand

-- This is what an act comes to in a hand.
pub record IsTurn (hand : HandTerms) (act : ActOf) (turn : Turn) : Type 0 where
  pub name : act.name ≡ turn.name
  pub done : done_of_act hand act.name act.act ≡ turn.done
  pub left : (streets_of hand).left ≡ turn.left

-- What an act comes to is found.
abbrev pub IsTurnOf : HandTerms → ActOf → Option Turn → Type 0
IsTurnOf hand act None = ⊥
IsTurnOf hand act (Some turn) = IsTurn hand act turn
