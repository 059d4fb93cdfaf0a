-- Whose chips an event moves. This project's own.
use Rattle.std.specs.Prelude.{ℕ, Bool, true, false, ◌||◌, List, Option, option_map}
use Rattle.seat_book.specs.declared.seated.Seated.{Seated}
use Rattle.seat_book.specs.Players.{player_of}
use Rattle.tournament_events.specs.declared.event.Event.{Event}
use Rattle.tournament_rules.specs.Kinds.{Kind, Begin, Settle, Stop, kind_of, is_entry, is_race}

-- the stack that the player of a number has at rest, if he is in
abbrev pub stack_at_rest : List Seated → ℕ → Option ℕ
stack_at_rest players number = option_map (λ player. player.stack) (player_of players number)

-- whether events of a kind put chips into a hand or take them out of it
abbrev pub is_begin_or_end : Kind → Bool
is_begin_or_end Begin = true
is_begin_or_end Settle = true
is_begin_or_end Stop = true
is_begin_or_end _ = false

-- whether an event moves chips: a player buys his stack, chips go into a hand or come out of it, or a race is made
abbrev pub moves_chips : Event → Bool
moves_chips event = is_entry event || is_race event || is_begin_or_end (kind_of event)
