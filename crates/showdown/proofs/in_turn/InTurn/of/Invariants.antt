use Rattle.std.proofs.Common.{◌≡◌, ◌≤◌, ◌-◌, ◌++◌, length}
use Rattle.std.specs.Prelude.{filter}
use Rattle.rulebook.specs.Seats.{seat_after, walk}
use Rattle.button_blinds.specs.SeatSets.{has_seat}
use Rattle.showdown.specs.Awards.{in_turn}
use Rattle.showdown.proofs.in_turn.InTurn.of.Given as goal

-- The seats so far, with those that are left of the walk, are all in turn.
abbrev pub invariant-loop-step : goal.invariant-loop-step
invariant-loop-step l = record {
  all : l.order ++ filter (has_seat l.set) (walk (seat_after l.seats) (l.seats - l._step) l.seat)
      ≡ in_turn l.seats l.button l.set;
  few : length l.order ≤ l._step;
}
