use Rattle.std.proofs.Common.{◌≡◌, ◌≤◌, ◌-◌}
use Rattle.std.specs.Prelude.{find, unwrap_or}
use Rattle.rulebook.specs.Seats.{seat_before, walk, nearest_occupied_before}
use Rattle.button_blinds.specs.SeatSets.{has_seat}
use Rattle.button_blinds.proofs.walks.nearest_occupied_before.Given as goal

-- What is left of the walk finds the seat that the whole walk finds.
abbrev pub invariant-loop-step : goal.invariant-loop-step
invariant-loop-step l = record {
  finds : unwrap_or (find (has_seat l.occupied) (walk (seat_before l.seats) (l.seats - l._step) l.next)) l.seat
      ≡ nearest_occupied_before l.seats (has_seat l.occupied) l.seat;
  within : l.next ≤ l.seats;
}
