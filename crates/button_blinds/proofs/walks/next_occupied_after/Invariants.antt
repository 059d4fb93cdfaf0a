use Rattle.std.proofs.Common.{◌≡◌, ◌-◌}
use Rattle.std.specs.Prelude.{find, unwrap_or}
use Rattle.rulebook.specs.Seats.{seat_after, walk, next_occupied_after}
use Rattle.button_blinds.specs.SeatSets.{has_seat}
use Rattle.button_blinds.proofs.walks.next_occupied_after.Given as goal

-- What is left of the walk finds the seat that the whole walk finds.
abbrev pub invariant-loop-step : goal.invariant-loop-step
invariant-loop-step l =
    unwrap_or (find (has_seat l.occupied) (walk (seat_after l.seats) (l.seats - l._step) l.next)) l.seat
    ≡ next_occupied_after l.seats (has_seat l.occupied) l.seat
