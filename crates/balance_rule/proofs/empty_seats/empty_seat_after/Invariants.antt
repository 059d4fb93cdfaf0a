use Rattle.std.proofs.Common.{◌≡◌, ◌-◌, not}
use Rattle.std.specs.Prelude.{find}
use Rattle.rulebook.specs.Seats.{seat_after, walk}
use Rattle.button_blinds.specs.SeatSets.{has_seat}
use Rattle.balance_rule.specs.EmptySeats.{first_after}
use Rattle.balance_rule.proofs.empty_seats.empty_seat_after.Given as goal

-- What is left of the walk finds the seat that the whole walk finds.
abbrev pub invariant-loop-step : goal.invariant-loop-step
invariant-loop-step l =
    find (λ other. not (has_seat l.taken other)) (walk (seat_after l.seats) (l.seats - l._step) l.next)
    ≡ first_after l.seats (λ other. not (has_seat l.taken other)) l.seat
