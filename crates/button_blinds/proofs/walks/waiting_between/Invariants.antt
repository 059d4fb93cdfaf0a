use Rattle.std.proofs.Common.{◌≡◌, ◌-◌}
use Rattle.rulebook.specs.Seats.{seat_after, walk}
use Rattle.button_blinds.specs.SeatSets.{with_seats}
use Rattle.button_blinds.specs.Marks.{players_before, waiting_between}
use Rattle.button_blinds.proofs.walks.waiting_between.Given as goal

-- Those who wait so far, with the players that are left of the walk, are all who wait.
abbrev pub invariant-loop-step : goal.invariant-loop-step
invariant-loop-step l =
    with_seats l.waiting (players_before l.occupied l.small (walk (seat_after l.seats) (l.seats - l._step) l.seat))
    ≡ waiting_between l.occupied l.seats l.button l.small
