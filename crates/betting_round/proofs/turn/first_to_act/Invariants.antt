use Rattle.std.proofs.Common.{◌≡◌, ◌-◌}
use Rattle.std.specs.Prelude.{find}
use Rattle.rulebook.specs.Seats.{clockwise_after, walk, seat_after}
use Rattle.betting_round.specs.WhoIsDue.{is_there, may_be_due, player_at}
use Rattle.betting_round.proofs.turn.first_to_act.Given as goal

-- what is left of the walk finds the same as the whole
abbrev pub invariant-loop-step : goal.invariant-loop-step
invariant-loop-step l =
    find (λ seat. is_there (may_be_due l.level) (player_at l.players seat)) (clockwise_after l.fn.seats l.fn.after)
    ≡ find (λ seat. is_there (may_be_due l.level) (player_at l.players seat))
    (walk (seat_after l.fn.seats) (l.fn.seats - l._step) l.seat)
