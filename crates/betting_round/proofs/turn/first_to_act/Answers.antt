use Rattle.std.proofs.Common.{◌∙◌, sym}
use Rattle.rulebook.specs.Seats.{seat_after}
use Rattle.rulebook.proofs.Walks.{find_passed}
use Rattle.betting_round.specs.WhoIsDue.{is_there, may_be_due, player_at}
use Rattle.betting_round.proofs.turn.first_to_act.Goals as goal

pub loop-step-preserved : goal.loop-step-preserved
loop-step-preserved c =
    rw c.seat_after-seat.ensures.next
    (c.loop-step.invariant
    ∙ find_passed (λ seat. is_there (may_be_due c.args.level) (player_at c.args.players.now seat))
    (seat_after c.args.seats) c.args.seats c.loop-step._step c.loop-step.seat c.loop-step-test.true
    (rw (← c.seat_after-seat.ensures.next) (sym c.may_be_due.ensures ∙ c.if-may_be_due.false)))
