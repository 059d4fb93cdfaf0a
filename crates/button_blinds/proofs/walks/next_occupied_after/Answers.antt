use Rattle.std.proofs.Common.{◌≡◌, ◌∙◌, false, sym}
use Rattle.rulebook.specs.Seats.{seat_after}
use Rattle.rulebook.proofs.Walks.{walk-passed}
use Rattle.button_blinds.specs.SeatSets.{has_seat}
use Rattle.button_blinds.proofs.walks.next_occupied_after.Goals as goal

pub loop-step-preserved : goal.loop-step-preserved
loop-step-preserved c =
    let passed : has_seat c.args.occupied (seat_after c.args.seats c.loop-step.next) ≡ false = cc in
    let left = walk-passed (has_seat c.args.occupied)
    (seat_after c.args.seats) c.args.seats c.loop-step._step c.loop-step.next c.args.seat c.loop-step-test.true
    passed in
    rw c.seat_after-next.ensures.next (sym left ∙ c.loop-step.invariant)
