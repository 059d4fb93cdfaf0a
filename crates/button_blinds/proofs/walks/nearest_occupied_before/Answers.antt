use Rattle.std.proofs.Common.{◌≡◌, ◌∙◌, false, sym}
use Rattle.rulebook.specs.Seats.{seat_before}
use Rattle.rulebook.proofs.Walks.{walk-passed}
use Rattle.button_blinds.specs.SeatSets.{has_seat}
use Rattle.button_blinds.proofs.walks.nearest_occupied_before.Goals as goal

pub loop-step-preserved : goal.loop-step-preserved
loop-step-preserved c =
    let passed : has_seat c.args.occupied (seat_before c.args.seats c.loop-step.next) ≡ false = cc in
    let left = walk-passed (has_seat c.args.occupied)
    (seat_before c.args.seats) c.args.seats c.loop-step._step c.loop-step.next c.args.seat c.loop-step-test.true
    passed in
    record {
      finds = rw c.seat_before-next.ensures.next (sym left ∙ c.loop-step.invariant.finds);
      within = c.seat_before-next.ensures.last;
    }
