use Rattle.std.proofs.Common.{◌≡◌, ◌∙◌, true, false, sym, ap, arith}
use Rattle.std.specs.Prelude.{◌==◌}
use Rattle.std.proofs.lemmas.Bool.Decides.{nat_tests}
use Rattle.rulebook.specs.Seats.{seat_after}
use Rattle.button_blinds.specs.SeatSets.{has_seat, with_seats}
use Rattle.button_blinds.proofs.PlayersBetween.{players_before-sits, players_before-empty}
use Rattle.button_blinds.proofs.walks.waiting_between.Goals.{then-has, else-has}
use Rattle.button_blinds.proofs.walks.waiting_between.Goals as goal

pub loop-step-preserved : goal.loop-step-preserved
loop-step-preserved c =
    let other : (seat_after c.args.seats c.loop-step.seat == c.args.small) ≡ false =
    rw (← c.seat_after-seat.ensures.next) (grind (arith, nat_tests)) in
    elim c.if-has.branch [
      | then-has w ↦
          let sits : has_seat c.args.occupied (seat_after c.args.seats c.loop-step.seat) ≡ true =
          cc (c.has.ensures, w.if-has.true, c.seat_after-seat.ensures.next) in
          let left = players_before-sits c.args.occupied c.args.small
          (seat_after c.args.seats) c.args.seats c.loop-step._step c.loop-step.seat c.loop-step-test.true other
          sits in
          rw (w.waiting-is, w.with-waiting.ensures.same, c.seat_after-seat.ensures.next)
          (ap (with_seats c.loop-step.waiting) (sym left) ∙ c.loop-step.invariant)
      | else-has w ↦
          let nobody : has_seat c.args.occupied (seat_after c.args.seats c.loop-step.seat) ≡ false =
          cc (c.has.ensures, w.if-has.false, c.seat_after-seat.ensures.next) in
          let left = players_before-empty c.args.occupied c.args.small
          (seat_after c.args.seats) c.args.seats c.loop-step._step c.loop-step.seat c.loop-step-test.true other
          nobody in
          rw (w.waiting-is, c.seat_after-seat.ensures.next) (ap (with_seats c.loop-step.waiting) (sym left)
          ∙ c.loop-step.invariant)
    ]
