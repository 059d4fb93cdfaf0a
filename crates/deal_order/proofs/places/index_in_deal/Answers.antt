use Rattle.std.proofs.Common.{rules, ◌≡◌, ◌∙◌, true, false, ap, sym, arith}
use Rattle.std.specs.Prelude.{◌==◌}
use Rattle.std.proofs.lemmas.Bool.Decides.{nat_tests}
use Rattle.rulebook.specs.Seats.{seat_after}
use Rattle.button_blinds.specs.SeatSets.{has_seat}
use Rattle.deal_order.proofs.Orders.{index-empty, index-passed}
use Rattle.deal_order.proofs.places.index_in_deal.Goals.{then-has+else-next-seat, else-has}
use Rattle.deal_order.proofs.places.index_in_deal.Goals as goal

pub loop-step-preserved : goal.loop-step-preserved
loop-step-preserved c =
    let next = c.seat_after-next.ensures.next in
    let more = c.loop-step.invariant.0 in
    let left = c.loop-step.invariant.1 in
    elim c.if-has.branch [
      | then-has+else-next-seat w ↦
          let sits : has_seat c.args.dealt (seat_after c.args.seats c.loop-step.next) ≡ true =
          ap (has_seat c.args.dealt) (sym next) ∙ sym c.has.ensures ∙ w.if-has.true in
          let other : (seat_after c.args.seats c.loop-step.next == c.args.seat) ≡ false =
          rw (← next) (grind (arith, nat_tests)) in
          let passed = index-passed (has_seat c.args.dealt)
          (seat_after c.args.seats) c.args.seats c.loop-step._step c.loop-step.next c.args.seat
          c.loop-step-test.true sits other in
          (rw w.before-is (omega arith), rw (w.before-is, next) (omega (arith, passed, left)))
      | else-has w ↦
          let nobody : has_seat c.args.dealt (seat_after c.args.seats c.loop-step.next) ≡ false =
          ap (has_seat c.args.dealt) (sym next) ∙ sym c.has.ensures ∙ w.if-has.false in
          let passed = index-empty (has_seat c.args.dealt)
          (seat_after c.args.seats) c.args.seats c.loop-step._step c.loop-step.next c.args.seat
          c.loop-step-test.true nobody in
          (rw w.before-is (omega arith), rw (w.before-is, next) (omega (arith, passed, left)))
    ]

pub loop-step-init : goal.loop-step-init
loop-step-init c = search rules
