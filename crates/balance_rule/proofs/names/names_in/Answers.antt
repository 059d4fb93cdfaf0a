use Rattle.std.proofs.Common.{◌∙◌, sym, None, Some, arith}
use Rattle.std.proofs.lemmas.Grind.{common_steps}
use Rattle.seat_book.proofs.MadeOfSlots.{mapped-more}
use Rattle.balance_rule.proofs.names.names_in.Goals as goal
use Rattle.balance_rule.proofs.names.names_in.Goals.{in-Some+in_ok-push, in_default}

pub loop-slot-preserved : goal.loop-slot-preserved
loop-slot-preserved c =
    elim c.match-slot.branch [
      | in-Some+in_ok-push w ↦
          let more = mapped-more (λ seated. seated.name) c.args.slots.now c.loop-slot.slot-index c.slot-item.result
          (Some w.in-Some.seated) c.loop-slot-test.true (sym c.slot-item.is ∙ w.in-Some.is) in
          grind (arith, common_steps, more)
      | in_default w ↦
          let more = mapped-more (λ seated. seated.name) c.args.slots.now c.loop-slot.slot-index c.slot-item.result
          None c.loop-slot-test.true (sym c.slot-item.is ∙ w.in_default.is) in
          grind (arith, common_steps, more)
    ]
