use Rattle.std.proofs.Common.{◌∙◌, sym, ◌<◌, None, Some, arith, length}
use Rattle.std.proofs.lemmas.Grind.{common_steps}
use Rattle.tournament_rules.specs.Report.{reported}
use Rattle.seat_book.proofs.MadeOfSlots.{mapped-more}
use Rattle.floor_book.proofs.SlotSums.{held}
use Rattle.floor_book.proofs.report.all_reported.Goals as goal
use Rattle.floor_book.proofs.report.all_reported.Goals.{in-Some+in_ok-push, in_default}

pub reported-requires : goal.reported-requires
reported-requires c = held (λ player. player.place.table < length c.args.started.now) c.args.slots.now
    c.loop-slot.slot-index c.slot-item.result c.in-Some.player c.requires c.loop-slot-test.true
    (sym c.slot-item.is ∙ c.in-Some.is)

pub loop-slot-preserved : goal.loop-slot-preserved
loop-slot-preserved c =
    elim c.match-slot.branch [
      | in-Some+in_ok-push w ↦
          let more = mapped-more (reported c.args.started.now) c.args.slots.now c.loop-slot.slot-index c.slot-item.result
          (Some w.in-Some.player) c.loop-slot-test.true (sym c.slot-item.is ∙ w.in-Some.is) in
          grind (arith, common_steps, more)
      | in_default w ↦
          let more = mapped-more (reported c.args.started.now) c.args.slots.now c.loop-slot.slot-index c.slot-item.result
          None c.loop-slot-test.true (sym c.slot-item.is ∙ w.in_default.is) in
          grind (arith, common_steps, more)
    ]
