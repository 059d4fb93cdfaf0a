use Rattle.std.proofs.Common.{rules}
use Rattle.button_blinds.proofs.WhoPlays.{waiting_between-sit}
use Rattle.button_blinds.proofs.marks.moved_marks.Goals as goal

pub returns-clause-waiting_sit : goal.returns-clause-waiting_sit
returns-clause-waiting_sit c =
    λ seat is. waiting_between-sit c.args.occupied c.args.seats c.args.old.small c.args.old.big seat
    (rw c.waiting_between-waiting.ensures at is)

pub returns-clause-marks : goal.returns-clause-marks
returns-clause-marks c = search rules
