use Rattle.std.proofs.Common.{◌≡◌, ◌+◌, ◌++◌, drop}
use Rattle.floor_online.specs.Doors.{failed_text}
use Rattle.floor_online.proofs.doors.failed_lines.Given as goal

abbrev pub invariant-loop-index : goal.invariant-loop-index
invariant-loop-index l = l.text.items ++ failed_text (l.index + 1) (drop l.index l.failed) ≡ failed_text 1 l.failed
