use Rattle.std.proofs.Common.{◌-◌, ◌<◌, ◌≤◌, length}
use Rattle.plan_files.proofs.ReadWholes.{HasRead}
use Rattle.plan_files.proofs.whole.read_whole.Given as goal

abbrev pub invariant-reading : goal.invariant-reading
invariant-reading g l = record {
  within : length l.whole.items ≤ l.limit;
  block : 0 < length l.block.items;
  read : HasRead (g.S.Source.left l.initial.source) (g.S.Source.left l.source) l.whole.items;
  faults : g.S.Source.faults l.initial.source ≤ g.S.Source.faults l.source;
}

-- the bytes that may still be taken
abbrev pub decreases-reading : goal.decreases-reading
decreases-reading g l = l.limit - length l.whole.items
