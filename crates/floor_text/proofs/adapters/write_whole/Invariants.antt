use Rattle.std.proofs.Common.{length}
use Rattle.floor_text.proofs.WrittenFronts.{IsWritten}
use Rattle.floor_text.proofs.adapters.write_whole.Given as goal

abbrev pub invariant-write : goal.invariant-write
invariant-write g l = IsWritten (g.W.Write.contents l.initial.writer) (g.W.Write.contents l.writer) l.bytes l.rest

abbrev pub decreases-write : goal.decreases-write
decreases-write g l = length l.rest
