use Rattle.std.proofs.Common.{length, arith}
use Rattle.std.proofs.lemmas.Slice.{between_to_end}
use Rattle.floor_text.proofs.WrittenFronts.{written_more}
use Rattle.floor_text.proofs.adapters.write_whole.Goals as goal

pub write-preserved : goal.write-preserved
write-preserved g c =
    written_more (g.W.Write.contents c.args.writer.now) (g.W.Write.contents c.write.writer)
    (g.W.Write.contents c.write_once.new.writer) c.args.bytes.now c.write.rest.now _ c.in-Some.n c.write.invariant
    c.in-Some.ensures.count.1 (between_to_end c.write.rest.now c.in-Some.n (length c.write.rest.now) (omega arith))
    c.in-Some.ensures.some
