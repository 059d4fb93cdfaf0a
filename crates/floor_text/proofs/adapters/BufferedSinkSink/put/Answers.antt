use Rattle.std.proofs.Common.{rules}
use Rattle.std.specs.Io.Buffered.{writer_contents}
use Rattle.floor_text.proofs.WrittenFronts.{flushed_behind}
use Rattle.floor_text.proofs.adapters.BufferedSinkSink.put.Goals as goal

pub returns-clause-bytes : goal.returns-clause-bytes
returns-clause-bytes g c =
    let puts = flushed_behind (writer_contents g.W.Write.contents c.args.self.now.buffer)
    (writer_contents g.W.Write.contents c.write_whole-result.new.writer)
    (writer_contents g.W.Write.contents c.flush.new.self) c.args.bytes.now
    c.write_whole-result.result c.map_err-flushed.result c.write_whole-result.ensures c.flush.ensures.bytes in
    search rules
