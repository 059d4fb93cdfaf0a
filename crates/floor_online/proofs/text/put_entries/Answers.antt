use Rattle.std.proofs.Common.{◌<◌, length, arith}
use Rattle.floor_online.proofs.Putting.{entry_failed, put_erred}
use Rattle.floor_online.specs.EntryText.{entry_text}
use Rattle.std.specs.List.{flat_map}
use Rattle.floor_online.proofs.text.put_entries.Goals as goal

pub returns-in_err-put_entry-clause-bytes : goal.returns-in_err-put_entry-clause-bytes
returns-in_err-put_entry-clause-bytes g c =
    let within : c.loop-entry.entry-index < length c.args.entries.now = omega arith in
    put_erred (g.O.Sink.written c.args.out.now) (g.O.Sink.written c.put_entry.new.out)
    (flat_map entry_text c.args.entries.now) c.from_residual.result _
    c.from_residual.ensures.1
    (entry_failed (g.O.Sink.written c.args.out.now) (g.O.Sink.written c.loop-entry.out)
    (g.O.Sink.written c.put_entry.new.out) c.args.entries.now c.loop-entry.entry-index c.entry-item.result within
    c.entry-item.is c.loop-entry.invariant.0 c.in_err-put_entry.ensures.bytes)
