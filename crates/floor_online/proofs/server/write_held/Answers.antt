use Rattle.book_dock.specs.Ends.{journal_of}
use Rattle.command_lines.specs.declared.fault.Fault.TheVariants as faults
use Rattle.floor_online.specs.Served.{HasFront}
use Rattle.floor_online.proofs.Fronts.{front-whole, handed-on}
use Rattle.floor_online.proofs.server.write_held.Goals as goal

pub returns-in_err-failed_lines-clause-front : goal.returns-in_err-failed_lines-clause-front
returns-in_err-failed_lines-clause-front g c =
    let before = g.O.Sink.written c.args.out.now in
    let after = g.O.Sink.written c.write_text.new.out in
    handed-on (λ f. HasFront (journal_of c.args.end.now) before after) c.from_residual-in_err-failed_lines.result
    faults.NoMemory c.from_residual-in_err-failed_lines.ensures.1
    (front-whole (journal_of c.args.end.now) before after c.in_ok-write_text.ensures.bytes)
