use Rattle.std.proofs.Common.{◌≡◌, rules}
use Rattle.std.specs.Prelude.{Err}
use Rattle.command_lines.specs.declared.fault.Fault.TheVariants as faults
use Rattle.line_tellers.proofs.Running.{closed_front, none_put, on_err}
use Rattle.line_tellers.proofs.lines.close.Goals as goal

pub returns-in_err-put-clause-told : goal.returns-in_err-put-clause-told
returns-in_err-put-clause-told g c = λ telling first left before told.
    let wanting : c.args.ran ≡ Err faults.NoMemory = search rules in
    on_err c.from_residual.result faults.Write _ c.from_residual.ensures.1
    (closed_front telling first left before (g.O.Sink.written c.args.out.now) (g.O.Sink.written c.put.new.self)
    (none_put (g.O.Sink.written c.args.out.now) (g.O.Sink.written c.put.new.self) c.in_err-put.ensures.bytes)
    (rw wanting at told))

pub returns-in_err-put-clause-kept : goal.returns-in_err-put-clause-kept
returns-in_err-put-clause-kept g c =
    none_put (g.O.Sink.written c.args.out.now) (g.O.Sink.written c.put.new.self) c.in_err-put.ensures.bytes

pub returns-in_err-put-clause-same : goal.returns-in_err-put-clause-same
returns-in_err-put-clause-same g c = search rules

pub returns-in_ok-put-clause-kept : goal.returns-in_ok-put-clause-kept
returns-in_ok-put-clause-kept g c = search rules

pub returns-in_ok-put-clause-told : goal.returns-in_ok-put-clause-told
returns-in_ok-put-clause-told g c = search rules

pub returns-in_ok-put-clause-same : goal.returns-in_ok-put-clause-same
returns-in_ok-put-clause-same g c = search rules

pub returns-else-eq-clause-let_go : goal.returns-else-eq-clause-let_go
returns-else-eq-clause-let_go g c = search rules
