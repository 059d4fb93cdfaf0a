use Rattle.std.proofs.Common.{arith, ◌∙◌, []}
use Rattle.std.proofs.lemmas.Grind.{common_steps}
use Rattle.command_lines.specs.Endings.{fault_of_read_end}
use Rattle.line_tellers.proofs.Promises.{next_failed, next_handed}
use Rattle.line_tellers.proofs.Running.{err_so}
use Rattle.line_tellers.proofs.lines.next_line.Goals as goal

pub returns-in_err-next_line-clause-told : goal.returns-in_err-next_line-clause-told
returns-in_err-next_line-clause-told g c = λ telling bytes before state written on.
    let failed = c.in_err-next_line.ensures in
    err_so c.from_residual.result (fault_of_read_end c.in_err-next_line.field-0.0) _ _ c.from_residual.ensures.1
    (next_failed telling bytes before state (g.I.Source.left c.next_line.new.source) written
    c.in_err-next_line.field-0.0 c.next_line.new.self failed.not_ended failed.input_too_long failed.taken.1
    (failed.limit ∙ c.requires.limit) failed.within_limit failed.no_line
    (next_handed telling bytes before state (g.I.Source.left c.args.input.now)
    (g.I.Source.left c.next_line.new.source) written [] c.args.reader.now c.next_line.new.self c.requires.going
    failed.reads failed.goes_on failed.ended failed.source_end on))

pub returns-clause-told : goal.returns-clause-told
returns-clause-told g c = λ telling bytes before state written on.
    let handed = c.in_ok-next_line.ensures in
    next_handed telling bytes before state (g.I.Source.left c.args.input.now)
    (g.I.Source.left c.next_line.new.source) written _ c.args.reader.now c.next_line.new.self c.requires.going
    handed.reads handed.goes_on handed.ended handed.source_end on

pub returns-clause-counts : goal.returns-clause-counts
returns-clause-counts g c = grind (arith, common_steps)

pub returns-in_err-next_line-clause-counts : goal.returns-in_err-next_line-clause-counts
returns-in_err-next_line-clause-counts g c = grind (arith, common_steps)
