use Rattle.std.proofs.Common.{◌∙◌, sym, ap, arith}
use Rattle.std.specs.Prelude.{Err}
use Rattle.plan_files.specs.Words.{served_of_file}
use Rattle.command_lines.specs.Limits.{plan_limit}
use Rattle.command_lines.proofs.Ended.{ended_by, ended_well, plan_of_status}
use Rattle.floor_online.proofs.Statuses.{file-right, line-told, status-told}
use Rattle.floor_online.proofs.server.serve.Goals as goal

pub returns-in-Ok-clause-read_fault : goal.returns-in-Ok-clause-read_fault
returns-in-Ok-clause-read_fault g c = λ three. absurd (omega arith)

pub returns-in-Ok-clause-complete : goal.returns-in-Ok-clause-complete
returns-in-Ok-clause-complete g c = λ asked is no_read no_write no_hall.
    let served = c.in-Ok.ensures.served asked is in
    rw c.finish.ensures.status
    (ended_well plan_limit served_of_file (g.I.Source.left c.args.input.now)
    (file-right (g.I.Source.left c.args.input.now) served.plan served.words served.read))

pub returns-in-Err-clause-statuses : goal.returns-in-Err-clause-statuses
returns-in-Err-clause-statuses g c = rw c.finish-in-Err.ensures.status (status-told c.in-Err.fault)

pub returns-in-Err-clause-plan : goal.returns-in-Err-clause-plan
returns-in-Err-clause-plan g c = λ six.
    let wrong = plan_of_status c.in-Err.fault (sym c.finish-in-Err.ensures.status ∙ six) in (
      wrong.0,
      rw wrong.1 at c.finish-in-Err.ensures.line,
      c.run.ensures.plan wrong.0 (c.in-Err.is ∙ ap Err wrong.1),
    )

pub returns-in-Err-clause-complete : goal.returns-in-Err-clause-complete
returns-in-Err-clause-complete g c = λ asked is no_read no_write no_hall.
    rw c.finish-in-Err.ensures.status
    (ended_by plan_limit served_of_file c.in-Err.fault (g.I.Source.left c.args.input.now)
    (g.I.Source.left c.run.new.input)
    (λ usage. let none = c.run.ensures.words.0 (c.in-Err.is ∙ ap Err usage) in cc (none, is))
    (λ hall. no_hall (c.run.ensures.hall (c.in-Err.is ∙ ap Err hall)))
    (λ read. no_read (c.run.ensures.read (c.in-Err.is ∙ ap Err read)))
    (λ write. no_write (c.run.ensures.write (c.in-Err.is ∙ ap Err write)))
    (λ more. c.run.ensures.too_long (c.in-Err.is ∙ ap Err more))
    (λ item wrong. c.run.ensures.plan item (c.in-Err.is ∙ ap Err wrong)))

pub returns-in-Err-clause-told : goal.returns-in-Err-clause-told
returns-in-Err-clause-told g c = λ some no_plan.
    rw (
      c.finish-in-Err.ensures.status,
      line-told c.in-Err.fault (λ six. no_plan (c.finish-in-Err.ensures.status ∙ six)),
    ) c.finish-in-Err.ensures.line
