use Rattle.std.proofs.Common.{◌≡◌, ◌∙◌, sym, inl, arith}
use Rattle.std.specs.Prelude.{Some, None, IfSome}
use Rattle.command_lines.specs.declared.command.Command.{Command}
use Rattle.command_lines.specs.declared.command.Command.TheVariants.{Replay, Simulate}
use Rattle.command_lines.specs.declared.fault.Fault.TheVariants as faults
use Rattle.command_lines.specs.Endings.{PutsLine}
use Rattle.command_lines.proofs.Ended.{at_fault, at_line, at_no_write, at_other, at_six, at_zero, ended}
use Rattle.floor_offline.specs.Commands.{limit_of, text_of}
use Rattle.floor_offline.proofs.First.{first_put}
use Rattle.floor_offline.proofs.Fronts.{front_of_text}
use Rattle.floor_offline.proofs.Statuses.{status_of_run}
use Rattle.line_tellers.proofs.Running.{on_ok_from}
use Rattle.floor_offline.proofs.run.run_offline.Goals as goal

-- two commands that the same words are are one
one_command : (one other : Command) → Some one ≡ Some other → one ≡ other
one_command one other same = cc

pub returns-clause-statuses : goal.returns-clause-statuses
returns-clause-statuses g c =
    rw c.finish.ensures.status (status_of_run c.carry_out.result c.carry_out.ensures.hall)

pub returns-clause-read_to_end : goal.returns-clause-read_to_end
returns-clause-read_to_end g c =
    at_zero c.carry_out.result c.finish.result c.finish.ensures.status c.carry_out.ensures.end

pub returns-clause-put : goal.returns-clause-put
returns-clause-put g c = λ zero command is.
    let read = rw c.deref.ensures.value at (sym c.read.ensures ∙ c.in-Some.is) in
    rw (one_command command c.in-Some.command (sym is ∙ read)) (at_zero c.carry_out.result c.finish.result c.finish.ensures.status c.carry_out.ensures.text zero)

pub returns-clause-first_edition : goal.returns-clause-first_edition
returns-clause-first_edition g c = λ zero is.
    let read = rw c.deref.ensures.value at (sym c.read.ensures ∙ c.in-Some.is) in
    first_put c.in-Some.command (g.I.Source.left c.args.input.now) (g.O.Sink.written c.args.out.now)
    (g.O.Sink.written c.carry_out.new.out) (one_command Replay c.in-Some.command (sym is ∙ read))
    (at_zero c.carry_out.result c.finish.result c.finish.ensures.status c.carry_out.ensures.text zero)

pub returns-clause-within_limit : goal.returns-clause-within_limit
returns-clause-within_limit g c = λ zero command is.
    let read = rw c.deref.ensures.value at (sym c.read.ensures ∙ c.in-Some.is) in
    rw (one_command command c.in-Some.command (sym is ∙ read)) (at_zero c.carry_out.result c.finish.result c.finish.ensures.status c.carry_out.ensures.within zero)

pub returns-clause-let_go : goal.returns-clause-let_go
returns-clause-let_go g c =
    at_no_write c.carry_out.result c.finish.result c.finish.ensures.status (on_ok_from c.carry_out.result inl c.carry_out.ensures.let_go) c.carry_out.ensures.faults_let_go

pub returns-clause-all_let_go : goal.returns-clause-all_let_go
returns-clause-all_let_go g c =
    at_zero c.carry_out.result c.finish.result c.finish.ensures.status c.carry_out.ensures.let_go

pub returns-clause-usage : goal.returns-clause-usage
returns-clause-usage g c =
    let read = rw c.deref.ensures.value at (sym c.read.ensures ∙ c.in-Some.is) in
    (λ two. absurd (c.carry_out.ensures.words (at_fault c.carry_out.result c.finish.result c.finish.ensures.status faults.Usage two (λ six. absurd (omega arith)))), λ none. let never : Some c.in-Some.command ≡ None = sym read ∙ none in absurd cc)

pub returns-clause-untouched : goal.returns-clause-untouched
returns-clause-untouched g c = λ two. absurd (c.carry_out.ensures.words (at_fault c.carry_out.result c.finish.result c.finish.ensures.status faults.Usage two (λ six. absurd (omega arith))))

pub returns-clause-plan : goal.returns-clause-plan
returns-clause-plan g c = λ six.
    let wrong = at_six c.carry_out.result c.finish.result c.finish.ensures.status six in
    let read = rw c.deref.ensures.value at (sym c.read.ensures ∙ c.in-Some.is) in (
      wrong.0,
      rw wrong.1 at c.finish.ensures.line,
      λ command is. rw (one_command command c.in-Some.command (sym is ∙ read)) (c.carry_out.ensures.plan wrong.0 wrong.1),
    )

pub returns-clause-read_fault_told : goal.returns-clause-read_fault_told
returns-clause-read_fault_told g c = λ three command is.
    let read = rw c.deref.ensures.value at (sym c.read.ensures ∙ c.in-Some.is) in
    let fault = at_fault c.carry_out.result c.finish.result c.finish.ensures.status faults.Read three (λ six. absurd (omega arith)) in
    rw (one_command command c.in-Some.command (sym is ∙ read)) (rw fault at c.carry_out.ensures.told)

pub returns-clause-too_long_told : goal.returns-clause-too_long_told
returns-clause-too_long_told g c = λ eight command is.
    let read = rw c.deref.ensures.value at (sym c.read.ensures ∙ c.in-Some.is) in
    let fault = at_fault c.carry_out.result c.finish.result c.finish.ensures.status faults.InputTooLong eight (λ six. absurd (omega arith)) in
    rw (one_command command c.in-Some.command (sym is ∙ read)) (rw fault at c.carry_out.ensures.told)

pub returns-clause-no_memory_told : goal.returns-clause-no_memory_told
returns-clause-no_memory_told g c = λ five command is.
    let read = rw c.deref.ensures.value at (sym c.read.ensures ∙ c.in-Some.is) in
    let fault = at_fault c.carry_out.result c.finish.result c.finish.ensures.status faults.NoMemory five (λ six. absurd (omega arith)) in
    rw (one_command command c.in-Some.command (sym is ∙ read)) (rw fault at c.carry_out.ensures.told)

pub returns-clause-write_fault_told : goal.returns-clause-write_fault_told
returns-clause-write_fault_told g c = λ four command is.
    let read = rw c.deref.ensures.value at (sym c.read.ensures ∙ c.in-Some.is) in
    let fault = at_fault c.carry_out.result c.finish.result c.finish.ensures.status faults.Write four (λ six. absurd (omega arith)) in
    rw (one_command command c.in-Some.command (sym is ∙ read))
    (front_of_text c.in-Some.command (g.I.Source.left c.args.input.now) (g.I.Source.left c.carry_out.new.input)
    (g.O.Sink.written c.args.out.now) (g.O.Sink.written c.carry_out.new.out)
    (rw fault at c.carry_out.ensures.told))

pub returns-clause-simulated_nothing : goal.returns-clause-simulated_nothing
returns-clause-simulated_nothing g c = λ number is.
    let read = rw c.deref.ensures.value at (sym c.read.ensures ∙ c.in-Some.is) in
    at_other c.carry_out.result c.finish.result c.finish.ensures.status
    (λ fault ended no_write. c.carry_out.ensures.untouched number fault
    (sym (one_command (Simulate number) c.in-Some.command (sym is ∙ read))) ended no_write)

pub returns-clause-simulated_front : goal.returns-clause-simulated_front
returns-clause-simulated_front g c = λ number is four.
    let read = rw c.deref.ensures.value at (sym c.read.ensures ∙ c.in-Some.is) in
    let same = sym (one_command (Simulate number) c.in-Some.command (sym is ∙ read)) in
    rw same at (c.carry_out.ensures.front number same (at_fault c.carry_out.result c.finish.result c.finish.ensures.status
    faults.Write four (λ six. absurd (omega arith))))

pub returns-clause-read_fault : goal.returns-clause-read_fault
returns-clause-read_fault g c = λ three. c.carry_out.ensures.read (at_fault c.carry_out.result c.finish.result c.finish.ensures.status faults.Read three (λ six. absurd (omega arith)))

pub returns-clause-write_fault : goal.returns-clause-write_fault
returns-clause-write_fault g c = λ four. c.carry_out.ensures.write (at_fault c.carry_out.result c.finish.result c.finish.ensures.status faults.Write four (λ six. absurd (omega arith)))

pub returns-clause-input_too_long : goal.returns-clause-input_too_long
returns-clause-input_too_long g c = λ eight command is.
    let read = rw c.deref.ensures.value at (sym c.read.ensures ∙ c.in-Some.is) in
    rw (one_command command c.in-Some.command (sym is ∙ read)) (c.carry_out.ensures.too_long (at_fault c.carry_out.result c.finish.result c.finish.ensures.status faults.InputTooLong eight (λ six. absurd (omega arith))))

pub returns-clause-complete : goal.returns-clause-complete
returns-clause-complete g c = λ command is no_read no_write.
    let read = rw c.deref.ensures.value at (sym c.read.ensures ∙ c.in-Some.is) in
    rw (one_command command c.in-Some.command (sym is ∙ read), c.finish.ensures.status)
    (ended (limit_of c.in-Some.command) (text_of c.in-Some.command) c.carry_out.result
    (g.I.Source.left c.args.input.now) (g.I.Source.left c.carry_out.new.input) c.carry_out.ensures.right
    c.carry_out.ensures.words c.carry_out.ensures.hall (λ read. no_read (c.carry_out.ensures.read read))
    (λ write. no_write (c.carry_out.ensures.write write)) c.carry_out.ensures.too_long c.carry_out.ensures.plan)

pub returns-clause-quiet : goal.returns-clause-quiet
returns-clause-quiet g c =
    at_zero c.carry_out.result c.finish.result c.finish.ensures.status c.finish.ensures.quiet

pub returns-clause-told : goal.returns-clause-told
returns-clause-told g c =
    at_line c.carry_out.result c.finish.result c.finish.ensures.status (λ line. IfSome (g.E.Sink.written c.args.err.now) (λ before. PutsLine before line (g.E.Sink.written c.finish.new.err) (g.E.Sink.faults c.args.err.now) (g.E.Sink.faults c.finish.new.err))) c.finish.ensures.line
