use Rattle.std.proofs.Common.{◌≡◌, ◌∙◌, sym, ap, subst, refl, [], rules}
use Rattle.std.specs.Prelude.{Ok}
use Rattle.floor_text.specs.LineReader.{lines_of_next}
use Rattle.floor_text.specs.Reading.{Reading}
use Rattle.command_lines.specs.declared.fault.Fault.TheVariants as faults
use Rattle.line_tellers.specs.Handed.{item_of_next}
use Rattle.line_tellers.specs.Promise.{IsTelling}
use Rattle.replay_rules.specs.Replay.{state_after_item}
use Rattle.line_tellers.proofs.AtErrors.{no_ok}
use Rattle.line_tellers.proofs.Counted.{valid_item}
use Rattle.line_tellers.proofs.Promises.{fail_line, hold_line, holds_a_line, tell_line, told_front}
use Rattle.line_tellers.proofs.Running.{err_so, on_ok}
use Rattle.line_tellers.proofs.lines.tell_next.Goals as goal

pub returns-in_err-take-clause-told : goal.returns-in_err-take-clause-told
returns-in_err-take-clause-told g c = λ bytes before on.
    err_so c.from_residual.result faults.NoMemory _ _ c.from_residual.ensures.1
    (told_front (g.T.LineTeller.telling c.args.teller.now) bytes before c.args.tournament.now
    (g.I.Source.left c.args.input.now) (g.O.Sink.written c.args.out.now)
    (lines_of_next (Ok c.args.line) c.args.reader.now.line) c.args.reader.now on)

pub returns-in_err-put-clause-told : goal.returns-in_err-put-clause-told
returns-in_err-put-clause-told g c = λ bytes before on.
    let telling = g.T.LineTeller.telling c.args.teller.now in
    let due = c.in_ok-take.ensures.told
    ∙ ap (λ line. telling.of_item c.args.tournament.now (item_of_next c.args.line line)) c.line.ensures in
    err_so c.from_residual-in_err-put.result faults.Write _ _
    (rw c.in_err-put.ensures.others at c.from_residual-in_err-put.ensures.1)
    (fail_line telling bytes before c.args.tournament.now (g.I.Source.left c.args.input.now)
    (g.O.Sink.written c.args.out.now) (g.O.Sink.written c.put.new.out) c.args.line c.args.reader.now.line
    c.args.reader.now c.requires.some on (rw due at c.in_err-put.ensures.bytes))

pub returns-in-Some-clause-told : goal.returns-in-Some-clause-told
returns-in-Some-clause-told g c = λ bytes before on.
    let telling = g.T.LineTeller.telling c.args.teller.now in
    let due = c.in_ok-take.ensures.told
    ∙ ap (λ line. telling.of_item c.args.tournament.now (item_of_next c.args.line line)) c.line.ensures in
    let state = c.in_ok-take.ensures.state
    ∙ ap (λ line. state_after_item c.args.tournament.now (item_of_next c.args.line line)) c.line.ensures in
    let held = rw c.in-Some.is at c.next_held-at_hand.ensures.held in
    hold_line telling bytes before c.take.new.tournament (g.I.Source.left c.args.input.now)
    (g.O.Sink.written c.put.new.out) _ c.args.reader.now c.next_held-at_hand.new.self
    c.next_held-at_hand.ensures.taken (rw c.in-Some.is at c.next_held-at_hand.ensures.ended)
    (holds_a_line c.args.reader.now c.args.reader.now.ended refl on.none_held (sym held))
    (rw c.in-Some.is at c.next_held-at_hand.ensures.reads)
    (tell_line telling bytes before c.args.tournament.now c.take.new.tournament (g.I.Source.left c.args.input.now)
    (g.O.Sink.written c.args.out.now) (g.O.Sink.written c.put.new.out) c.args.line c.args.reader.now.line
    c.args.reader.now c.requires.some on state (rw due at c.in_ok-put.ensures.bytes))

pub returns-in-None-clause-told : goal.returns-in-None-clause-told
returns-in-None-clause-told g c = λ bytes before on.
    let telling = g.T.LineTeller.telling c.args.teller.now in
    let due = c.in_ok-take.ensures.told
    ∙ ap (λ line. telling.of_item c.args.tournament.now (item_of_next c.args.line line)) c.line.ensures in
    let state = c.in_ok-take.ensures.state
    ∙ ap (λ line. state_after_item c.args.tournament.now (item_of_next c.args.line line)) c.line.ensures in
    let same : c.next_held-at_hand.new.self ≡ c.args.reader.now = rw c.in-None.is at c.next_held-at_hand.ensures.none in
    rw same
    (tell_line telling bytes before c.args.tournament.now c.take.new.tournament (g.I.Source.left c.args.input.now)
    (g.O.Sink.written c.args.out.now) (g.O.Sink.written c.put.new.out) c.args.line c.args.reader.now.line
    c.args.reader.now c.requires.some on state (rw due at c.in_ok-put.ensures.bytes))

pub returns-in-None-2-clause-told : goal.returns-in-None-2-clause-told
returns-in-None-2-clause-told g c = λ bytes before on.
    let telling = g.T.LineTeller.telling c.args.teller.now in
    let due = c.in_ok-take.ensures.told
    ∙ ap (λ line. telling.of_item c.args.tournament.now (item_of_next c.args.line line)) c.line.ensures in
    let state = c.in_ok-take.ensures.state
    ∙ ap (λ line. state_after_item c.args.tournament.now (item_of_next c.args.line line)) c.line.ensures in
    let same : c.next_held-at_hand.new.self ≡ c.args.reader.now = rw c.in-None.is at c.next_held-at_hand.ensures.none in
    let told = tell_line telling bytes before c.args.tournament.now c.take.new.tournament
    (g.I.Source.left c.args.input.now) (g.O.Sink.written c.args.out.now) (g.O.Sink.written c.put.new.out)
    c.args.line c.args.reader.now.line c.args.reader.now c.requires.some on state
    (rw due at c.in_ok-put.ensures.bytes) in
    c.next_line.ensures.told telling bytes before c.take.new.tournament (g.O.Sink.written c.put.new.out)
    (subst (λ (reader : Reading). IsTelling telling bytes before c.take.new.tournament
    (g.I.Source.left c.args.input.now) (g.O.Sink.written c.put.new.out) [] reader) (sym same) told)

pub returns-in_err-take-clause-same : goal.returns-in_err-take-clause-same
returns-in_err-take-clause-same g c = no_ok c.from_residual.result _ _ c.from_residual.ensures.1

pub returns-in_err-take-clause-ahead : goal.returns-in_err-take-clause-ahead
returns-in_err-take-clause-ahead g c = no_ok c.from_residual.result _ _ c.from_residual.ensures.1

pub returns-in_err-take-clause-counted : goal.returns-in_err-take-clause-counted
returns-in_err-take-clause-counted g c = no_ok c.from_residual.result _ _ c.from_residual.ensures.1

pub returns-in_err-take-clause-valid : goal.returns-in_err-take-clause-valid
returns-in_err-take-clause-valid g c = no_ok c.from_residual.result _ _ c.from_residual.ensures.1

pub returns-in_err-put-clause-same : goal.returns-in_err-put-clause-same
returns-in_err-put-clause-same g c = no_ok c.from_residual-in_err-put.result _ _ c.from_residual-in_err-put.ensures.1

pub returns-in_err-put-clause-ahead : goal.returns-in_err-put-clause-ahead
returns-in_err-put-clause-ahead g c = no_ok c.from_residual-in_err-put.result _ _ c.from_residual-in_err-put.ensures.1

pub returns-in_err-put-clause-counted : goal.returns-in_err-put-clause-counted
returns-in_err-put-clause-counted g c = no_ok c.from_residual-in_err-put.result _ _ c.from_residual-in_err-put.ensures.1

pub returns-in_err-put-clause-valid : goal.returns-in_err-put-clause-valid
returns-in_err-put-clause-valid g c = no_ok c.from_residual-in_err-put.result _ _ c.from_residual-in_err-put.ensures.1

pub returns-in-None-2-clause-asks : goal.returns-in-None-2-clause-asks
returns-in-None-2-clause-asks g c = search rules

pub returns-in-None-2-clause-let_go : goal.returns-in-None-2-clause-let_go
returns-in-None-2-clause-let_go g c = search rules

pub returns-in-Some-clause-valid : goal.returns-in-Some-clause-valid
returns-in-Some-clause-valid g c = rw c.in_ok-take.ensures.state (valid_item c.args.tournament.now _ c.requires.valid)

pub returns-in-None-clause-valid : goal.returns-in-None-clause-valid
returns-in-None-clause-valid g c = rw c.in_ok-take.ensures.state (valid_item c.args.tournament.now _ c.requires.valid)

pub returns-in-None-2-clause-valid : goal.returns-in-None-2-clause-valid
returns-in-None-2-clause-valid g c = on_ok c.next_line.result
    (rw c.in_ok-take.ensures.state (valid_item c.args.tournament.now _ c.requires.valid))
