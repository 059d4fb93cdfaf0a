use Rattle.line_tellers.specs.Told.{answers_told, lines_seen}
use Rattle.floor_offline.proofs.run.carry_out.Goals as goal

pub returns-in-Replay-clause-told : goal.returns-in-Replay-clause-told
returns-in-Replay-clause-told g c =
    rw c.in-Replay.is
    (c.close.ensures.told answers_told (g.I.Source.left c.args.input.now) (g.I.Source.left c.replay.new.input)
    (g.O.Sink.written c.args.out.now) c.replay.ensures.run.told)

pub returns-in-View-clause-told : goal.returns-in-View-clause-told
returns-in-View-clause-told g c =
    rw c.in-View.is
    (c.close-in-View.ensures.told (lines_seen c.in-View.name) (g.I.Source.left c.args.input.now)
    (g.I.Source.left c.view.new.input) (g.O.Sink.written c.args.out.now) c.view.ensures.run.told)

pub returns-in-Simulate-clause-plan : goal.returns-in-Simulate-clause-plan
returns-in-Simulate-clause-plan g c = λ item is. rw c.in-Simulate.is (c.simulate.ensures.plan item is)
