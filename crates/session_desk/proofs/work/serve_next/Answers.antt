use Rattle.std.proofs.Common.{rules}
use Rattle.std.specs.Prelude.{vec_len}
use Rattle.session_desk.proofs.Working.{worked-none, worked-one}
use Rattle.session_desk.proofs.work.serve_next.Goals as goal

pub returns-in-Ok-Some-clause-worked : goal.returns-in-Ok-Some-clause-worked
returns-in-Ok-Some-clause-worked g c =
    worked-one g.D.Door.told g.D.L.Link.told g.D.L.Link.faults c.args.words.now (vec_len c.args.docks.now)
    c.args.door.now c.knock.new.self _ c.args.desk c.serve_session-desk.result.0 c.serve_session-desk.result.1
    c.in-Ok-Some.link c.serve_session-desk.new.link (rw c.in-Ok-Some.field-0-is at c.in-Ok-Some.ensures.told)
    (search rules) c.serve_session-desk.ensures.served

pub returns-in-Ok-None-clause-worked : goal.returns-in-Ok-None-clause-worked
returns-in-Ok-None-clause-worked g c =
    worked-none g.D.Door.told g.D.L.Link.told g.D.L.Link.faults c.args.words.now (vec_len c.args.docks.now)
    c.args.door.now c.knock.new.self c.args.desk (rw c.in-Ok-None.field-0-is at c.in-Ok-None.ensures.told)

pub returns-in-Err-clause-worked : goal.returns-in-Err-clause-worked
returns-in-Err-clause-worked g c =
    worked-none g.D.Door.told g.D.L.Link.told g.D.L.Link.faults c.args.words.now (vec_len c.args.docks.now)
    c.args.door.now c.knock.new.self c.args.desk c.in-Err.ensures.told
