use Rattle.std.proofs.Common.{refl, arith}
use Rattle.floor_simulation.proofs.Followed.{event-falls, event-midst, event-room, event-same}
use Rattle.floor_simulation.proofs.simulation.Simulation.step.Goals as goal

pub act-requires : goal.act-requires
act-requires c =
    let now = c.args.self.now in
    event-room now.seed now.tournament now.place now.place now.hands c.requires
    _ c.in-Some.ensures.act

pub returns-in-Some-clause-midst : goal.returns-in-Some-clause-midst
returns-in-Some-clause-midst c =
    let now = c.args.self.now in
    event-midst now.seed now.tournament now.place now.place now.hands c.requires
    _ c.in-Some.ensures.act c.act.new.self now.place now.hands
    (rw c.from-table.ensures at c.in_ok-act.ensures.state) refl (omega arith)

pub returns-in-Some-clause-same : goal.returns-in-Some-clause-same
returns-in-Some-clause-same c =
    let now = c.args.self.now in
    event-same now.seed now.tournament now.place now.place now.hands c.requires
    _ c.in-Some.ensures.act c.act.new.self now.place now.hands
    (rw c.from-table.ensures at c.in_ok-act.ensures.state) refl (omega arith)

pub returns-in-Some-clause-falls : goal.returns-in-Some-clause-falls
returns-in-Some-clause-falls c = λ goes.
    let now = c.args.self.now in
    event-falls now.seed now.tournament now.place now.place now.hands c.requires
    _ c.in-Some.ensures.act c.act.new.self now.place now.hands
    (rw c.from-table.ensures at c.in_ok-act.ensures.state) refl (omega arith)
