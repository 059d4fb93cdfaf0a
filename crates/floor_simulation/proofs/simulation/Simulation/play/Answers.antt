use Rattle.std.proofs.Common.{◌∙◌, refl, ap, Ok}
use Rattle.floor_simulation.proofs.Followed.{ended-by_step, same-here, same-on}
use Rattle.floor_simulation.proofs.simulation.Simulation.play.Goals as goal

pub loop-init : goal.loop-init
loop-init c =
    let now = c.args.self.now in
    record { midst = c.requires; same = same-here now.seed now.tournament now.place now.hands; seed = refl }

pub step-requires : goal.step-requires
step-requires c = c.loop.invariant.midst

pub loop-smaller : goal.loop-smaller
loop-smaller c = c.step.ensures.falls (c.in_ok-step.was ∙ ap Ok c.if-branch.true)

pub loop-preserved : goal.loop-preserved
loop-preserved c =
    let first = c.args.self.now in
    let now = c.loop.self in
    let new = c.step.new.self in
    record {
      midst = c.in_ok-step.ensures.midst;
      same = same-on first.seed first.tournament first.place first.hands now.tournament now.place now.hands
          new.tournament new.place new.hands c.loop.invariant.same
          (rw c.loop.invariant.seed at c.in_ok-step.ensures.same);
      seed = c.step.ensures.seed ∙ c.loop.invariant.seed;
    }

pub returns-clause-state : goal.returns-clause-state
returns-clause-state c =
    let first = c.args.self.now in
    let now = c.loop.self in
    let new = c.step.new.self in
    (ended-by_step first.seed now.seed first.tournament first.place first.hands now.tournament now.place now.hands
    new.tournament new.place new.hands c.loop.invariant.seed c.loop.invariant.same c.in_ok-step.ensures.same
    (c.step.ensures.end (c.in_ok-step.was ∙ ap Ok c.if-branch.false))).state

pub returns-clause-hands : goal.returns-clause-hands
returns-clause-hands c =
    let first = c.args.self.now in
    let now = c.loop.self in
    let new = c.step.new.self in
    (ended-by_step first.seed now.seed first.tournament first.place first.hands now.tournament now.place now.hands
    new.tournament new.place new.hands c.loop.invariant.seed c.loop.invariant.same c.in_ok-step.ensures.same
    (c.step.ensures.end (c.in_ok-step.was ∙ ap Ok c.if-branch.false))).hands

pub returns-clause-events : goal.returns-clause-events
returns-clause-events c =
    let first = c.args.self.now in
    let now = c.loop.self in
    let new = c.step.new.self in
    (ended-by_step first.seed now.seed first.tournament first.place first.hands now.tournament now.place now.hands
    new.tournament new.place new.hands c.loop.invariant.seed c.loop.invariant.same c.in_ok-step.ensures.same
    (c.step.ensures.end (c.in_ok-step.was ∙ ap Ok c.if-branch.false))).events
