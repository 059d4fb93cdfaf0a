use Rattle.std.proofs.Common.{◌∙◌, sym}
use Rattle.simulation_rules.proofs.Following.{left_at_end}
use Rattle.floor_simulation.proofs.Followed.{event-falls, event-midst, event-room, event-same, move-falls, move-midst, move-same, same-here}
use Rattle.floor_simulation.proofs.simulation.Simulation.take.Goals as goal

pub take_event-requires-clause-few : goal.take_event-requires-clause-few
take_event-requires-clause-few c =
    let now = c.args.self.now in
    event-room now.seed now.tournament now.place c.in-Take.place now.hands c.requires.midst c.in-Take.event
    (sym c.requires.next ∙ c.in-Take.is)

pub take_event-requires-clause-counted : goal.take_event-requires-clause-counted
take_event-requires-clause-counted c = c.requires.midst.counted

pub returns-in-End-clause-midst : goal.returns-in-End-clause-midst
returns-in-End-clause-midst c = c.requires.midst

pub returns-in-End-clause-same : goal.returns-in-End-clause-same
returns-in-End-clause-same c =
    let now = c.args.self.now in same-here now.seed now.tournament now.place now.hands

pub returns-in-End-clause-end : goal.returns-in-End-clause-end
returns-in-End-clause-end c = λ ends.
    let now = c.args.self.now in
    left_at_end now.seed now.tournament now.place (sym c.requires.next ∙ c.in-End.is)

pub returns-in_ok-take_event-in-Take-clause-midst : goal.returns-in_ok-take_event-in-Take-clause-midst
returns-in_ok-take_event-in-Take-clause-midst c =
    let now = c.args.self.now in
    let new = c.take_event.new.self in
    let taken = c.in_ok-take_event-in-Take.ensures in
    event-midst now.seed now.tournament now.place c.in-Take.place now.hands c.requires.midst c.in-Take.event
    (sym c.requires.next ∙ c.in-Take.is) new.tournament new.place new.hands taken.state taken.place taken.hands

pub returns-in_ok-take_event-in-Take-clause-same : goal.returns-in_ok-take_event-in-Take-clause-same
returns-in_ok-take_event-in-Take-clause-same c =
    let now = c.args.self.now in
    let new = c.take_event.new.self in
    let taken = c.in_ok-take_event-in-Take.ensures in
    event-same now.seed now.tournament now.place c.in-Take.place now.hands c.requires.midst c.in-Take.event
    (sym c.requires.next ∙ c.in-Take.is) new.tournament new.place new.hands taken.state taken.place taken.hands

pub returns-in_ok-take_event-in-Take-clause-falls : goal.returns-in_ok-take_event-in-Take-clause-falls
returns-in_ok-take_event-in-Take-clause-falls c = λ goes.
    let now = c.args.self.now in
    let new = c.take_event.new.self in
    let taken = c.in_ok-take_event-in-Take.ensures in
    event-falls now.seed now.tournament now.place c.in-Take.place now.hands c.requires.midst c.in-Take.event
    (sym c.requires.next ∙ c.in-Take.is) new.tournament new.place new.hands taken.state taken.place taken.hands

pub returns-in-Move-clause-midst : goal.returns-in-Move-clause-midst
returns-in-Move-clause-midst c =
    let now = c.args.self.now in
    move-midst now.seed now.tournament now.place c.in-Move.place now.hands c.requires.midst
    (sym c.requires.next ∙ c.in-Move.is)

pub returns-in-Move-clause-same : goal.returns-in-Move-clause-same
returns-in-Move-clause-same c =
    let now = c.args.self.now in
    move-same now.seed now.tournament now.place c.in-Move.place now.hands c.requires.midst
    (sym c.requires.next ∙ c.in-Move.is)

pub returns-in-Move-clause-falls : goal.returns-in-Move-clause-falls
returns-in-Move-clause-falls c = λ goes.
    let now = c.args.self.now in
    move-falls now.seed now.tournament now.place c.in-Move.place now.hands c.requires.midst
    (sym c.requires.next ∙ c.in-Move.is)
