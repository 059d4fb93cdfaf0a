use Rattle.simulation_rules.specs.Places.{first_place}
use Rattle.simulation_rules.specs.Runs.{plan_events}
use Rattle.tournament_rules.specs.States.{first_state, run}
use Rattle.floor_simulation.proofs.Followed.{IsEnded}
use Rattle.floor_simulation.proofs.WholeGames.{begun-midst, ended-whole}
use Rattle.floor_simulation.proofs.play.played.Goals as goal

pub play-requires : goal.play-requires
play-requires c = rw c.in_ok-planned.ensures (begun-midst c.args.seed c.args.plan.now c.requires)

pub returns-clause-state : goal.returns-clause-state
returns-clause-state c =
    let new = c.play.new.self in
    let begun = c.in_ok-planned.ensures in
    let ends : IsEnded c.args.seed (run first_state (plan_events c.args.plan.now)) first_place 0 new.tournament
    new.hands = record {
      state = rw begun at c.in_ok-play.ensures.state;
      hands = rw begun at c.in_ok-play.ensures.hands;
      events = rw begun at c.in_ok-play.ensures.events;
    } in
    (ended-whole c.args.seed c.args.plan.now c.requires new.tournament new.hands ends).state

pub returns-clause-hands : goal.returns-clause-hands
returns-clause-hands c =
    let new = c.play.new.self in
    let begun = c.in_ok-planned.ensures in
    let ends : IsEnded c.args.seed (run first_state (plan_events c.args.plan.now)) first_place 0 new.tournament
    new.hands = record {
      state = rw begun at c.in_ok-play.ensures.state;
      hands = rw begun at c.in_ok-play.ensures.hands;
      events = rw begun at c.in_ok-play.ensures.events;
    } in
    (ended-whole c.args.seed c.args.plan.now c.requires new.tournament new.hands ends).hands

pub returns-clause-events : goal.returns-clause-events
returns-clause-events c =
    let new = c.play.new.self in
    let begun = c.in_ok-planned.ensures in
    let ends : IsEnded c.args.seed (run first_state (plan_events c.args.plan.now)) first_place 0 new.tournament
    new.hands = record {
      state = rw begun at c.in_ok-play.ensures.state;
      hands = rw begun at c.in_ok-play.ensures.hands;
      events = rw begun at c.in_ok-play.ensures.events;
    } in
    (ended-whole c.args.seed c.args.plan.now c.requires new.tournament new.hands ends).events
