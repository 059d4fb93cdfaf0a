use Rattle.floor_simulation.proofs.TextTold.{told-whole}
use Rattle.floor_simulation.proofs.text.simulation_text.Goals as goal

pub returns : goal.returns
returns c =
    let played = c.in_ok-played.played in
    let seed = c.seed_of.ensures in
    rw (told-whole c.args.number played.hands c.args.plan.now played.tournament
    (rw seed at c.in_ok-played.ensures.state) (rw seed at c.in_ok-played.ensures.hands)
    (rw seed at c.in_ok-played.ensures.events)) at c.told.ensures
