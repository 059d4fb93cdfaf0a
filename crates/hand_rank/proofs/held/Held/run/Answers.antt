use Rattle.hand_rank.proofs.NearLaws.{run-with}
use Rattle.hand_rank.proofs.held.Held.run.Goals as goal

pub returns-clause-highest : goal.returns-clause-highest
returns-clause-highest c hole count near ranks =
    run-with hole count c.args.ranks.bits c.args.self.near.bits c.meet.result.bits c.highest_run.result near ranks
    c.meet.ensures c.highest_run.ensures.top
