use Rattle.table_engine.proofs.betting.Betting.+deal_on.Given as goal

abbrev pub decreases-deal_on : goal.decreases-deal_on
decreases-deal_on l = l.self.now.left
