use Rattle.std.proofs.Common.{◌∙◌, sym}
use Rattle.table_engine.specs.Hands.{with_next_street}
use Rattle.table_engine.proofs.Running.{at-ended, at-open}
use Rattle.table_engine.proofs.betting.Betting.+deal_on.Goals as goal

pub returns-then-not-has_ended-clause-at : goal.returns-then-not-has_ended-clause-at
returns-then-not-has_ended-clause-at t c = λ streets at. at-open c.args.start.now streets c.args.self.now
    (sym c.has_ended.ensures ∙ c.if-not-has_ended.true) at

pub returns-clause-at : goal.returns-clause-at
returns-clause-at t c = λ streets at.
    at-ended c.args.start.now streets c.args.self.now c.begin_next.new.self _ c.if-self-eq0.false
    (sym c.has_ended.ensures ∙ c.if-not-has_ended.false) c.begin_next.ensures.left at
    (c.deal_on.ensures.at (with_next_street c.args.start.now streets) (c.begin_next.ensures.at streets at))
