use Rattle.std.proofs.Common.{sym, arith}
use Rattle.hand_rank.proofs.SetLaws.{highest-empty, highest-some}
use Rattle.hand_rank.proofs.rank_set.RankSet.highest.Goals as goal

pub returns-then-self-eq0-clause-rank : goal.returns-then-self-eq0-clause-rank
returns-then-self-eq0-clause-rank c = sym (highest-empty c.args.self.bits c.if-self-eq0.true)

pub returns-else-self-eq0-clause-rank : goal.returns-else-self-eq0-clause-rank
returns-else-self-eq0-clause-rank c = sym (highest-some c.args.self.bits c.if-self-eq0.false (omega arith))
