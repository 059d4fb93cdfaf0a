use Rattle.std.proofs.Common.{arith}
use Rattle.hand_rank.proofs.RunTable.{run-none, run-some, run-within, steps_of, runs_of}
use Rattle.hand_rank.proofs.rank_set.RankSet.highest_run.Goals as goal

pub returns-then-runs-eq0-clause-top : goal.returns-then-runs-eq0-clause-top
unfolding steps_of runs_of
returns-then-runs-eq0-clause-top c count has = run-none c.args.self.bits count (omega arith) has c.if-runs-eq0.true

pub returns-else-runs-eq0-clause-top : goal.returns-else-runs-eq0-clause-top
unfolding steps_of runs_of
returns-else-runs-eq0-clause-top c count has = run-some c.args.self.bits count (omega arith) has c.if-runs-eq0.false

pub returns-else-runs-eq0-clause-within : goal.returns-else-runs-eq0-clause-within
unfolding steps_of runs_of
returns-else-runs-eq0-clause-within c = run-within c.args.self.bits (omega arith) c.if-runs-eq0.false
