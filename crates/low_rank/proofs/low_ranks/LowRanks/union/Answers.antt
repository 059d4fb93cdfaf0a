use Rattle.std.proofs.lemmas.Nat.{or_lt}
use Rattle.low_rank.proofs.low_ranks.LowRanks.union.Goals as goal

pub invariant_of-result : goal.invariant_of-result
invariant_of-result c = record { low = or_lt 9 c.args.self.bits c.args.other.bits c.args.self.low c.args.other.low }
