use Rattle.std.proofs.Common.{length}
use Rattle.card_choices.proofs.distinct.+differ_together.Given as goal

abbrev pub decreases-differ_together : goal.decreases-differ_together
decreases-differ_together l = length l.hole.now
