use Rattle.std.proofs.Common.{length}
use Rattle.card_choices.proofs.distinct.+differ.Given as goal

abbrev pub decreases-differ : goal.decreases-differ
decreases-differ l = length l.cards.now
