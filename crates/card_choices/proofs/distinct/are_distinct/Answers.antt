use Rattle.card_choices.proofs.DistinctLaws.{distinct-from_test}
use Rattle.card_choices.proofs.distinct.are_distinct.Goals as goal

pub returns : goal.returns
returns c = distinct-from_test c.differ_together.result _ c.differ_together.ensures
