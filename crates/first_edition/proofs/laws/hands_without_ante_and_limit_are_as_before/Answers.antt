use Rattle.first_edition.proofs.SameHands.{hand_same}
use Rattle.first_edition.proofs.laws.hands_without_ante_and_limit_are_as_before.Goals as goal

pub returns : goal.returns
returns c = hand_same
