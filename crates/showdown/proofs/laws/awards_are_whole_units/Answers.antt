use Rattle.showdown.specs.Hands.{hands_of}
use Rattle.showdown.proofs.Each.{whole-awards_of}
use Rattle.showdown.proofs.laws.awards_are_whole_units.Goals as goal

pub returns : goal.returns
returns c = λ game board live. whole-awards_of (hands_of game board live)
