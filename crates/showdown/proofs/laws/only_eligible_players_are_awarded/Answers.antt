use Rattle.showdown.specs.Hands.{hands_of}
use Rattle.showdown.proofs.AwardLaws.{award_pot-other}
use Rattle.showdown.proofs.laws.only_eligible_players_are_awarded.Goals as goal

pub returns : goal.returns
returns c = λ game board live. award_pot-other (hands_of game board live)
