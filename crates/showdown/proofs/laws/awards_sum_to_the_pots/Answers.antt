use Rattle.std.proofs.Common.{◌≡◌, true, List, Bool, subst, sym}
use Rattle.button_blinds.specs.SeatSets.{AreSeatsOf}
use Rattle.pot_layers.specs.PotTests.{are_for}
use Rattle.showdown.specs.Hands.{hands_of}
use Rattle.showdown.proofs.Writes.{seats-hands_of}
use Rattle.showdown.proofs.AwardLaws.{sum-awards_of}
use Rattle.showdown.proofs.laws.awards_sum_to_the_pots.Goals as goal

pub returns : goal.returns
returns c = λ game board live unit button seats pots most low high table own somebody units.
    let same = sym (seats-hands_of game board live) in
    sum-awards_of (hands_of game board live) unit button seats pots most (low, high)
    (subst (λ (set : List Bool). AreSeatsOf seats set) same table)
    (subst (λ (set : List Bool). are_for set pots ≡ true) same own) somebody units
