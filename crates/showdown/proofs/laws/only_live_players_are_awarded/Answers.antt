use Rattle.std.proofs.Common.{◌≡◌, false, true, List, Bool, suc, subst, sym}
use Rattle.button_blinds.specs.SeatSets.{has_seat}
use Rattle.pot_layers.specs.PotTests.{are_for}
use Rattle.showdown.specs.Hands.{hands_of}
use Rattle.showdown.proofs.Each.{none-awards_of}
use Rattle.showdown.proofs.Writes.{seats-hands_of}
use Rattle.showdown.proofs.laws.only_live_players_are_awarded.Goals as goal

pub returns : goal.returns
returns c = λ game board live unit button seats pots index out own.
    let same = sym (seats-hands_of game board live) in
    none-awards_of (hands_of game board live) unit button seats pots index
    (subst (λ (set : List Bool). has_seat set (suc index) ≡ false) same out)
    (subst (λ (set : List Bool). are_for set pots ≡ true) same own)
