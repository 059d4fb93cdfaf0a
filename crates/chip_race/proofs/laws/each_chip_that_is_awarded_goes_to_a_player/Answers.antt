use Rattle.chip_race.proofs.Chips.{length-winners}
use Rattle.chip_race.proofs.laws.each_chip_that_is_awarded_goes_to_a_player.Goals as goal

pub returns : goal.returns
returns c = length-winners
