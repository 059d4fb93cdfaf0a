use Rattle.chip_race.proofs.SeatLaws.{gets_one_chip}
use Rattle.chip_race.proofs.laws.nobody_gets_more_than_one_chip.Goals as goal

pub returns : goal.returns
returns c = gets_one_chip
