use Rattle.chip_race.proofs.SeatLaws.{whole_chips}
use Rattle.chip_race.proofs.laws.stacks_are_whole_chips_of_the_new_unit.Goals as goal

pub returns : goal.returns
returns c = whole_chips
