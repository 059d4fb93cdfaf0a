use Rattle.chip_race.proofs.SeatLaws.{loses_odd_chips}
use Rattle.chip_race.proofs.laws.nobody_loses_more_than_his_odd_chips.Goals as goal

pub returns : goal.returns
returns c = loses_odd_chips
