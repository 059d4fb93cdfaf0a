use Rattle.chip_race.proofs.SeatLaws.{stays_in}
use Rattle.chip_race.proofs.laws.each_player_stays_in.Goals as goal

pub returns : goal.returns
returns c = stays_in
