use Rattle.chip_race.proofs.SeatLaws.{stays_empty}
use Rattle.chip_race.proofs.laws.an_empty_seat_stays_empty.Goals as goal

pub returns : goal.returns
returns c = stays_empty
