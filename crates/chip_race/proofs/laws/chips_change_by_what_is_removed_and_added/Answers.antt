use Rattle.chip_race.proofs.SeatLaws.{chips_change}
use Rattle.chip_race.proofs.laws.chips_change_by_what_is_removed_and_added.Goals as goal

pub returns : goal.returns
returns c = chips_change
