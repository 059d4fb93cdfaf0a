use Rattle.chip_race.proofs.Chips.{winners-once}
use Rattle.chip_race.proofs.laws.nobody_wins_two_chips.Goals as goal

pub returns : goal.returns
returns c = winners-once
