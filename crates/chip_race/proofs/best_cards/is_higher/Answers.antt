use Rattle.std.proofs.Common.{rules}
use Rattle.chip_race.proofs.best_cards.is_higher.Goals as goal

pub returns-then-one-other-2 : goal.returns-then-one-other-2
returns-then-one-other-2 c = search rules
