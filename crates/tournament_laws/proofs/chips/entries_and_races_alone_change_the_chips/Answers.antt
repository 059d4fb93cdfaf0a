use Rattle.tournament_laws.proofs.ChipLaws.{sold-after, removed-after, added-after, refused-after}
use Rattle.tournament_laws.proofs.chips.entries_and_races_alone_change_the_chips.Goals as goal

pub returns-clause-sold : goal.returns-clause-sold
returns-clause-sold c = sold-after

pub returns-clause-removed : goal.returns-clause-removed
returns-clause-removed c = removed-after

pub returns-clause-added : goal.returns-clause-added
returns-clause-added c = added-after

pub returns-clause-refused : goal.returns-clause-refused
returns-clause-refused c = refused-after
