use Rattle.std.proofs.Common.{ap}
use Rattle.dock_rules.specs.Tables.{lying_hand}
use Rattle.dock_tests.proofs.told.lines_are_told_from_the_middle.Goals as goal

-- Nothing was told so far, and no hand lies at a table of no entries.
pub tell-requires-clause-told : goal.tell-requires-clause-told
unfolding lying_hand
tell-requires-clause-told g c = ap (λ told. told.hand) c.new-teller.ensures
