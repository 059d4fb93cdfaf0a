use Rattle.std.proofs.Common.{◌≡◌}
use Rattle.pot_layers.proofs.Told.{told_so_far}
use Rattle.pot_layers.proofs.pot_tally.PotTally.of.Given as goal

abbrev pub invariant-loop-index : goal.invariant-loop-index
invariant-loop-index l = l.tally ≡ record { puts = told_so_far l.puts l.index; dead = 0 }
