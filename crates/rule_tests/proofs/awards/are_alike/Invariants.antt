use Rattle.std.proofs.Common.{◌≡◌, take}
use Rattle.std.specs.Prelude.{map, is_some}
use Rattle.pot_layers.specs.PotTests.{live_seats}
use Rattle.rule_tests.proofs.awards.are_alike.Given as goal

abbrev pub invariant-loop-index : goal.invariant-loop-index
invariant-loop-index l = map is_some (take l.index l.live) ≡ live_seats (take l.index l.puts)
