use Rattle.std.proofs.Common.{◌≡◌}
use Rattle.std.specs.Option.{is_some}
use Rattle.pot_layers.proofs.PayersSoFar.{seats_so_far}
use Rattle.table_engine.proofs.dealing.dealt_seats.Given as goal

abbrev pub invariant-loop-index : goal.invariant-loop-index
invariant-loop-index l = l.dealt ≡ seats_so_far is_some l.players l.index
