use Rattle.std.proofs.Common.{◌≡◌, ◌-◌, ◌++◌, take, false, replicate}
use Rattle.std.specs.Prelude.{map}
use Rattle.pot_layers.specs.Layers.{is_eligible}
use Rattle.pot_layers.proofs.reach.live_payers.Given as goal

abbrev pub invariant-loop-index : goal.invariant-loop-index
invariant-loop-index l = l.payers ≡ map (λ reach. is_eligible l.height reach.put)
    (take l.index l.reaches) ++ replicate (10 - l.index) false
