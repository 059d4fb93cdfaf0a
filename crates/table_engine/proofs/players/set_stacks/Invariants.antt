use Rattle.std.proofs.Common.{◌≡◌, ◌++◌, take, drop, map}
use Rattle.std.specs.List.{zip}
use Rattle.table_engine.specs.Results.{with_stack}
use Rattle.table_engine.proofs.players.set_stacks.Given as goal

abbrev pub invariant-loop-index : goal.invariant-loop-index
invariant-loop-index l = l.players ≡ map (λ pair. with_stack pair.0 pair.1)
    (take l.index (zip l.initial.players l.stacks)) ++ drop l.index l.initial.players
