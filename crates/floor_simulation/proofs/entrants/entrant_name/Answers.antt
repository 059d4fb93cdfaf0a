use Rattle.std.proofs.Common.{◌≡◌, rules}
use Rattle.simulation_rules.specs.Entrants.{entrant_name}
use Rattle.floor_simulation.proofs.EntrantNames.{entrant-named}
use Rattle.floor_simulation.proofs.entrants.entrant_name.Goals as goal

pub unwrap-requires : goal.unwrap-requires
unwrap-requires c =
    let text : c.deref.result.now ≡ entrant_name c.args.before = search rules in
    c.read.ensures.some.1 (rw text (entrant-named c.args.before c.requires))
