use Rattle.tournament_rules.specs.States.{first_state, run}
use Rattle.tournament_laws.proofs.RaceLaws.{races-once}
use Rattle.tournament_laws.proofs.levels.a_table_races_once_between_levels.Goals as goal

pub returns : goal.returns
returns c = λ before between table row other. races-once (run first_state before) between table row other
