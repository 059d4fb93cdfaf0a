use Rattle.tournament_rules.specs.States.{first_state, run}
use Rattle.tournament_laws.proofs.TableLaws.{halted_waits}
use Rattle.tournament_laws.proofs.tables.halted_tables_wait.Goals as goal

pub returns : goal.returns
returns c = λ events table row play is. halted_waits (run first_state events) play table row is
