use Rattle.tournament_rules.specs.States.{first_state, run}
use Rattle.tournament_rules.proofs.Steps.{valid_events}
use Rattle.tournament_laws.proofs.TableLaws.{left_after}
use Rattle.tournament_laws.proofs.tables.a_broken_table_is_left.Goals as goal

pub returns : goal.returns
returns c = λ events table places names play is accepted.
    left_after (run first_state events) play table places names is ((valid_events events).play play is) accepted
