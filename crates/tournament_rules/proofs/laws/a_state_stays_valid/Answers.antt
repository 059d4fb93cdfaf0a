use Rattle.tournament_rules.proofs.Steps.{valid_events}
use Rattle.tournament_rules.proofs.laws.a_state_stays_valid.Goals as goal

pub returns : goal.returns
returns c = valid_events
