use Rattle.tournament_rules.specs.States.{first_state, run}
use Rattle.tournament_rules.proofs.Steps.{valid_events}
use Rattle.tournament_laws.proofs.StaysOver.{over-run}
use Rattle.tournament_laws.proofs.players.once_over_it_stays_over.Goals as goal

pub returns-clause-over : goal.returns-clause-over
returns-clause-over c = λ before after earlier is over later then.
    (over-run (run first_state before) after earlier later is then ((valid_events before).play earlier is) over).0

pub returns-clause-player : goal.returns-clause-player
returns-clause-player c = λ before after earlier is over later then.
    (over-run (run first_state before) after earlier later is then ((valid_events before).play earlier is) over).1
