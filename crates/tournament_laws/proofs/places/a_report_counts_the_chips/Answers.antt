use Rattle.tournament_rules.specs.States.{first_state, run}
use Rattle.tournament_rules.proofs.Steps.{valid_events}
use Rattle.tournament_laws.proofs.ReportedChips.{reported_kept, rest_of_seats}
use Rattle.tournament_laws.proofs.places.a_report_counts_the_chips.Goals as goal

pub returns-clause-kept : goal.returns-clause-kept
returns-clause-kept c = λ events. reported_kept (run first_state events).play (valid_events events).play

pub returns-clause-rest : goal.returns-clause-rest
returns-clause-rest c = λ events. rest_of_seats (run first_state events).play (valid_events events).play
