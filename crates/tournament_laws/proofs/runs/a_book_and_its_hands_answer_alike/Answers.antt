use Rattle.tournament_laws.proofs.Apart.{first_answers_alike, first_runs_alike, tournament_answers_alike, tournament_runs_alike, tournament_reports_alike}
use Rattle.tournament_laws.proofs.runs.a_book_and_its_hands_answer_alike.Goals as goal

pub returns-clause-plan : goal.returns-clause-plan
returns-clause-plan c = first_answers_alike

pub returns-clause-plan_state : goal.returns-clause-plan_state
returns-clause-plan_state c = first_runs_alike

pub returns-clause-tournament : goal.returns-clause-tournament
returns-clause-tournament c = tournament_answers_alike

pub returns-clause-state : goal.returns-clause-state
returns-clause-state c = tournament_runs_alike

pub returns-clause-report : goal.returns-clause-report
returns-clause-report c = tournament_reports_alike
