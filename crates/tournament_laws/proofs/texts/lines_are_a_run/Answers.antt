use Rattle.tournament_rules.specs.States.{first_state}
use Rattle.tournament_laws.proofs.ItemRuns.{state_after_items_is_run, answers_to_events}
use Rattle.tournament_laws.proofs.texts.lines_are_a_run.Goals as goal

pub returns-clause-state : goal.returns-clause-state
returns-clause-state c = state_after_items_is_run first_state

pub returns-clause-answers : goal.returns-clause-answers
returns-clause-answers c = answers_to_events first_state
