use Rattle.tournament_rules.specs.States.{first_state, run}
use Rattle.tournament_rules.proofs.Steps.{valid_events}
use Rattle.tournament_laws.proofs.Counting.{level-run, level_listed, plan-run}
use Rattle.tournament_laws.proofs.levels.levels_follow_the_plan.Goals as goal

pub returns-clause-never_falls : goal.returns-clause-never_falls
returns-clause-never_falls c = λ before after earlier is later then.
    level-run (run first_state before) after earlier later is then

pub returns-clause-listed : goal.returns-clause-listed
returns-clause-listed c = λ events play is. level_listed play.book ((valid_events events).play play is).book

pub returns-clause-same_plan : goal.returns-clause-same_plan
returns-clause-same_plan c = λ before after earlier is later then.
    plan-run (run first_state before) after earlier later is then
