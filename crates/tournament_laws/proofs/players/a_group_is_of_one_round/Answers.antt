use Rattle.tournament_rules.specs.States.{first_state, run}
use Rattle.tournament_laws.proofs.GroupLaws.{one_group, group_rises, rounds_apart, settles_apart}
use Rattle.tournament_rules.proofs.Steps.{valid_events, valid_run}
use Rattle.tournament_laws.proofs.players.a_group_is_of_one_round.Goals as goal

pub returns-clause-one : goal.returns-clause-one
returns-clause-one c = λ before during earlier is on none later after.
    one_group (run first_state before) during earlier later is after
    ((valid_run (run first_state before) during (valid_events before)).play later after) on none

pub returns-clause-rises : goal.returns-clause-rises
returns-clause-rises c = λ before event earlier is kind taken later.
    group_rises (run first_state before) event earlier later is kind taken

pub returns-clause-rounds : goal.returns-clause-rounds
returns-clause-rounds c = λ before after event earlier is kind taken later ends.
    rounds_apart (run first_state before) after event earlier later is
    ((valid_events before).play earlier is) kind taken
    ends

pub returns-clause-settles : goal.returns-clause-settles
returns-clause-settles c = λ before after table play is off taken earlier middle later ends.
    settles_apart (run first_state before) after table play earlier later is
    ((valid_events before).play play is) off taken
    middle ends
