use Rattle.tournament_rules.specs.States.{first_state, run}
use Rattle.tournament_laws.proofs.TableLaws.{entered_few, reentered_few}
use Rattle.tournament_laws.proofs.tables.entries_go_to_the_fewest.Goals as goal

pub returns-clause-entry : goal.returns-clause-entry
returns-clause-entry c = λ events name table seat other play is.
    entered_few (run first_state events) play name table seat other is

pub returns-clause-reentry : goal.returns-clause-reentry
returns-clause-reentry c = λ events name table seat other play is.
    reentered_few (run first_state events) play name table seat other is
