use Rattle.tournament_rules.proofs.Steps.{valid_events}
use Rattle.tournament_laws.proofs.levels.units_follow_the_level.Goals as goal

pub returns-clause-own : goal.returns-clause-own
returns-clause-own c = λ events table play is there none.
    (((valid_events events).play play is).book.units.units table there).own none

pub returns-clause-new : goal.returns-clause-new
returns-clause-new c = λ events table play is there.
    (((valid_events events).play play is).book.units.units table there).new

pub returns-clause-from : goal.returns-clause-from
returns-clause-from c = λ events table play is there.
    (((valid_events events).play play is).book.units.units table there).from
