use Rattle.tournament_laws.proofs.Holds.{stacks_above, stacks_whole}
use Rattle.tournament_rules.proofs.Steps.{valid_events}
use Rattle.tournament_laws.proofs.chips.stacks_are_lawful.Goals as goal

pub returns-clause-above : goal.returns-clause-above
returns-clause-above c = λ events play is. stacks_above play.book ((valid_events events).play play is).book

pub returns-clause-multiple : goal.returns-clause-multiple
returns-clause-multiple c = λ events play is. stacks_whole play.book ((valid_events events).play play is).book
