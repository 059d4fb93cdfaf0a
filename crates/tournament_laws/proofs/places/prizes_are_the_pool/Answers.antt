use Rattle.tournament_rules.proofs.Steps.{valid_events}
use Rattle.tournament_laws.proofs.Prizes.{prizes-over, prizes-before}
use Rattle.tournament_laws.proofs.places.prizes_are_the_pool.Goals as goal

pub returns-clause-over : goal.returns-clause-over
returns-clause-over c = λ events play is. prizes-over play.book ((valid_events events).play play is).book

pub returns-clause-before : goal.returns-clause-before
returns-clause-before c = λ events play is. prizes-before play.book ((valid_events events).play play is).book
