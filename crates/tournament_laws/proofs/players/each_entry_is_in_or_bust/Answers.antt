use Rattle.tournament_laws.proofs.Holds.{in_or_bust}
use Rattle.tournament_rules.proofs.InOrBust.{all-counted}
use Rattle.tournament_rules.proofs.Steps.{valid_events}
use Rattle.tournament_laws.proofs.players.each_entry_is_in_or_bust.Goals as goal

pub returns-clause-one : goal.returns-clause-one
returns-clause-one c = λ events play is. in_or_bust play.book ((valid_events events).play play is).book

pub returns-clause-all : goal.returns-clause-all
returns-clause-all c = λ events play is.
    all-counted play.book.entries play.book.seating.players play.book.busts
    ((valid_events events).play play is).book.entries.once

pub returns-clause-named : goal.returns-clause-named
returns-clause-named c = λ events play is. ((valid_events events).play play is).book.entries.named
