use Rattle.tournament_events.specs.declared.event.Event.TheVariants.{Balance, Break}
use Rattle.tournament_rules.specs.States.{first_state, run}
use Rattle.tournament_rules.proofs.Balances.{balance_passed}
use Rattle.tournament_rules.proofs.Breaks.{break_passed}
use Rattle.tournament_rules.proofs.MoveLaws.{not_refused, balance_lawful, break_lawful}
use Rattle.tournament_rules.proofs.Passed.{passed-parts}
use Rattle.tournament_rules.proofs.Steps.{valid_events}
use Rattle.tournament_laws.proofs.tables.moves_are_lawful.Goals as goal

pub returns-clause-balances : goal.returns-clause-balances
returns-clause-balances c = λ events from to play is accepted.
    let none = not_refused (run first_state events) play (Balance from to) is accepted in
    balance_lawful play.book from to ((valid_events events).play play is).book
    (balance_passed play.book from to (passed-parts play (Balance from to) none).0)

pub returns-clause-breaks : goal.returns-clause-breaks
returns-clause-breaks c = λ events table places names play is accepted.
    let none = not_refused (run first_state events) play (Break table places names) is accepted in
    break_lawful play.book table places names ((valid_events events).play play is).book
    (break_passed play.book table places names (passed-parts play (Break table places names) none).0)
