use Rattle.tournament_rules.proofs.Steps.{valid_events}
use Rattle.tournament_laws.proofs.TableLaws.{one_hand}
use Rattle.tournament_laws.proofs.hands.nobody_is_dealt_in_at_two_tables.Goals as goal

pub returns : goal.returns
returns c = λ events number table other play is.
    one_hand play.book number table other ((valid_events events).play play is).book
