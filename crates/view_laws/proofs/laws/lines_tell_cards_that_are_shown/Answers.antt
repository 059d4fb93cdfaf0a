use Rattle.tournament_rules.specs.States.{first_state, run}
use Rattle.view_laws.proofs.CardsTold.{told-shown}
use Rattle.view_laws.proofs.laws.lines_tell_cards_that_are_shown.Goals as goal

pub returns : goal.returns
returns c = λ who before event table. told-shown who (run first_state before) event table
