use Rattle.std.proofs.Common.{get_or}
use Rattle.tournament_rules.specs.States.{first_state, run}
use Rattle.tournament_rules.proofs.Steps.{valid_events}
use Rattle.tournament_laws.proofs.WhoIsBust.{no_seat, in_no_hand, not_dealt, act_not_accepted}
use Rattle.tournament_laws.proofs.Growing.{run_extends, head_stays, stays_out}
use Rattle.tournament_laws.proofs.players.who_is_bust_stays_bust_until_he_reenters.Goals as goal

pub returns-clause-seat : goal.returns-clause-seat
returns-clause-seat c = λ events play is. no_seat play.book ((valid_events events).play play is).book

pub returns-clause-hand : goal.returns-clause-hand
returns-clause-hand c = λ events table play is k d within.
    let valid = (valid_events events).play play is in
    in_no_hand play.book table (get_or play.book.busts k d).player valid.book (no_seat play.book valid.book k d within)

pub returns-clause-dealt : goal.returns-clause-dealt
returns-clause-dealt c = λ events table cards play is k d within.
    let valid = (valid_events events).play play is in
    not_dealt play.book table (get_or play.book.busts k d).player cards (no_seat play.book valid.book k d within)

pub returns-clause-act : goal.returns-clause-act
returns-clause-act c = λ events table act play is k d within name named.
    let valid = (valid_events events).play play is in
    act_not_accepted (run first_state events) play table (get_or play.book.busts k d).player name act is valid named
    (no_seat play.book valid.book k d within)

pub returns-clause-stays : goal.returns-clause-stays
returns-clause-stays c = λ before after bust name earlier is row named none later then.
    stays_out (run first_state before) after earlier later bust name is then row named none

pub returns-clause-grows : goal.returns-clause-grows
returns-clause-grows c = λ before after earlier is none later then.
    head_stays earlier.book.busts later.book.busts
    (run_extends (run first_state before) after earlier later is then none)
