use Rattle.tournament_laws.proofs.NoneStuck.{time_taken, settle_taken}
use Rattle.tournament_laws.proofs.hands.no_hand_gets_stuck.Goals as goal

pub returns-clause-time : goal.returns-clause-time
returns-clause-time c = time_taken

pub returns-clause-settle : goal.returns-clause-settle
returns-clause-settle c = settle_taken
