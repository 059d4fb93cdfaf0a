use Rattle.tournament_laws.proofs.Holds.{hand_players}
use Rattle.tournament_rules.proofs.Steps.{valid_events}
use Rattle.tournament_laws.proofs.hands.hands_have_their_players.Goals as goal

pub returns : goal.returns
returns c = λ events table play is. hand_players play.book ((valid_events events).play play is).book table
