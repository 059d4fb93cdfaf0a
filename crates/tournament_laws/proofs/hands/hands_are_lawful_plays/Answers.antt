use Rattle.tournament_laws.proofs.Holds.{hand_started}
use Rattle.tournament_rules.proofs.Steps.{valid_events}
use Rattle.tournament_laws.proofs.hands.hands_are_lawful_plays.Goals as goal

pub returns-clause-start : goal.returns-clause-start
returns-clause-start c = λ events table play is. hand_started play ((valid_events events).play play is) table

pub returns-clause-play : goal.returns-clause-play
returns-clause-play c = λ events table play is. ((valid_events events).play play is).plays table
