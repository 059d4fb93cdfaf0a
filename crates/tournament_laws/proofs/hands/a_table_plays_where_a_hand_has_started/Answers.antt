use Rattle.tournament_rules.proofs.Steps.{valid_events}
use Rattle.tournament_laws.proofs.hands.a_table_plays_where_a_hand_has_started.Goals as goal

pub returns : goal.returns
returns c = λ events table play is. ((valid_events events).play play is).book.tables.playing table
