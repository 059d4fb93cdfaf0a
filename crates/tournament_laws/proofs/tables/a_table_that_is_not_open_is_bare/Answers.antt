use Rattle.tournament_rules.proofs.Steps.{valid_events}
use Rattle.tournament_laws.proofs.TableLaws.{no_players, no_hand, no_marks, no_race}
use Rattle.tournament_laws.proofs.tables.a_table_that_is_not_open_is_bare.Goals as goal

pub returns-clause-players : goal.returns-clause-players
returns-clause-players c = λ events table play is. no_players play.book table

pub returns-clause-hand : goal.returns-clause-hand
returns-clause-hand c = λ events table play is. no_hand play.book table ((valid_events events).play play is).book

pub returns-clause-marks : goal.returns-clause-marks
returns-clause-marks c = λ events table play is. no_marks play.book table ((valid_events events).play play is).book

pub returns-clause-race : goal.returns-clause-race
returns-clause-race c = λ events table play is. no_race play.book table ((valid_events events).play play is).book
