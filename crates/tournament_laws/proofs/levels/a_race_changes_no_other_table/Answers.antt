use Rattle.tournament_laws.proofs.RaceLaws.{race-tables, race-players, race-hands}
use Rattle.tournament_laws.proofs.levels.a_race_changes_no_other_table.Goals as goal

pub returns-clause-tables : goal.returns-clause-tables
returns-clause-tables c = race-tables

pub returns-clause-players : goal.returns-clause-players
returns-clause-players c = race-players

pub returns-clause-hands : goal.returns-clause-hands
returns-clause-hands c = race-hands
