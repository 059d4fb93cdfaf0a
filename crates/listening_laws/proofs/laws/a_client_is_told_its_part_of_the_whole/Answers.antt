use Rattle.listening_laws.proofs.ToldClients.{told-floor, told-tables}
use Rattle.listening_laws.proofs.laws.a_client_is_told_its_part_of_the_whole.Goals as goal

pub returns-clause-tables : goal.returns-clause-tables
returns-clause-tables c = told-tables

pub returns-clause-floor : goal.returns-clause-floor
returns-clause-floor c = told-floor
