use Rattle.std.proofs.Common.{arith}
use Rattle.std.proofs.lemmas.Grind.{common_steps}
use Rattle.betting_round.proofs.street.+put_by_players.Goals as goal

pub put_by_players-requires : goal.put_by_players-requires
put_by_players-requires c = grind (arith, common_steps)

pub put_by_players-requires-in-Some : goal.put_by_players-requires-in-Some
put_by_players-requires-in-Some c = grind (arith, common_steps)

pub returns-in-None-clause-few : goal.returns-in-None-clause-few
returns-in-None-clause-few c = grind (arith, common_steps)

pub returns-in-None-clause-put : goal.returns-in-None-clause-put
returns-in-None-clause-put c = grind (arith, common_steps)

pub returns-in-Some-clause-few : goal.returns-in-Some-clause-few
returns-in-Some-clause-few c = grind (arith, common_steps)

pub returns-in-Some-clause-put : goal.returns-in-Some-clause-put
returns-in-Some-clause-put c = grind (arith, common_steps)

pub returns-in-empty-clause-put : goal.returns-in-empty-clause-put
returns-in-empty-clause-put c = grind (arith, common_steps)
