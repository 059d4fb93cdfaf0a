use Rattle.floor_director.proofs.Spreading.{balances-end, spread-few, spread-narrows}
use Rattle.floor_director.proofs.laws.balances_come_to_an_end.Goals as goal

pub returns-clause-narrows : goal.returns-clause-narrows
returns-clause-narrows c = λ seating from to move_ valid lawful.
    spread-narrows seating from to move_ valid lawful

pub returns-clause-ends : goal.returns-clause-ends
returns-clause-ends c = λ seating balances are. balances-end seating balances are

pub returns-clause-few : goal.returns-clause-few
returns-clause-few c = λ seating valid. spread-few seating valid
