use Rattle.balance_rule.proofs.Balances.{gives-one, takes-one, others-same, still-fewer}
use Rattle.balance_rule.proofs.laws.a_balance_narrows_the_gap.Goals as goal

pub returns-clause-from_a_fullest : goal.returns-clause-from_a_fullest
returns-clause-from_a_fullest c = λ seating from to other move_ lawful. lawful.lawful.fullest other

pub returns-clause-to_a_fewest : goal.returns-clause-to_a_fewest
returns-clause-to_a_fewest c = λ seating from to other move_ lawful. lawful.lawful.fewest other

pub returns-clause-gives : goal.returns-clause-gives
returns-clause-gives c = gives-one

pub returns-clause-takes : goal.returns-clause-takes
returns-clause-takes c = takes-one

pub returns-clause-others : goal.returns-clause-others
returns-clause-others c =
    λ seating from to other move_ valid lawful. others-same seating from to move_ valid lawful other

pub returns-clause-narrower : goal.returns-clause-narrower
returns-clause-narrower c = still-fewer
