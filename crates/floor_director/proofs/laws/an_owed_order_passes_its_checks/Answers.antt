use Rattle.balance_rule.proofs.Converse.{lawful-checked}
use Rattle.floor_director.proofs.OwedChecks.{lawful-draw, lawful-next, lawful-room, owed-no_race, owed-no_round}
use Rattle.floor_director.proofs.laws.an_owed_order_passes_its_checks.Goals as goal

pub returns-clause-no_race : goal.returns-clause-no_race
returns-clause-no_race c = λ seating seed number order owed. owed-no_race seating seed number order owed

pub returns-clause-no_round : goal.returns-clause-no_round
returns-clause-no_round c = λ seating seed number order owed. owed-no_round seating seed number order owed

pub returns-clause-from_rests : goal.returns-clause-from_rests
returns-clause-from_rests c = λ seating seed number from to owed. owed.lawful.1.lawful.free

pub returns-clause-to : goal.returns-clause-to
returns-clause-to c = λ seating seed number from to owed. owed.lawful.1.lawful.number

pub returns-clause-to_open : goal.returns-clause-to_open
returns-clause-to_open c = λ seating seed number from to owed. owed.lawful.1.lawful.opened

pub returns-clause-balanced : goal.returns-clause-balanced
returns-clause-balanced c = λ seating seed number from to owed.
    lawful-checked seating from to owed.lawful.0 owed.lawful.1

pub returns-clause-rests : goal.returns-clause-rests
returns-clause-rests c = λ seating seed number table seats names owed. owed.lawful.lawful.free

pub returns-clause-last : goal.returns-clause-last
returns-clause-last c = λ seating seed number table seats names owed.
    lawful-next seating table seats names owed.lawful

pub returns-clause-room : goal.returns-clause-room
returns-clause-room c = λ seating seed number table seats names valid owed.
    lawful-room seating table seats names owed.lawful valid

pub returns-clause-drawn : goal.returns-clause-drawn
returns-clause-drawn c = λ seating seed number table seats names owed.
    lawful-draw seating table seats names owed.lawful
