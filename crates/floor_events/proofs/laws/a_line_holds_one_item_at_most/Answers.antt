use Rattle.std.proofs.Common.{sym, ◌∙◌}
use Rattle.floor_events.proofs.EventLaws.{one_item, line_found, line_again}
use Rattle.floor_events.proofs.laws.a_line_holds_one_item_at_most.Goals as goal

pub returns-clause-one : goal.returns-clause-one
returns-clause-one c = one_item

pub returns-clause-read : goal.returns-clause-read
returns-clause-read c = line_found

pub returns-clause-none : goal.returns-clause-none
returns-clause-none c = λ line item none holds. let both = sym none ∙ line_again item line holds in absurd cc
