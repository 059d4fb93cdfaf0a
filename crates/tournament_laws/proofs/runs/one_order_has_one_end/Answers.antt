use Rattle.std.proofs.Common.{ap}
use Rattle.tournament_rules.specs.Report.{report_of}
use Rattle.tournament_laws.proofs.Orders.{one_order-accepted, one_order-after}
use Rattle.tournament_laws.proofs.runs.one_order_has_one_end.Goals as goal

pub returns-clause-accepted : goal.returns-clause-accepted
returns-clause-accepted c = one_order-accepted

pub returns-clause-after : goal.returns-clause-after
returns-clause-after c = one_order-after

pub returns-clause-report : goal.returns-clause-report
returns-clause-report c = λ one other order accepted. ap report_of (one_order-after one other order accepted)
