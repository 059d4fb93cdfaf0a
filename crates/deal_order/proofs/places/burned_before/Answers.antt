use Rattle.std.proofs.Common.{rules}
use Rattle.deal_order.proofs.places.burned_before.Goals as goal

pub returns-in-0-to-2-clause-same : goal.returns-in-0-to-2-clause-same
returns-in-0-to-2-clause-same c = search rules

pub returns-in_default-clause-same : goal.returns-in_default-clause-same
returns-in_default-clause-same c = search rules
