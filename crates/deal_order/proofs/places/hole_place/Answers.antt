use Rattle.std.proofs.Common.{rules}
use Rattle.deal_order.proofs.places.hole_place.Goals as goal

pub returns-clause-place : goal.returns-clause-place
returns-clause-place c = search rules
