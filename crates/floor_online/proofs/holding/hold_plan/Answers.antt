use Rattle.floor_online.proofs.EvenDoors.{even-still}
use Rattle.floor_online.proofs.holding.hold_plan.Goals as goal

pub returns-in_err-floor-clause-doors : goal.returns-in_err-floor-clause-doors
returns-in_err-floor-clause-doors g c = even-still (g.H.Hall.told c.args.hall.now)

pub returns-clause-held : goal.returns-clause-held
returns-clause-held g c = c.hold_at_doors.ensures.held c.args.plan c.args.seed c.in_ok-floor.ensures.floor
