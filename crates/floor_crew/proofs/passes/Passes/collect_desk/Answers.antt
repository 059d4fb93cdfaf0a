use Rattle.std.proofs.Common.{rules}
use Rattle.floor_crew.proofs.Collecting.{desk-collected, desk-seen, room-left}
use Rattle.floor_crew.proofs.Spreading.{spread-grown}
use Rattle.floor_crew.proofs.passes.Passes.collect_desk.Goals as goal

pub returns-clause-rows : goal.returns-clause-rows
returns-clause-rows c =
    spread-grown c.args.self.now.tables.items _ c.args.desk.tables.items (search rules) (search rules)

pub returns-clause-room : goal.returns-clause-room
returns-clause-room c books each =
    room-left books each c.args.self.now _ c.args.desk (search rules) (search rules) (search rules)

pub returns-clause-collected : goal.returns-clause-collected
returns-clause-collected c =
    desk-collected c.args.self.now _ c.args.desk (search rules) (search rules) (search rules)

pub returns-clause-seen : goal.returns-clause-seen
returns-clause-seen c = desk-seen c.args.self.now _ c.args.desk (search rules) (search rules) (search rules)
