use Rattle.std.proofs.Common.{sym}
use Rattle.floor_simulation.proofs.NextSteps.{none-comes, stopped-comes, under_way-by}
use Rattle.floor_simulation.proofs.simulation.Simulation.next.Goals.{in_default-via-in-Some+else-not-is_stopped, in_default-via-in_default}
use Rattle.floor_simulation.proofs.simulation.Simulation.next.Goals as goal

pub next_under_way-requires-clause-under_way : goal.next_under_way-requires-clause-under_way
next_under_way-requires-clause-under_way c =
    under_way-by c.args.self.now.tournament.play c.args.self.now.place c.in-Some.book.now c.requires.course.under_way
    (sym c.in-Some.ensures.book) (sym c.if-not-is_stopped.ensures)

pub returns-in_default : goal.returns-in_default
returns-in_default c =
    let simulation = c.args.self.now in
    elim c.in_default.branch [
      | in_default-via-in-Some+else-not-is_stopped w ↦
          sym (stopped-comes simulation.seed simulation.tournament simulation.place w.in-Some.book.now
          (sym w.in-Some.ensures.book) (sym w.if-not-is_stopped.ensures))
      | in_default-via-in_default w ↦
          sym (none-comes simulation.seed simulation.tournament simulation.place (sym w.in_default.ensures.book))
    ]
