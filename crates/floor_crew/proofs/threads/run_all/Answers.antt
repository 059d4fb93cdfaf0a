use Rattle.std.proofs.Common.{List, ap, reverse, sym, subst, ◌∙◌}
use Rattle.std.specs.List.{AllZip}
use Rattle.std.proofs.lemmas.List.{reverse-reverse}
use Rattle.floor_crew.specs.declared.jobs.Attended.{Attended}
use Rattle.floor_crew.specs.Working.{HasAttended}
use Rattle.floor_crew.proofs.Zipped.{zip-reverse}
use Rattle.floor_crew.proofs.threads.run_all.Goals as goal

pub returns-clause-doors : goal.returns-clause-doors
returns-clause-doors g c =
    let Has = HasAttended c.args.floor.now g.D.Door.told g.D.Door.faults g.D.L.Link.told g.D.L.Link.faults
    c.args.words.now in
    let doors = ap reverse c.reverse.ensures.items ∙ reverse-reverse c.args.doors.items in
    subst (λ (p : List g.row.D.Denot × List (Attended g.row.D.Denot)). AllZip Has p.0 p.1)
    (λ i. (doors i, sym c.reverse-2.ensures.items i))
    (zip-reverse Has c.reverse.new.self.items c.run_workers-back.result.attended.items
    c.run_workers-back.ensures.doors)
