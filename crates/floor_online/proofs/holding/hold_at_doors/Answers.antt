use Rattle.std.proofs.Common.{◌∙◌, sym, subst}
use Rattle.links.specs.Links.{AreDoorsOut}
use Rattle.floor_crew.specs.Working.{IsFloorOf}
use Rattle.floor_online.proofs.EvenDoors.{even-kept, even-round, runs-back, runs-even, runs-many}
use Rattle.floor_online.proofs.holding.hold_at_doors.Goals as goal

pub back-requires : goal.back-requires
back-requires g c =
    let same = c.in_ok-doors.doors.ok.0 ∙ c.in_ok-doors.ensures.count in
    let its = subst (λ n. IsFloorOf c.requires.floor.0 c.requires.floor.1 n c.args.floor) (sym same) c.requires.floor.2 in
    let held = c.hold-end.ensures.held c.requires.floor.0 c.requires.floor.1 its in
    let back = c.hold-end.result.1 in
    let as_many = runs-even held.0 c.in_ok-doors.doors.items back.doors.items back.failed.items held.1 in
    subst (λ n. AreDoorsOut n (g.H.Hall.told c.open_doors.new.hall))
    (c.in_ok-doors.doors.ok.0 ∙ (sym as_many ∙ sym back.doors.ok.0)) c.in_ok-doors.ensures.out

pub returns-in_err-doors-clause-doors : goal.returns-in_err-doors-clause-doors
returns-in_err-doors-clause-doors g c =
    even-kept (g.H.Hall.told c.args.hall.now) (g.H.Hall.told c.open_doors.new.hall) c.in_err-doors.ensures.kept

pub returns-clause-held : goal.returns-clause-held
returns-clause-held g c = λ plan seed floor.
    let same = c.in_ok-doors.doors.ok.0 ∙ c.in_ok-doors.ensures.count in
    let its = subst (λ n. IsFloorOf plan seed n c.args.floor) (sym same) floor in
    let held = c.hold-end.ensures.held plan seed its in
    let back = c.hold-end.result.1 in
    record {
      doors = held.0;
      held = held.2;
      each_desk = runs-many held.0 c.in_ok-doors.doors.items back.doors.items back.failed.items held.1
          ∙ c.in_ok-doors.ensures.count;
      hall = runs-back held.0 c.in_ok-doors.doors.items back.doors.items back.failed.items held.1
          (g.H.Hall.told c.args.hall.now) (g.H.Hall.told c.open_doors.new.hall) (g.H.Hall.told c.back.new.self)
          c.in_ok-doors.ensures.told c.back.ensures.told;
      failed_are = held.1.failed_are;
    }

pub returns-clause-doors : goal.returns-clause-doors
returns-clause-doors g c =
    let same = c.in_ok-doors.doors.ok.0 ∙ c.in_ok-doors.ensures.count in
    let its = subst (λ n. IsFloorOf c.requires.floor.0 c.requires.floor.1 n c.args.floor) (sym same) c.requires.floor.2 in
    let held = c.hold-end.ensures.held c.requires.floor.0 c.requires.floor.1 its in
    let back = c.hold-end.result.1 in
    even-round (g.H.Hall.told c.args.hall.now) (g.H.Hall.told c.open_doors.new.hall)
    (g.H.Hall.told c.back.new.self) c.in_ok-doors.doors.items back.doors.items c.in_ok-doors.ensures.told
    c.back.ensures.told (runs-even held.0 c.in_ok-doors.doors.items back.doors.items back.failed.items held.1)
