use Rattle.std.proofs.Common.{◌≡◌, Some, length, arith, rules}
use denote.Param.Send.{sendable}
use Rattle.std.specs.Prelude.{vec_len}
use Rattle.std.proofs.lemmas.List.Elements.{All-pop}
use Rattle.std.proofs.lemmas.Slice.Zip.{AllZip-long}
use Rattle.floor_crew.specs.Rows.{IsEmptyFor}
use Rattle.floor_crew.specs.Working.{HasAttended, IsIdleDesk}
use Rattle.floor_crew.proofs.Zipped.{zip-on}
use Rattle.floor_crew.proofs.threads.+desks.Goals as goal

pub push_reserved-requires : goal.push_reserved-requires
push_reserved-requires g t c =
    let others = c.join-one.ensures.second in
    let many = AllZip-long
    (HasAttended c.args.floor.now g.D.Door.told g.D.Door.faults g.D.L.Link.told g.D.L.Link.faults c.args.words.now)
    c.pop-2.new.self.items c.join-one.result.1.items others.0 in
    omega (
      arith,
      others.1,
      many,
      c.join-one.result.1.ok.0,
      c.pop-2.new.self.ok.0,
      c.requires.room.room,
      c.in-Some-Some.ensures'.len,
    )

pub returns-clause-doors : goal.returns-clause-doors
returns-clause-doors g t c =
    zip-on
    (HasAttended c.args.floor.now g.D.Door.told g.D.Door.faults g.D.L.Link.told g.D.L.Link.faults c.args.words.now)
    c.pop-2.new.self.items c.args.doors.items c.join-one.result.1.items c.push_reserved.new.self.items
    c.in-Some-Some.door c.join-one.result.0 c.in-Some-Some.ensures'.items c.push_reserved.ensures.items
    c.join-one.ensures.second.0 c.join-one.ensures.first

-- the desk is ready, and so are the others, for whom there is room
pub join-one-requires-after_bounds : goal.join-one-requires-after_bounds
join-one-requires-after_bounds g t c κs within =
    let ready = All-pop (IsIdleDesk c.args.floor.now) c.args.desks.items
    c.pop.new.self.items (Some c.in-Some-Some.desk) c.in-Some-Some.ensures.items c.requires.desks in
    let as_many : length c.pop-2.new.self.items ≡ length c.pop.new.self.items =
    omega (
      arith,
      c.requires.doors,
      c.in-Some-Some.ensures.len,
      c.in-Some-Some.ensures'.len,
      c.args.desks.ok.0,
      c.args.doors.ok.0,
      c.pop.new.self.ok.0,
      c.pop-2.new.self.ok.0,
    ) in
    let room : IsEmptyFor (vec_len c.pop-2.new.self) c.args.attended = record {
      none = c.requires.room.none;
      room = omega (arith, c.requires.room.room, c.in-Some-Some.ensures'.len);
    } in (
      (
        (
          (first_of (search rules, search (rules, sendable) depth 20)),
          ((first_of (search rules, search (rules, sendable) depth 20)), ((first_of (search rules, search (rules, sendable) depth 20)), (c.requires.order, ready.1))),
        ),
        ((first_of (search rules, search (rules, sendable) depth 20)), (first_of (search rules, search (rules, sendable) depth 20)), (first_of (search rules, search (rules, sendable) depth 20)), (first_of (search rules, search (rules, sendable) depth 20))),
      ),
      (
        search rules,
        (
          λ a m. m,
          (
            λ a m. m,
            (
              λ a m. m,
              (
                λ a m. m,
                (
                  (
                    (first_of (search rules, search (rules, sendable) depth 20)),
                    (
                      (first_of (search rules, search (rules, sendable) depth 20)),
                      (
                        (first_of (search rules, search (rules, sendable) depth 20)),
                        (c.requires.order, (ready.0, (as_many, room))),
                      ),
                    ),
                  ),
                  ((first_of (search rules, search (rules, sendable) depth 20)), (first_of (search rules, search (rules, sendable) depth 20)), (first_of (search rules, search (rules, sendable) depth 20)), (first_of (search rules, search (rules, sendable) depth 20))),
                ),
              ),
            ),
          ),
        ),
      ),
    )
