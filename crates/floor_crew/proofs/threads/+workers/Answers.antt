use Rattle.std.proofs.Common.{◌≡◌, Some, length, arith, rules}
use denote.Param.Send.{sendable}
use Rattle.std.specs.Prelude.{vec_len}
use Rattle.std.proofs.lemmas.List.Elements.{All-pop}
use Rattle.std.proofs.lemmas.Slice.Zip.{AllZip-long}
use Rattle.floor_crew.specs.Rows.{IsEmptyFor}
use Rattle.floor_crew.specs.Working.{HasDone, IsIdle}
use Rattle.floor_crew.proofs.Zipped.{zip-on}
use Rattle.floor_crew.proofs.threads.+workers.Goals as goal

pub push_reserved-requires : goal.push_reserved-requires
push_reserved-requires g t c =
    let others = c.join-one.ensures.second in
    let many = AllZip-long HasDone c.pop.new.self.items c.join-one.result.1.works.items others.0 in
    omega (
      arith,
      others.1.1.0,
      many,
      c.join-one.result.1.works.ok.0,
      c.pop.new.self.ok.0,
      c.requires.works_room.room,
      c.in-Some.ensures.len,
    )

pub returns-clause-works : goal.returns-clause-works
returns-clause-works g t c =
    zip-on HasDone c.pop.new.self.items c.args.works.items c.join-one.result.1.works.items c.push_reserved.new.self.items
    c.in-Some.work c.join-one.result.0 c.in-Some.ensures.items c.push_reserved.ensures.items
    c.join-one.ensures.second.0 c.join-one.ensures.first

-- the worker is ready, and so are the others and the desks, for whom there is room
pub join-one-requires-after_bounds : goal.join-one-requires-after_bounds
join-one-requires-after_bounds g t c κs within =
    let ready = All-pop (IsIdle c.args.floor.now) c.args.works.items c.pop.new.self.items (Some c.in-Some.work)
    c.in-Some.ensures.items c.requires.idle in
    let room : IsEmptyFor (vec_len c.pop.new.self) c.args.room.works = record {
      none = c.requires.works_room.none;
      room = omega (arith, c.requires.works_room.room, c.in-Some.ensures.len);
    } in (
      (first_of (search rules, search (rules, sendable) depth 20), (c.requires.order, ready.1)),
      (
        search rules,
        (
          λ a m. m,
          (
            λ a m. m,
            (
              λ a m. m,
              (
                λ a m. m,
                (
                  (
                    (first_of (search rules, search (rules, sendable) depth 20)),
                    (
                      (first_of (search rules, search (rules, sendable) depth 20)),
                      (
                        (first_of (search rules, search (rules, sendable) depth 20)),
                        (
                          c.requires.order,
                          (ready.0, (c.requires.desks, (c.requires.doors, (room, c.requires.doors_room)))),
                        ),
                      ),
                    ),
                  ),
                  ((first_of (search rules, search (rules, sendable) depth 20)), (first_of (search rules, search (rules, sendable) depth 20)), (first_of (search rules, search (rules, sendable) depth 20)), (first_of (search rules, search (rules, sendable) depth 20))),
                ),
              ),
            ),
          ),
        ),
      ),
    )
