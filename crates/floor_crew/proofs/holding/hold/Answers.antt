use Rattle.std.proofs.Common.{◌≡◌, ◌∙◌, ◌+◌, refl, sym, subst, List, true, length, map, arith}
use Rattle.std.specs.Prelude.{option_to_list, vec_len}
use Rattle.std.specs.List.{filter_map}
use Rattle.std.proofs.lemmas.List.Elements.{All-weaker}
use Rattle.std.proofs.lemmas.Slice.Zip.{AllZip-long}
use Rattle.history_lock.specs.Entries.{IsGrownByPasses}
use Rattle.history_lock.specs.Passes.{seen}
use Rattle.view_rules.specs.declared.entries.JournalEntry.{JournalEntry}
use Rattle.dock_rules.specs.Journals.{journal_caller, tale_of}
use Rattle.book_dock.specs.Docks.{book_passes}
use Rattle.book_dock.specs.Ends.{journal_of}
use Rattle.session_desk.specs.Desks.{IsDeskOf, Sights, of_table}
use Rattle.session_desk.proofs.Rows.{has-index}
use Rattle.floor_crew.specs.declared.jobs.Attended.{Attended}
use Rattle.floor_crew.specs.declared.jobs.Work.{Work}
use Rattle.floor_crew.specs.AtHand.{IsWorkSeen}
use Rattle.floor_crew.specs.Rows.{IsEmptyFor}
use Rattle.floor_crew.specs.Working.{HasAttended, HasDone, IsIdleAt}
use Rattle.floor_crew.proofs.AskedHeld.{AreBackAt, held-asked}
use Rattle.floor_crew.proofs.Callers.{caller-known}
use Rattle.floor_crew.proofs.Crews.{all-there, done-at, none-collected, passes-are, room-for}
use Rattle.floor_crew.proofs.HeldRuns.{are-runs, runs-held, runs_of}
use Rattle.floor_crew.proofs.LawfulSettles.{lawful_by_passes}
use Rattle.floor_crew.proofs.Matched.{held-matched}
use Rattle.floor_crew.proofs.Spreading.{grown-all}
use Rattle.floor_crew.proofs.WholeJournals.{stopped-all, whole-journal}
use Rattle.floor_crew.proofs.Zipped.{all-at, all-right}
use Rattle.floor_crew.proofs.holding.hold.Goals as goal

pub run_all-works-requires-clause-idle : goal.run_all-works-requires-clause-idle
run_all-works-requires-clause-idle g c κs within =
    all-right (IsIdleAt c.args.floor) c.args.floor.docks.items c.args.crew.works.items c.requires.crew.works

pub run_all-works-requires-clause-works_room : goal.run_all-works-requires-clause-works_room
run_all-works-requires-clause-works_room g c κs within =
    let many = AllZip-long (IsIdleAt c.args.floor) c.args.floor.docks.items c.args.crew.works.items
    c.requires.crew.works in
    subst (λ n. IsEmptyFor n c.args.room.works) (sym many ∙ sym c.args.crew.works.ok.0) c.requires.room.works

pub take_doors-doors-requires-clause-doors : goal.take_doors-doors-requires-clause-doors
take_doors-doors-requires-clause-doors g c =
    let many = AllZip-long
    (HasAttended c.args.floor g.D.Door.told g.D.Door.faults g.D.L.Link.told g.D.L.Link.faults c.args.words.now)
    c.args.doors.items c.run_all-works.result.attended.items c.run_all-works.ensures.doors in
    subst (λ n. IsEmptyFor n c.args.room.doors)
    (c.args.doors.ok.0 ∙ (sym many ∙ sym c.run_all-works.result.attended.ok.0)) c.requires.room.doors

pub take_doors-doors-requires-clause-failed : goal.take_doors-doors-requires-clause-failed
take_doors-doors-requires-clause-failed g c =
    let many = AllZip-long
    (HasAttended c.args.floor g.D.Door.told g.D.Door.faults g.D.L.Link.told g.D.L.Link.faults c.args.words.now)
    c.args.doors.items c.run_all-works.result.attended.items c.run_all-works.ensures.doors in
    subst (λ n. IsEmptyFor n c.args.room.failed)
    (c.args.doors.ok.0 ∙ (sym many ∙ sym c.run_all-works.result.attended.ok.0)) c.requires.room.failed

pub take_doors-doors-requires-clause-count : goal.take_doors-doors-requires-clause-count
take_doors-doors-requires-clause-count g c =
    All-weaker (λ (one : Attended g.row.D.Denot). (door : g.row.D.Denot) × HasAttended c.args.floor g.D.Door.told
    g.D.Door.faults g.D.L.Link.told g.D.L.Link.faults c.args.words.now door one)
    (λ (one : Attended g.row.D.Denot). length one.desk.tables.items ≡ vec_len c.args.room.passes.tables)
    (λ one its. its.1.its.count ∙ sym c.requires.room.each_table) c.run_all-works.result.attended.items
    (all-right
    (HasAttended c.args.floor g.D.Door.told g.D.Door.faults g.D.L.Link.told g.D.L.Link.faults c.args.words.now)
    c.args.doors.items c.run_all-works.result.attended.items c.run_all-works.ensures.doors)

pub take_doors-doors-requires-clause-room : goal.take_doors-doors-requires-clause-room
take_doors-doors-requires-clause-room g c =
    let n = vec_len c.run_all-works.result.attended in
    let many = AllZip-long
    (HasAttended c.args.floor g.D.Door.told g.D.Door.faults g.D.L.Link.told g.D.L.Link.faults c.args.words.now)
    c.args.doors.items c.run_all-works.result.attended.items c.run_all-works.ensures.doors in
    let same : n ≡ vec_len c.args.doors =
    omega (arith, many, c.args.doors.ok.0, c.run_all-works.result.attended.ok.0) in
    room-for (length c.args.floor.docks.items) (vec_len c.args.doors) c.args.room c.requires.room n n
    (omega (arith, same)) (omega (arith, same))

pub collect_works-requires-clause-row : goal.collect_works-requires-clause-row
collect_works-requires-clause-row g c =
    let many = AllZip-long (IsIdleAt c.args.floor) c.args.floor.docks.items c.args.crew.works.items
    c.requires.crew.works in
    let after = AllZip-long HasDone c.args.crew.works.items c.run_all-works.result.works.items
    c.run_all-works.ensures.works in
    subst (λ n. IsEmptyFor n c.args.room.row)
    (sym many ∙ (sym after ∙ sym c.run_all-works.result.works.ok.0)) c.requires.room.row

pub collect_works-requires-clause-count : goal.collect_works-requires-clause-count
collect_works-requires-clause-count g c =
    let many = AllZip-long (IsIdleAt c.args.floor) c.args.floor.docks.items c.args.crew.works.items
    c.requires.crew.works in
    let after = AllZip-long HasDone c.args.crew.works.items c.run_all-works.result.works.items
    c.run_all-works.ensures.works in
    omega (
      arith,
      many,
      after,
      c.run_all-works.result.works.ok.0,
      c.take_doors-doors.ensures.count,
      c.requires.room.each_table,
    )

pub collect_works-requires-clause-room : goal.collect_works-requires-clause-room
collect_works-requires-clause-room g c =
    let n = vec_len c.run_all-works.result.attended in
    let w = vec_len c.run_all-works.result.works in
    let many = AllZip-long (IsIdleAt c.args.floor) c.args.floor.docks.items c.args.crew.works.items
    c.requires.crew.works in
    let after = AllZip-long HasDone c.args.crew.works.items c.run_all-works.result.works.items
    c.run_all-works.ensures.works in
    let doors = AllZip-long
    (HasAttended c.args.floor g.D.Door.told g.D.Door.faults g.D.L.Link.told g.D.L.Link.faults c.args.words.now)
    c.args.doors.items c.run_all-works.result.attended.items c.run_all-works.ensures.doors in
    c.take_doors-doors.ensures.room w 1
    (room-for (length c.args.floor.docks.items) (vec_len c.args.doors) c.args.room c.requires.room (w + n) (1 + n)
    (omega (
      arith,
      many,
      after,
      doors,
      c.args.doors.ok.0,
      c.run_all-works.result.attended.ok.0,
      c.run_all-works.result.works.ok.0,
    ))
    (omega (arith, doors, c.args.doors.ok.0, c.run_all-works.result.attended.ok.0)))

pub close_locks-end-requires : goal.close_locks-end-requires
close_locks-end-requires g c =
    let n = vec_len c.run_all-works.result.attended in
    let w = vec_len c.run_all-works.result.works in
    let Has = HasAttended c.args.floor g.D.Door.told g.D.Door.faults g.D.L.Link.told g.D.L.Link.faults
    c.args.words.now in
    let many = AllZip-long (IsIdleAt c.args.floor) c.args.floor.docks.items c.args.crew.works.items
    c.requires.crew.works in
    let after = AllZip-long HasDone c.args.crew.works.items c.run_all-works.result.works.items
    c.run_all-works.ensures.works in
    let doors = AllZip-long Has c.args.doors.items c.run_all-works.result.attended.items c.run_all-works.ensures.doors in
    let its = c.requires.floor.2 in
    let desks = All-weaker (λ (one : Attended g.row.D.Denot). (door : g.row.D.Denot) × Has door one)
    (λ (one : Attended g.row.D.Denot). IsDeskOf c.args.floor.book c.args.floor.docks.items one.desk)
    (λ one is. is.1.its) c.run_all-works.result.attended.items
    (all-right Has c.args.doors.items c.run_all-works.result.attended.items c.run_all-works.ensures.doors) in
    let one = c.take_doors-doors.ensures.collected c.args.floor 0 0 desks
    (none-collected (length c.args.floor.docks.items) (vec_len c.args.doors) c.args.room c.requires.room c.args.floor
    refl) in
    let two = c.collect_works.ensures.collected c.args.floor (0 + n) (0 + n)
    (done-at c.args.floor c.args.floor.docks.items c.args.crew.works.items c.run_all-works.result.works.items
    c.requires.crew.works c.run_all-works.ensures.works) one in
    let all = all-there c.requires.floor.0 c.requires.floor.1 (vec_len c.args.doors) c.args.floor c.collect_works.new.passes
    ((0 + n) + w) ((0 + n) + 1) its
    (omega (
      arith,
      many,
      after,
      doors,
      its.count,
      c.args.doors.ok.0,
      c.run_all-works.result.attended.ok.0,
      c.run_all-works.result.works.ok.0,
    ))
    (omega (arith, doors, c.args.doors.ok.0, c.run_all-works.result.attended.ok.0)) two in
    record { books = all.0; tables = all.1 }

pub returns : goal.returns
returns g c = record {
  held = λ plan seed floor.
      let closed = c.close_locks-end.ensures in
      let end : Sights = record { journal = journal_of c.close_locks-end.result; tables = closed.histories } in
      let Has = HasAttended c.args.floor g.D.Door.told g.D.Door.faults g.D.L.Link.told g.D.L.Link.faults
      c.args.words.now in
      let works = c.collect_works.ensures.seen end closed.seen in
      let desks = c.take_doors-doors.ensures.seen end works.1 in
      let attended = c.run_all-works.result.attended.items in
      let doors = AllZip-long Has c.args.doors.items attended c.run_all-works.ensures.doors in
      let many = AllZip-long (IsIdleAt c.args.floor) c.args.floor.docks.items c.args.crew.works.items
      c.requires.crew.works in
      let after = AllZip-long HasDone c.args.crew.works.items c.run_all-works.result.works.items
      c.run_all-works.ensures.works in
      let work = has-index c.run_all-works.result.works.items 0 (omega (arith, many, after, floor.count, floor.some)) in
      let done = all-at (λ (work : Work). (before : Work) × HasDone before work) c.run_all-works.result.works.items
      (all-right HasDone c.args.crew.works.items c.run_all-works.result.works.items c.run_all-works.ensures.works) 0
      work.0 work.1 in
      let prefix = (all-at (IsWorkSeen end) c.run_all-works.result.works.items works.0 0 work.0 work.1).of_book in
      let grown = subst (λ l. IsGrownByPasses journal_caller (book_passes c.args.floor.book) l end.journal) floor.opened
      closed.grown in
      let books = passes-are c.args.room.passes.books.items c.take_doors-doors.new.passes.books.items
      c.collect_works.new.passes.books.items
      (map (λ (one : Attended g.row.D.Denot). one.desk.book) attended)
      (map (λ (work : Work). work.book) c.run_all-works.result.works.items) c.requires.room.of_book.none
      c.take_doors-doors.ensures.books c.collect_works.ensures.books in
      let lawful = lawful_by_passes (book_passes c.args.floor.book) seed plan end.journal grown
      (λ k below. caller-known end g.D.Door.told g.D.Door.faults g.D.L.Link.told g.D.L.Link.faults c.args.words.now
      c.args.floor closed.tables c.args.doors.items attended c.run_all-works.ensures.doors c.args.crew.works.items
      c.run_all-works.result.works.items c.run_all-works.ensures.works works.0 c.collect_works.new.passes.books.items
      books closed.own k (closed.numbers k below)) in
      let held = runs-held g.D.Door.told g.D.Door.faults g.D.L.Link.told g.D.L.Link.faults c.args.words.now end
      plan.tables c.args.floor (c.args.floor.docks.ok.0 ∙ floor.count) c.args.doors.items attended
      c.run_all-works.ensures.doors desks.0 in
      let back : AreBackAt g.D.Door.told g.D.Door.faults g.D.L.Link.told g.D.L.Link.faults c.args.words.now c.args.floor
      c.args.doors.items attended c.args.crew.works.items c.run_all-works.result.works.items
      c.collect_works.new.passes =
      record {
        order = floor.order;
        desks = c.run_all-works.ensures.doors;
        done = c.run_all-works.ensures.works;
        works = done-at c.args.floor c.args.floor.docks.items c.args.crew.works.items
            c.run_all-works.result.works.items c.requires.crew.works c.run_all-works.ensures.works;
        books = books;
        many = omega (
          arith,
          c.collect_works.new.passes.tables.ok.0,
          c.collect_works.ensures.count,
          c.take_doors-doors.ensures.count,
          c.requires.room.each_table,
        );
        rows = grown-all c.args.room.passes.tables.items c.take_doors-doors.new.passes.tables.items
            c.collect_works.new.passes.tables.items
            (λ table. filter_map (λ (one : Attended g.row.D.Denot). of_table one.desk.tables.items table) attended)
            (λ table. option_to_list
            (of_table (map (λ (work : Work). work.dock) c.run_all-works.result.works.items) table))
            (omega (
              arith,
              c.take_doors-doors.ensures.count,
              c.take_doors-doors.new.passes.tables.ok.0,
              c.args.room.passes.tables.ok.0,
            ))
            (omega (
              arith,
              c.take_doors-doors.ensures.count,
              c.collect_works.ensures.count,
              c.collect_works.new.passes.tables.ok.0,
              c.args.room.passes.tables.ok.0,
            ))
            (λ index row at.
            (all-at (IsEmptyFor (vec_len c.args.doors + 1)) c.args.room.passes.tables.items c.requires.room.of_tables index
            row at).none) c.take_doors-doors.ensures.rows c.collect_works.ensures.rows;
      } in
      let runs = are-runs c.args.doors.items attended doors in (
        runs_of c.args.doors.items attended,
        record {
          given_are = runs.given_are;
          back_are = runs.back_are ∙ sym c.take_doors-doors.ensures.doors;
          failed_are = runs.failed_are ∙ sym c.take_doors-doors.ensures.failed;
        },
        record {
          whole = whole-journal plan seed (book_passes c.args.floor.book) (seen work.0.book) end.journal closed.legal
              grown prefix done.1.brought.stopped (c.events_are_writable.ensures closed.legal) lawful;
          histories = closed.histories;
          matched = held-matched g.D.Door.told g.D.Door.faults g.D.L.Link.told g.D.L.Link.faults c.args.words.now
              c.args.floor c.args.doors.items attended c.args.crew.works.items c.run_all-works.result.works.items
              c.collect_works.new.passes back end.journal closed plan seed grown
              (subst (λ (l : List JournalEntry). (tale_of l).ended ≡ true)
              (stopped-all (seen work.0.book) end.journal prefix closed.legal.allowed done.1.brought.stopped)
              done.1.brought.stopped);
          attended = held.0;
          failed = held.1;
          asked = held-asked g.D.Door.told g.D.Door.faults g.D.L.Link.told g.D.L.Link.faults c.args.words.now
              c.args.floor c.args.doors.items attended c.args.crew.works.items c.run_all-works.result.works.items
              c.collect_works.new.passes back end.journal closed plan seed grown;
        },
      );
}
