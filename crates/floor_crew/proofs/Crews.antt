-- Those who work at a floor, with the room for what they give back.
use Rattle.std.proofs.Common.{◌≡◌, ◌∙◌, sym, ap, subst, ℕ, ◌+◌, ◌≤◌, List, [], ◌∷◌, ◌++◌, length, arith}
use Rattle.std.specs.Prelude.{All, vec_capacity, vec_len}
use Rattle.std.specs.List.{AllZip}
use Rattle.std.proofs.lemmas.List.Elements.{All-nil}
use Rattle.std.proofs.lemmas.Slice.Zip.{AllZip-long}
use Rattle.history_lock.specs.Passes.{lock_of}
use Rattle.level_plan.specs.Plans.{PlanTerms}
use Rattle.table_dock.specs.declared.dock.TableDock.{TableDock}
use Rattle.table_dock.specs.Docks.{dock_id, dock_passes}
use Rattle.book_dock.specs.Docks.{book_id, book_passes}
use Rattle.session_desk.specs.Desks.{of_table}
use Rattle.floor_crew.specs.declared.floor.Floor.{Floor}
use Rattle.floor_crew.specs.declared.floor.Room.{Room}
use Rattle.floor_crew.specs.declared.jobs.Work.{Work}
use Rattle.floor_crew.specs.declared.passes.Passes.{Passes}
use Rattle.floor_crew.specs.AtHand.{AreCollected, AreOf, HasRoom, IsRoomFor}
use Rattle.floor_crew.specs.Rows.{IsEmptyFor}
use Rattle.floor_crew.specs.Working.{HasDone, IsFloorOf, IsIdleAt, IsWorkAt}
use Rattle.floor_crew.proofs.Zipped.{all-at, all-from, zip-at, zip-from}

-- the workers at their tables, once they have worked
pub done-at : (floor : Floor) (docks : List TableDock) (before after : List Work)
    → AllZip (IsIdleAt floor) docks before → AllZip HasDone before after → AllZip (IsWorkAt floor) docks after
done-at floor [] [] [] idle done = tt
done-at floor [] (work ∷ before) after idle done = absurd idle
done-at floor (dock ∷ docks) [] after idle done = absurd idle
done-at floor [] [] (work ∷ after) idle done = absurd done
done-at floor (dock ∷ docks) (work ∷ before) [] idle done = absurd done
done-at floor (dock ∷ docks) (work ∷ before) (other ∷ after) idle done = (
  record {
    its_table = ap (of_table floor.docks.items) done.0.its_table ∙ idle.0.its.its_table;
    its_dock = done.0.its_dock ∙ idle.0.its.its_dock;
    its_book = done.0.its_book ∙ idle.0.its.its_book;
  },
  done-at floor docks before after idle.1 done.1,
)

module _ {D : Type 0} (tables desks : ℕ) (room : Room D) (is : IsRoomFor tables desks room) where
  -- there is room for the passes
  pub room-for : (books each : ℕ) → books ≤ tables + desks → each ≤ desks + 1 → HasRoom books each room.passes
  room-for books each few_books few =
      let none = ap length is.of_book.none in
      record {
        of_book = omega (arith, is.of_book.room, none, room.passes.books.ok.0, few_books);
        of_tables = all-from (λ row. vec_len row + each ≤ vec_capacity row) room.passes.tables.items
            (λ index row at.
            let empty = all-at (IsEmptyFor (desks + 1)) room.passes.tables.items is.of_tables index row at in
            let gone = ap length empty.none in
            omega (arith, empty.room, gone, row.ok.0, few));
      }

  -- none was collected yet
  pub none-collected : (floor : Floor) → length floor.docks.items ≡ tables → AreCollected floor 0 0 room.passes
  none-collected floor many = record {
    of_book = record {
      locks = subst (All (λ pass. lock_of pass ≡ book_id floor.book)) (sym is.of_book.none)
          (All-nil (λ pass. lock_of pass ≡ book_id floor.book));
      counted = let none = ap length is.of_book.none in omega (arith, none, room.passes.books.ok.0);
    };
    of_tables = zip-from (λ (dock : TableDock) row. AreOf (dock_id dock) 0 row) floor.docks.items
        room.passes.tables.items (omega (arith, is.each_table, many, room.passes.tables.ok.0))
        (λ index dock row at there.
        let empty = all-at (IsEmptyFor (desks + 1)) room.passes.tables.items is.of_tables index row there in
        record {
          locks = subst (All (λ pass. lock_of pass ≡ dock_id dock)) (sym empty.none)
              (All-nil (λ pass. lock_of pass ≡ dock_id dock));
          counted = let none = ap length empty.none in omega (arith, none, row.ok.0);
        });
  }

-- All passes of a floor are there.
pub all-there : (plan : PlanTerms) (seed : List ℕ) (desks : ℕ) (floor : Floor) (passes : Passes) (books each : ℕ)
    → IsFloorOf plan seed desks floor → books ≡ plan.tables + desks → each ≡ desks + 1
    → AreCollected floor books each passes → AreOf (book_id floor.book) (book_passes floor.book) passes.books
    × AllZip (λ dock row. AreOf (dock_id dock) (dock_passes dock) row) floor.docks.items passes.tables.items
all-there plan seed desks floor passes books each is all of_each collected = (
  record { locks = collected.of_book.locks; counted = collected.of_book.counted ∙ (all ∙ sym is.of_book) },
  zip-from (λ (dock : TableDock) row. AreOf (dock_id dock) (dock_passes dock) row) floor.docks.items
      passes.tables.items (AllZip-long (λ (dock : TableDock) row. AreOf (dock_id dock) each row) floor.docks.items
      passes.tables.items collected.of_tables)
      (λ index dock row at there.
      let its = zip-at (λ (d : TableDock) r. AreOf (dock_id d) each r) floor.docks.items passes.tables.items
      collected.of_tables index dock row at there in
      record {
        locks = its.locks;
        counted = its.counted
            ∙ (of_each
            ∙ sym (all-at (λ d. dock_passes d ≡ desks + 1) floor.docks.items is.of_tables index dock at));
      }),
)

-- The passes of the desks stand first, and those of the workers behind them.
pub passes-are : {A : Type 0} (first mid last desks works : List A) → first ≡ [] → mid ≡ first ++ desks
    → last ≡ mid ++ works → last ≡ desks ++ works
passes-are first mid last desks works none one two =
    two ∙ ap (λ l. l ++ works) (one ∙ ap (λ l. l ++ desks) none)
