-- Those who work at a floor, before and after. This project's own.
use Rattle.std.specs.Prelude.{◌≡◌, ◌+◌, ◌<◌, ℕ, true, false, List, [], All, IfSome, length, vec_len, Option, Some}
use Rattle.std.specs.List.{AllZip}
use Rattle.floor_text.specs.Outside.{Rose}
use Rattle.level_plan.specs.Plans.{PlanTerms}
use Rattle.plan_files.specs.Words.{WordTerms}
use Rattle.links.specs.Telling.{DoorTelling, Telling}
use Rattle.history_lock.specs.Passes.{lock_of, own, pass_number, seen}
use Rattle.dock_rules.specs.Journals.{tale_of}
use Rattle.table_dock.specs.declared.dock.TableDock.{TableDock}
use Rattle.table_dock.specs.Docks.{dock_id, dock_passes}
use Rattle.book_dock.specs.Docks.{book_id, book_opening, book_passes}
use Rattle.book_dock.specs.Opening.{opening}
use Rattle.table_worker.specs.Ties.{IsBrought}
use Rattle.session_desk.specs.declared.desk.Desk.{Desk}
use Rattle.session_desk.specs.Desks.{AreInOrder, IsDeskOf, of_table}
use Rattle.session_desk.specs.Works.{HasWorked}
use Rattle.floor_crew.specs.declared.floor.Crew.{Crew}
use Rattle.floor_crew.specs.declared.floor.Floor.{Floor}
use Rattle.floor_crew.specs.declared.jobs.Attended.{Attended}
use Rattle.floor_crew.specs.declared.jobs.Work.{Work}

-- A floor is that of a plan's tournament, with a pass for each table's worker and for each desk: its docks are those of
-- the tables 1, 2 and so on, and its journal was opened with the plan.
pub record IsFloorOf (plan : PlanTerms) (seed : List ℕ) (desks : ℕ) (floor : Floor) : Type 0 where
  pub order : AreInOrder floor.docks.items
  pub count : length floor.docks.items ≡ plan.tables
  pub some : 0 < plan.tables
  pub opened : book_opening floor.book ≡ opening seed plan
  pub of_book : book_passes floor.book ≡ plan.tables + desks
  pub of_tables : All (λ dock. dock_passes dock ≡ desks + 1) floor.docks.items

-- A desk's passes of the tables have done nothing.
abbrev pub HaveDoneNone : Desk → Type 0
HaveDoneNone desk = (table : ℕ) → IfSome (of_table desk.tables.items table) (λ pass. own pass ≡ [])

-- A worker has worked up to the stop, with the same passes at the same table.
pub record HasDone (before after : Work) : Type 0 where
  pub its_table : after.table ≡ before.table
  pub its_dock : lock_of after.dock ≡ lock_of before.dock
  pub its_book : lock_of after.book ≡ lock_of before.book
  pub first : pass_number after.dock ≡ 0
  pub brought : IsBrought (pass_number after.book) after.table (seen after.book) (seen after.dock)

module _ (floor : Floor) where
  -- A worker of a table has a pass of the table's dock and one of the floor's book.
  pub record IsWorkAt (dock : TableDock) (work : Work) : Type 0 where
    pub its_table : of_table floor.docks.items work.table ≡ Some dock
    pub its_dock : lock_of work.dock ≡ dock_id dock
    pub its_book : lock_of work.book ≡ book_id floor.book

  -- Before it works its passes have done nothing, and that of the dock is the first.
  pub record IsIdleAt (dock : TableDock) (work : Work) : Type 0 where
    pub its : IsWorkAt dock work
    pub first : pass_number work.dock ≡ 0
    pub none_at_book : own work.book ≡ []
    pub none_at_table : own work.dock ≡ []

  -- The same at some dock of the floor.
  abbrev pub IsIdle : Work → Type 0
  IsIdle work = (dock : TableDock) × IsIdleAt dock work

  -- A desk of the floor whose passes have done nothing.
  pub record IsIdleDesk (desk : Desk) : Type 0 where
    pub its : IsDeskOf floor.book floor.docks.items desk
    pub none_at_book : own desk.book ≡ []
    pub none_at_tables : HaveDoneNone desk

  -- Those who are to work: a worker for each table, in order, and so many desks.
  pub record IsCrewOf (desks : ℕ) (crew : Crew) : Type 0 where
    pub works : AllZip IsIdleAt floor.docks.items crew.works.items
    pub at_desks : All IsIdleDesk crew.desks.items
    pub each_desk : length crew.desks.items ≡ desks

  module _ {D L : Type 0} (door_told : D → Option (DoorTelling L)) (door_faults : D → ℕ)
      (link_told : L → Option Telling) (link_faults : L → ℕ) (words : WordTerms) where
    -- A desk that had done nothing served the clients of this door, until the tournament was stopped or the door
    -- failed.
    pub record HasAttended (door : D) (attended : Attended D) : Type 0 where
      pub start : Desk
      pub none_at_book : own start.book ≡ []
      pub none_at_tables : HaveDoneNone start
      pub its : IsDeskOf floor.book floor.docks.items attended.desk
      pub worked : HasWorked door_told link_told link_faults words (vec_len floor.docks) door attended.door start
          attended.desk
      pub rose : attended.failed ≡ true → Rose (door_faults door) (door_faults attended.door)
      pub steady : attended.failed ≡ false → door_faults attended.door ≡ door_faults door
      pub stopped : attended.failed ≡ false → (tale_of (seen attended.desk.book)).ended ≡ true
