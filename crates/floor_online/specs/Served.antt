-- What a server has done that ended well, and what of it is written where it failed. This project's own.
use Rattle.std.specs.Prelude.{◌≡◌, ◌⊎◌, ℕ, Bool, List, ◌++◌, length, map, take, Option, Some, IfSome, Ok}
use Rattle.level_plan.specs.Plans.{PlanTerms}
use Rattle.plan_files.specs.Words.{WordTerms, served_of_file}
use Rattle.links.specs.Telling.{DoorTelling, HallTelling, Telling}
use Rattle.view_rules.specs.declared.entries.JournalEntry.{JournalEntry}
use Rattle.replay_rules.specs.Replay.{tournament_text}
use Rattle.dock_rules.specs.Journals.{expand}
use Rattle.command_lines.specs.declared.fault.Fault.{Fault}
use Rattle.command_lines.specs.declared.fault.Fault.TheVariants as faults
use Rattle.floor_crew.specs.DoorRuns.{DoorRun}
use Rattle.floor_crew.specs.Held.{HasHeld}
use Rattle.floor_crew.specs.Tournaments.{IsWholeJournal}
use Rattle.floor_online.specs.Doors.{AreDoorsBack, failed_text}

-- The plan and the session words are those of the file that a source was, where it tells.
abbrev pub IsFile : Option (List ℕ) → PlanTerms → WordTerms → Type 0
IsFile left plan words = IfSome left (λ bytes. served_of_file bytes ≡ Ok (plan, words))

-- What out and the hall tell, before a run or after it.
pub record Outside (D : Type 0) : Type 0 where
  pub written : Option (List ℕ)
  pub hall : Option (HallTelling D)

-- out has the text of a journal behind what it had: its events, with the acts of each settled hand before its settle,
-- and then the report after them.
abbrev pub HasText : List JournalEntry → Option (List ℕ) → Option (List ℕ) → Type 0
HasText journal before after = IfSome before (λ text. after ≡ Some (text ++ tournament_text (expand journal)))

-- out has a front of that text behind what it had
abbrev pub HasFront : List JournalEntry → Option (List ℕ) → Option (List ℕ) → Type 0
HasFront journal before after =
    IfSome before (λ text. (size : ℕ) × (after ≡ Some (text ++ take size (tournament_text (expand journal)))))

-- the faults of holding a tournament and writing its text: the hall or out failed, or memory ran out
abbrev pub IsOfServing : Fault → Type 0
IsOfServing faults.Usage = ⊥
IsOfServing faults.Read = ⊥
IsOfServing faults.Write = Unit {0}
IsOfServing faults.NoMemory = Unit {0}
IsOfServing (faults.Plan item) = ⊥
IsOfServing faults.Hall = Unit {0}
IsOfServing faults.InputTooLong = ⊥

module _ {D L : Type 0} (door_told : D → Option (DoorTelling L)) (door_faults : D → ℕ) (link_told : L → Option Telling)
    (link_faults : L → ℕ) where
  -- A tournament was held at the doors that a hall gave, one for each desk, and all of them are back; which of them
  -- failed.
  pub record HasHeldAt (plan : PlanTerms) (words : WordTerms) (seed : List ℕ) (desks : ℕ)
      (journal : List JournalEntry) (failed : List Bool) (before after : Option (HallTelling D)) : Type 0 where
    pub doors : List (DoorRun D)
    pub held : HasHeld door_told door_faults link_told link_faults plan words seed journal doors
    pub each_desk : length doors ≡ desks
    pub hall : IfSome before (λ t. (u : HallTelling D) × (after ≡ Some u) × AreDoorsBack doors t u)
    pub failed_are : map (λ (door : DoorRun D). door.failed) doors ≡ failed

  -- A tournament was served over the file that the input was, with this seed and at so many desks: it was held, and its
  -- text was put; these lines tell of the doors that failed.
  pub record HasServed (left : Option (List ℕ)) (seed : List ℕ) (desks : ℕ) (lines : List ℕ) (before after : Outside D)
      : Type 0 where
    pub plan : PlanTerms
    pub words : WordTerms
    pub read : IsFile left plan words
    pub journal : List JournalEntry
    pub failed : List Bool
    pub held : HasHeldAt plan words seed desks journal failed before.hall after.hall
    pub put : HasText journal before.written after.written
    pub lines_are : lines ≡ failed_text 1 failed

-- A front of the text of a whole tournament was put, over the plan of the file that the input was.
pub record HasPutFront (left : Option (List ℕ)) (seed : List ℕ) (before after : Option (List ℕ)) : Type 0 where
  pub plan : PlanTerms
  pub words : WordTerms
  pub read : IsFile left plan words
  pub journal : List JournalEntry
  pub whole : IsWholeJournal plan seed journal
  pub size : ℕ
  pub put : IfSome before (λ text. after ≡ Some (text ++ take size (tournament_text (expand journal))))

-- The same, or out tells what it told.
abbrev pub MayHavePut : Option (List ℕ) → List ℕ → Option (List ℕ) → Option (List ℕ) → Type 0
MayHavePut left seed before after = (after ≡ before) ⊎ HasPutFront left seed before after
