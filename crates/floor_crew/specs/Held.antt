-- What a tournament is that was held at doors. This project's own.
use Rattle.std.specs.Prelude.{ℕ, List, All, Option, IfSome}
use Rattle.level_plan.specs.Plans.{PlanTerms}
use Rattle.plan_files.specs.Words.{WordTerms}
use Rattle.links.specs.Telling.{DoorTelling, Telling}
use Rattle.view_rules.specs.declared.entries.JournalEntry.{JournalEntry}
use Rattle.view_rules.specs.declared.entries.TableEntry.{TableEntry}
use Rattle.dock_rules.specs.Whole.{DoMatch}
use Rattle.floor_crew.specs.Asks.{asks_at}
use Rattle.floor_crew.specs.DoorRuns.{DoorRun, IsFailure}
use Rattle.floor_crew.specs.Sessions.{WasAttended}
use Rattle.floor_crew.specs.Tournaments.{IsWholeJournal}
use Rattle.floor_crew.specs.Wishes.{WasAsked}

module _ {D L : Type 0} (door_told : D → Option (DoorTelling L)) (door_faults : D → ℕ) (link_told : L → Option Telling)
    (link_faults : L → ℕ) where
  -- A tournament was held at these doors, over a plan with these session words and this seed: it came to this journal.
  pub record HasHeld (plan : PlanTerms) (words : WordTerms) (seed : List ℕ) (journal : List JournalEntry)
      (doors : List (DoorRun D)) : Type 0 where
    pub whole : IsWholeJournal plan seed journal
    -- the histories of its tables, by number: the journal and they are legal, and match
    pub histories : ℕ → List TableEntry
    pub matched : DoMatch journal histories
    -- the clients of each door were served in it
    pub attended : All (WasAttended door_told link_told link_faults words plan.tables
        (record { journal = journal; tables = histories })) doors
    -- which doors failed
    pub failed : All (IsFailure door_faults) doors
    -- where the doors and their links tell, what the journal's events come of was asked for on them
    pub asked : IfSome (asks_at door_told link_told words doors) (WasAsked journal)
