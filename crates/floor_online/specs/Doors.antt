-- The doors of a hall, and what is written of those that failed. This project's own.
use Rattle.std.specs.Prelude.{◌≡◌, ◌+◌, ℕ, Bool, List, [], ◌∷◌, ◌++◌, codes, length, map, if◌then◌else◌}
use Rattle.std.specs.Fmt.{decimal}
use Rattle.line_words.specs.Words.{line_of_words}
use Rattle.links.specs.declared.hall.HallFault.{HallFault}
use Rattle.links.specs.declared.hall.HallFault.TheVariants as halls
use Rattle.links.specs.Telling.{HallTelling}
use Rattle.command_lines.specs.declared.fault.Fault.{Fault}
use Rattle.command_lines.specs.declared.fault.Fault.TheVariants as faults
use Rattle.floor_crew.specs.DoorRuns.{DoorRun}

-- why a hall gave no doors, as a fault of the run
abbrev pub fault_of_hall : HallFault → Fault
fault_of_hall halls.Failed = faults.Hall
fault_of_hall halls.NoMemory = faults.NoMemory

-- the line that tells that the door of a number failed
abbrev pub failed_line : ℕ → List ℕ
failed_line number = line_of_words (codes "door" ∷ decimal number ∷ codes "fault" ∷ [])

-- the line of the door of a number, where it failed
abbrev pub line_where_failed : ℕ → Bool → List ℕ
line_where_failed number failed = if failed then failed_line number else []

-- The lines of the doors that failed, in rising number, where the first door has this number.
abbrev pub failed_text : ℕ → List Bool → List ℕ
failed_text number [] = []
failed_text number (failed ∷ more) = line_where_failed number failed ++ failed_text (number + 1) more

module _ {D : Type 0} where
  -- A hall gave these doors, and all of them are back.
  pub record AreDoorsBack (doors : List (DoorRun D)) (before after : HallTelling D) : Type 0 where
    pub given : after.given ≡ before.given ++ map (λ (door : DoorRun D). door.given) doors
    pub back : after.back ≡ before.back ++ map (λ (door : DoorRun D). door.back) doors

  -- A hall has as many doors back more as it gave more.
  pub record IsEvenOn (before after : HallTelling D) : Type 0 where
    pub given : List D
    pub back : List D
    pub all_given : after.given ≡ before.given ++ given
    pub all_back : after.back ≡ before.back ++ back
    pub as_many : length back ≡ length given
