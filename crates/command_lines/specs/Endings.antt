-- How a run ends. This project's own.
use Rattle.std.specs.Prelude.{◌≡◌, ℕ, ◌==◌, ◌⊎◌, List, [], ◌∷◌, ◌++◌, take, codes, Option, Some, Result, Ok, Err, if◌then◌else◌}
use Rattle.floor_text.specs.Outside.{Rose}
use Rattle.floor_events.specs.Spelling.{item_word}
use Rattle.floor_text.specs.declared.line_reader.ReadEnd.{ReadEnd}
use Rattle.floor_text.specs.declared.line_reader.ReadEnd.TheVariants.{ReadFault, InputTooLong}
use Rattle.level_plan.specs.declared.line.PlanFault.{PlanFault}
use Rattle.level_plan.specs.declared.line.PlanFault.TheVariants as plan_faults
use Rattle.plan_files.specs.declared.whole.WholeEnd.{WholeEnd}
use Rattle.plan_files.specs.declared.whole.WholeEnd.TheVariants as whole_ends
use Rattle.command_lines.specs.declared.fault.Fault.{Fault}
use Rattle.command_lines.specs.declared.fault.Fault.TheVariants as faults

-- the exit status of a run that ended by a fault
abbrev pub fault_status : Fault → ℕ
fault_status faults.Usage = 2
fault_status faults.Read = 3
fault_status faults.Write = 4
fault_status faults.NoMemory = 5
fault_status (faults.Plan item) = 6
fault_status faults.Hall = 7
fault_status faults.InputTooLong = 8

-- the exit status of a run
abbrev pub run_status : Result (Unit {0}) Fault → ℕ
run_status (Ok value) = 0
run_status (Err fault) = fault_status fault

-- the line that tells a fault
abbrev pub fault_line : Fault → List ℕ
fault_line faults.Usage = codes "usage: replay / view NAME / simulate N / serve PORT DESKS" ++ 10 ∷ []
fault_line faults.Read = codes "read fault" ++ 10 ∷ []
fault_line faults.Write = codes "write fault" ++ 10 ∷ []
fault_line faults.NoMemory = codes "out of memory" ++ 10 ∷ []
fault_line (faults.Plan item) = codes "plan " ++ (item_word item ++ 10 ∷ [])
fault_line faults.Hall = codes "hall fault" ++ 10 ∷ []
fault_line faults.InputTooLong = codes "input too long" ++ 10 ∷ []

-- the line of a status, which is that of its fault; that of a wrong plan names the item too
abbrev pub status_line : ℕ → List ℕ
status_line status =
    if status == 2 then fault_line faults.Usage else
    (if status == 3 then fault_line faults.Read else
    (if status == 4 then fault_line faults.Write else
    (if status == 5 then fault_line faults.NoMemory else
    (if status == 7 then fault_line faults.Hall else
    (if status == 8 then fault_line faults.InputTooLong else [])))))

-- why no line could be read, as a fault of the run
abbrev pub fault_of_read_end : ReadEnd → Fault
fault_of_read_end ReadFault = faults.Read
fault_of_read_end InputTooLong = faults.InputTooLong

-- why a source was not read whole, as a fault of the run
abbrev pub fault_of_whole_end : WholeEnd → Fault
fault_of_whole_end whole_ends.ReadFault = faults.Read
fault_of_whole_end whole_ends.InputTooLong = faults.InputTooLong
fault_of_whole_end whole_ends.NoMemory = faults.NoMemory

-- why no plan could be read, as a fault of the run
abbrev pub fault_of_plan : PlanFault → Fault
fault_of_plan (plan_faults.Wrong item) = faults.Plan item
fault_of_plan plan_faults.NoMemory = faults.NoMemory

-- A line was put whole, or a front of it and then the sink failed in this call.
abbrev pub PutsLine : List ℕ → List ℕ → Option (List ℕ) → ℕ → ℕ → Type 0
PutsLine before line written faults_before faults_now =
    (written ≡ Some (before ++ line))
    ⊎ ((n : ℕ) × (written ≡ Some (before ++ take n line)) × Rose faults_before faults_now)

-- the faults of writing: the sink failed, or memory ran out
abbrev pub IsOfWriting : Fault → Type 0
IsOfWriting faults.Usage = ⊥
IsOfWriting faults.Read = ⊥
IsOfWriting faults.Write = Unit {0}
IsOfWriting faults.NoMemory = Unit {0}
IsOfWriting (faults.Plan item) = ⊥
IsOfWriting faults.Hall = ⊥
IsOfWriting faults.InputTooLong = ⊥

-- the faults of reading: the source failed, or it has too many bytes
abbrev pub IsOfReading : Fault → Type 0
IsOfReading faults.Usage = ⊥
IsOfReading faults.Read = Unit {0}
IsOfReading faults.Write = ⊥
IsOfReading faults.NoMemory = ⊥
IsOfReading (faults.Plan item) = ⊥
IsOfReading faults.Hall = ⊥
IsOfReading faults.InputTooLong = Unit {0}

-- A sink holds back nothing of what a run put: nothing at all, or the run left it as it was.
abbrev pub LetsGo : {S : Type 0} → (S → List ℕ) → S → S → Type 0
LetsGo held before now = (held now ≡ []) ⊎ (now ≡ before)
