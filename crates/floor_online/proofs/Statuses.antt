-- The statuses of a server.
use Rattle.std.proofs.Common.{◌≡◌, ℕ, refl, List, [], ◌∷◌, Option, Some, None, arith}
use Rattle.std.specs.Prelude.{Contains, IfSome, IsOk}
use Rattle.level_plan.specs.Plans.{PlanTerms}
use Rattle.plan_files.specs.Words.{WordTerms, served_of_file}
use Rattle.command_lines.specs.declared.fault.Fault.{Fault}
use Rattle.command_lines.specs.declared.fault.Fault.TheVariants as faults
use Rattle.command_lines.specs.Endings.{fault_line, fault_status, status_line}
use Rattle.floor_online.specs.Served.{IsFile}

-- the status of a fault is one of those told
pub status-told : (fault : Fault) → Contains (0 ∷ 2 ∷ 3 ∷ 4 ∷ 5 ∷ 6 ∷ 7 ∷ 8 ∷ []) (fault_status fault)
status-told faults.Usage = (1, omega arith, refl)
status-told faults.Read = (2, omega arith, refl)
status-told faults.Write = (3, omega arith, refl)
status-told faults.NoMemory = (4, omega arith, refl)
status-told (faults.Plan item) = (5, omega arith, refl)
status-told faults.Hall = (6, omega arith, refl)
status-told faults.InputTooLong = (7, omega arith, refl)

-- the line of a status is that of its fault, but for that of a wrong plan
pub line-told : (fault : Fault) → (fault_status fault ≡ 6 → ⊥) → status_line (fault_status fault) ≡ fault_line fault
line-told faults.Usage other = refl
line-told faults.Read other = refl
line-told faults.Write other = refl
line-told faults.NoMemory other = refl
line-told (faults.Plan item) other = absurd (other refl)
line-told faults.Hall other = refl
line-told faults.InputTooLong other = refl

-- a file that gives a plan and session words is right
pub file-right : (left : Option (List ℕ)) (plan : PlanTerms) (words : WordTerms) → IsFile left plan words
    → IfSome left (λ bytes. IsOk (served_of_file bytes))
file-right None plan words read = tt
file-right (Some bytes) plan words read = rw read refl
