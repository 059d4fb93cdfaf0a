-- The statuses of a run.
use Rattle.std.proofs.Common.{◌≡◌, refl, ap, [], ◌∷◌, arith}
use Rattle.std.specs.Prelude.{Result, Ok, Err, Contains}
use Rattle.command_lines.specs.declared.fault.Fault.{Fault}
use Rattle.command_lines.specs.declared.fault.Fault.TheVariants as faults
use Rattle.command_lines.specs.Endings.{fault_status, run_status}

status_of_fault : (fault : Fault) → (fault ≡ faults.Hall → ⊥)
    → Contains (0 ∷ 2 ∷ 3 ∷ 4 ∷ 5 ∷ 6 ∷ 8 ∷ []) (fault_status fault)
status_of_fault faults.Usage no_hall = (1, omega arith, refl)
status_of_fault faults.Read no_hall = (2, omega arith, refl)
status_of_fault faults.Write no_hall = (3, omega arith, refl)
status_of_fault faults.NoMemory no_hall = (4, omega arith, refl)
status_of_fault (faults.Plan item) no_hall = (5, omega arith, refl)
status_of_fault faults.Hall no_hall = absurd (no_hall refl)
status_of_fault faults.InputTooLong no_hall = (6, omega arith, refl)

-- The status of a run that does not end by a hall's fault is one of those told.
pub status_of_run : (ran : Result (Unit {0}) Fault) → (ran ≡ Err faults.Hall → ⊥)
    → Contains (0 ∷ 2 ∷ 3 ∷ 4 ∷ 5 ∷ 6 ∷ 8 ∷ []) (run_status ran)
status_of_run (Ok value) no_hall = (0, omega arith, refl)
status_of_run (Err fault) no_hall = status_of_fault fault (λ hall. no_hall (ap Err hall))
