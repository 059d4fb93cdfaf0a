-- What the status of a run tells of its fault and of its input.
use Rattle.std.proofs.Common.{◌≡◌, ◌∙◌, ℕ, ◌≤◌, refl, sym, ap, subst, inl, inr, List, [], length, arith}
use Rattle.std.specs.Prelude.{◌⊎◌, ◌==◌, if◌then◌else◌, true, false, Option, Some, None, IfErr, IfSome, OnOk, Result, Ok, Err, IsOk, MatchResult}
use Rattle.level_plan.specs.declared.line.PlanItem.{PlanItem}
use Rattle.command_lines.specs.declared.fault.Fault.{Fault}
use Rattle.command_lines.specs.declared.fault.Fault.TheVariants as faults
use Rattle.command_lines.specs.Endings.{fault_line, fault_status, run_status, status_line}
use Rattle.command_lines.specs.Limits.{GivesMore}

-- The fault of status 6 is an item of the plan.
pub plan_of_status : (fault : Fault) → fault_status fault ≡ 6 → (item : PlanItem) × (fault ≡ faults.Plan item)
plan_of_status faults.Usage is = absurd (omega arith)
plan_of_status faults.Read is = absurd (omega arith)
plan_of_status faults.Write is = absurd (omega arith)
plan_of_status faults.NoMemory is = absurd (omega arith)
plan_of_status (faults.Plan item) is = (item, refl)
plan_of_status faults.Hall is = absurd (omega arith)
plan_of_status faults.InputTooLong is = absurd (omega arith)

abbrev fault_at : ℕ → Fault
fault_at status =
    if status == 2 then faults.Usage else
    (if status == 3 then faults.Read else
    (if status == 4 then faults.Write else
    (if status == 5 then faults.NoMemory else
    (if status == 7 then faults.Hall else faults.InputTooLong))))

fault_of_status : (fault : Fault) → (fault_status fault ≡ 6 → ⊥) → fault ≡ fault_at (fault_status fault)
fault_of_status faults.Usage other = refl
fault_of_status faults.Read other = refl
fault_of_status faults.Write other = refl
fault_of_status faults.NoMemory other = refl
fault_of_status (faults.Plan item) other = absurd (other refl)
fault_of_status faults.Hall other = refl
fault_of_status faults.InputTooLong other = refl

-- Two faults of one status, which is not that of a wrong plan, are one.
pub same_fault : (fault other : Fault) → fault_status fault ≡ fault_status other → (fault_status other ≡ 6 → ⊥)
    → fault ≡ other
same_fault fault other same no_plan =
    fault_of_status fault (λ six. no_plan (sym same ∙ six)) ∙ ap fault_at same ∙ sym (fault_of_status other no_plan)

-- no fault has the status of a run that ended well
no_zero : (fault : Fault) → fault_status fault ≡ 0 → ⊥
no_zero faults.Usage is = omega arith
no_zero faults.Read is = omega arith
no_zero faults.Write is = omega arith
no_zero faults.NoMemory is = omega arith
no_zero (faults.Plan item) is = omega arith
no_zero faults.Hall is = omega arith
no_zero faults.InputTooLong is = omega arith

line_of_fault : (fault : Fault) → (fault_status fault ≡ 6 → ⊥) → fault_line fault ≡ status_line (fault_status fault)
line_of_fault faults.Usage other = refl
line_of_fault faults.Read other = refl
line_of_fault faults.Write other = refl
line_of_fault faults.NoMemory other = refl
line_of_fault (faults.Plan item) other = absurd (other refl)
line_of_fault faults.Hall other = refl
line_of_fault faults.InputTooLong other = refl

ended_at_zero : (ran : Result (Unit {0}) Fault) → run_status ran ≡ 0 → {P : Type 0} → OnOk ran P → P
ended_at_zero (Ok value) zero holds = holds
ended_at_zero (Err fault) zero holds = absurd (no_zero fault zero)

ended_at_fault : (ran : Result (Unit {0}) Fault) (fault : Fault) → run_status ran ≡ fault_status fault
    → (fault_status fault ≡ 6 → ⊥) → ran ≡ Err fault
ended_at_fault (Ok value) fault same no_plan = absurd (no_zero fault (sym same))
ended_at_fault (Err other) fault same no_plan = ap Err (same_fault other fault same no_plan)

ended_at_six : (ran : Result (Unit {0}) Fault) → run_status ran ≡ 6 → (item : PlanItem) × (ran ≡ Err (faults.Plan item))
ended_at_six (Ok value) six = absurd (omega arith)
ended_at_six (Err fault) six = let wrong = plan_of_status fault six in (wrong.0, ap Err wrong.1)

ended_otherwise : {P : Type 0} (ran : Result (Unit {0}) Fault)
    → ((fault : Fault) → ran ≡ Err fault → (fault ≡ faults.Write → ⊥) → P) → (run_status ran ≡ 0 → ⊥)
    → (run_status ran ≡ 4 → ⊥) → P
ended_otherwise (Ok value) others failed no_write = absurd (failed refl)
ended_otherwise (Err fault) others failed no_write = others fault refl (λ write. no_write (ap fault_status write))

ended_let_go : {P : Type 0} (ran : Result (Unit {0}) Fault) → OnOk ran P
    → ((fault : Fault) → ran ≡ Err fault → (fault ≡ faults.Write → ⊥) → P) → (run_status ran ≡ 4 → ⊥) → P
ended_let_go (Ok value) well others no_write = well
ended_let_go (Err fault) well others no_write = others fault refl (λ write. no_write (ap fault_status write))

line_at : (P : List ℕ → Type 0) (ran : Result (Unit {0}) Fault) → IfErr ran (λ fault. P (fault_line fault))
    → (run_status ran ≡ 0 → ⊥) → (run_status ran ≡ 6 → ⊥) → P (status_line (run_status ran))
line_at P (Ok value) told failed no_plan = absurd (failed refl)
line_at P (Err fault) told failed no_plan = subst P (line_of_fault fault no_plan) told

-- A run that ended with a status.
module _ (ran : Result (Unit {0}) Fault) (status : ℕ) (is : status ≡ run_status ran) where
  -- Where it is 0, it ended well.
  pub at_zero : {P : Type 0} → OnOk ran P → status ≡ 0 → P
  at_zero holds zero = ended_at_zero ran (sym is ∙ zero) holds

  -- Where it is that of a fault, but of a wrong plan, it ended by that fault.
  pub at_fault : (fault : Fault) → status ≡ fault_status fault → (fault_status fault ≡ 6 → ⊥) → ran ≡ Err fault
  at_fault fault same no_plan = ended_at_fault ran fault (sym is ∙ same) no_plan

  -- Where it is 6, it ended by an item of the plan.
  pub at_six : status ≡ 6 → (item : PlanItem) × (ran ≡ Err (faults.Plan item))
  at_six six = ended_at_six ran (sym is ∙ six)

  -- Where it is neither 0 nor that of a write fault, it ended by another fault.
  pub at_other : {P : Type 0} → ((fault : Fault) → ran ≡ Err fault → (fault ≡ faults.Write → ⊥) → P)
      → (status ≡ 0 → ⊥) → (status ≡ 4 → ⊥) → P
  at_other others failed no_write =
      ended_otherwise ran others (λ zero. failed (is ∙ zero)) (λ four. no_write (is ∙ four))

  -- Where it is not that of a write fault, it ended well or by another fault.
  pub at_no_write : {P : Type 0} → OnOk ran P → ((fault : Fault) → ran ≡ Err fault → (fault ≡ faults.Write → ⊥) → P)
      → (status ≡ 4 → ⊥) → P
  at_no_write well others no_write = ended_let_go ran well others (λ four. no_write (is ∙ four))

  -- Where it is neither 0 nor that of a wrong plan, the line of its fault is that of the status.
  pub at_line : (P : List ℕ → Type 0) → IfErr ran (λ fault. P (fault_line fault)) → (status ≡ 0 → ⊥)
      → (status ≡ 6 → ⊥) → P (status_line status)
  at_line P told failed no_plan = subst (λ now. P (status_line now)) (sym is)
      (line_at P ran told (λ zero. failed (is ∙ zero)) (λ six. no_plan (is ∙ six)))

-- A status tells what an input is read as: 0 that it is right, 6 that an item of its plan is wrong, and 5 nothing.
abbrev pub Tells : {A : Type 0} → ℕ → Result A PlanItem → Type 0
Tells status read = MatchResult read (λ right. (status ≡ 0) ⊎ (status ≡ 5)) (λ item. (status ≡ 6) ⊎ (status ≡ 5))

module _ {A : Type 0} where
  no_memory_tells : (read : Result A PlanItem) → Tells 5 read
  no_memory_tells (Ok right) = inr refl
  no_memory_tells (Err item) = inr refl

  well_tells : (read : Result A PlanItem) → IsOk read → Tells 0 read
  well_tells (Ok right) is = inl refl
  well_tells (Err item) is = let never : false ≡ true = is in absurd cc

-- A run over an input, with a limit of its bytes and a way to read them.
module _ {A : Type 0} (limit : ℕ) (read_as : List ℕ → Result A PlanItem) where
  -- One that ended well had an input that is right.
  pub ended_well : (left : Option (List ℕ)) → IfSome left (λ bytes. IsOk (read_as bytes))
      → IfSome left (λ bytes. length bytes ≤ limit → Tells 0 (read_as bytes))
  ended_well None right = tt
  ended_well (Some bytes) right = λ within. well_tells (read_as bytes) right

  wanting : (left : Option (List ℕ)) → IfSome left (λ bytes. length bytes ≤ limit → Tells 5 (read_as bytes))
  wanting None = tt
  wanting (Some bytes) = λ within. no_memory_tells (read_as bytes)

  planned : (item : PlanItem) (left rest : Option (List ℕ))
      → IfSome left (λ bytes. (read_as bytes ≡ Err item) × (rest ≡ Some []))
      → IfSome left (λ bytes. length bytes ≤ limit → Tells 6 (read_as bytes))
  planned item None rest wrong = tt
  planned item (Some bytes) rest wrong = λ within. rw wrong.0 (inl refl)

  too_long : (status : ℕ) (left rest : Option (List ℕ)) → GivesMore limit left rest
      → IfSome left (λ bytes. length bytes ≤ limit → Tells status (read_as bytes))
  too_long status None rest more = tt
  too_long status (Some bytes) None more = absurd more
  too_long status (Some bytes) (Some left) more = λ within. absurd (omega (arith, more, within))

  -- One that ended by a fault had a wrong plan, or only memory was wanting, where no other fault has its cause.
  pub ended_by : (fault : Fault) (left rest : Option (List ℕ)) → (fault ≡ faults.Usage → ⊥)
      → (fault ≡ faults.Hall → ⊥) → (fault ≡ faults.Read → ⊥) → (fault ≡ faults.Write → ⊥)
      → (fault ≡ faults.InputTooLong → GivesMore limit left rest)
      → ((item : PlanItem) → fault ≡ faults.Plan item
      → IfSome left (λ bytes. (read_as bytes ≡ Err item) × (rest ≡ Some [])))
      → IfSome left (λ bytes. length bytes ≤ limit → Tells (fault_status fault) (read_as bytes))
  ended_by faults.Usage left rest usage hall read write more plan = absurd (usage refl)
  ended_by faults.Read left rest usage hall read write more plan = absurd (read refl)
  ended_by faults.Write left rest usage hall read write more plan = absurd (write refl)
  ended_by faults.NoMemory left rest usage hall read write more plan = wanting left
  ended_by (faults.Plan item) left rest usage hall read write more plan = planned item left rest (plan item refl)
  ended_by faults.Hall left rest usage hall read write more plan = absurd (hall refl)
  ended_by faults.InputTooLong left rest usage hall read write more plan = too_long 8 left rest (more refl)

  -- What the status of a run tells, whether it ended well or by a fault.
  pub ended : (ran : Result (Unit {0}) Fault) (left rest : Option (List ℕ))
      → OnOk ran (IfSome left (λ bytes. IsOk (read_as bytes)))
      → (ran ≡ Err faults.Usage → ⊥) → (ran ≡ Err faults.Hall → ⊥) → (ran ≡ Err faults.Read → ⊥)
      → (ran ≡ Err faults.Write → ⊥) → (ran ≡ Err faults.InputTooLong → GivesMore limit left rest)
      → ((item : PlanItem) → ran ≡ Err (faults.Plan item)
      → IfSome left (λ bytes. (read_as bytes ≡ Err item) × (rest ≡ Some [])))
      → IfSome left (λ bytes. length bytes ≤ limit → Tells (run_status ran) (read_as bytes))
  ended (Ok value) left rest right usage hall read write more plan = ended_well left right
  ended (Err fault) left rest right usage hall read write more plan =
      ended_by fault left rest (λ is. usage (ap Err is)) (λ is. hall (ap Err is)) (λ is. read (ap Err is))
      (λ is. write (ap Err is)) (λ is. more (ap Err is)) (λ item is. plan item (ap Err is))
