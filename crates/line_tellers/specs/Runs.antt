-- What a run over the lines of an input comes to, whatever it tells of them. This project's own.
use Rattle.std.specs.Prelude.{◌≡◌, ℕ, ◌≤◌, List, [], ◌++◌, length, Option, Some, IfSome, Result, OnOk, IfErr, IsErrOf}
use Rattle.floor_text.specs.Outside.{Rose}
use Rattle.level_plan.specs.declared.line.PlanItem.{PlanItem}
use Rattle.command_lines.specs.declared.fault.Fault.{Fault}
use Rattle.command_lines.specs.declared.fault.Fault.TheVariants as faults
use Rattle.command_lines.specs.Endings.{IsOfReading, LetsGo}
use Rattle.command_lines.specs.Limits.{GivesMore}
use Rattle.line_tellers.specs.Limits.{input_limit}
use Rattle.line_tellers.specs.Promise.{TakesAndPuts, IsToldOf}
use Rattle.line_tellers.specs.Told.{Telling, stream_told}

-- A run over the lines of a source told of them on a sink, and ended so. Both tell of themselves: what a source has
-- left, what was written to a sink and what it holds back, and how often each failed.
pub record HasRun {S O : Type 0} (left : S → Option (List ℕ)) (read_faults : S → ℕ) (written : O → Option (List ℕ))
    (held : O → List ℕ) (write_faults : O → ℕ) (telling : Telling) (input after : S) (out put : O)
    (result : Result (Unit {0}) Fault)
    : Type 0 where
  -- where it ended well the input was read to its end, all is told of it, and nothing is held back
  pub end : OnOk result (IfSome (left input) (λ _. left after ≡ Some []))
  pub text : OnOk result (IfSome (left input) (λ bytes. IfSome (written out)
      (λ before. written put ≡ Some (before ++ stream_told telling bytes))))
  pub within : OnOk result (IfSome (left input) (λ bytes. length bytes ≤ input_limit))
  pub let_go : OnOk result (held put ≡ [])
  -- where it failed, what was put is told of the bytes that were taken
  pub told : IfErr result (λ fault. TakesAndPuts (IsToldOf fault telling)
      (left input) (left after) (written out) (written put))
  -- something is held back only where the sink failed or memory ran out
  pub read_let_go : IfErr result (λ fault. IsOfReading fault → LetsGo held out put)
  -- each fault has its cause
  pub too_long : IsErrOf result faults.InputTooLong → GivesMore input_limit (left input) (left after)
  pub read : IsErrOf result faults.Read → Rose (read_faults input) (read_faults after)
  pub out_later : write_faults out ≤ write_faults put
  pub write : IsErrOf result faults.Write → Rose (write_faults out) (write_faults put)
  -- no other fault comes
  pub words : IsErrOf result faults.Usage → ⊥
  pub hall : IsErrOf result faults.Hall → ⊥
  pub plan : (item : PlanItem) → IsErrOf result (faults.Plan item) → ⊥
