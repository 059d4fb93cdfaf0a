-- The plan that the items of a file make, or what is wrong with it.
use Rattle.std.proofs.Common.{◌≡◌, sym}
use Rattle.std.specs.Prelude.{None, Result, Ok, Err, IfOk, IfErr, OnOk}
use Rattle.toml.specs.Data.{Members}
use Rattle.level_plan.specs.declared.line.PlanFault.{PlanFault}
use Rattle.level_plan.specs.declared.line.PlanFault.TheVariants as faults
use Rattle.level_plan.specs.Drafts.{Draft, go_fault, plan_of, IsFault}
use Rattle.level_plan.specs.Plans.{PlanTerms}
use Rattle.plan_files.specs.PlanFiles.{given, items_in, plan_in, IsWrong}
use Rattle.plan_files.specs.Steps.{after_items}
use Rattle.plan_files.proofs.ItemRules.{after_items-items_in}
use Rattle.plan_files.proofs.Wrong.{wrong_then}

-- the plan of a file whose items are right
pub plan_taken : (file : Members) (draft : Draft) (plan : PlanTerms) → after_items (given file) ≡ Ok draft
    → go_fault draft ≡ None → plan ≡ plan_of draft → plan_in file ≡ Ok plan
unfolding plan_in
plan_taken file draft plan items none is = rw (sym (after_items-items_in file), items, none, is)

-- a plan of a file that its draft did not make
pub plan_refused : (file : Members) (draft : Draft) (fault : PlanFault) → after_items (given file) ≡ Ok draft
    → IsFault (go_fault draft) fault → IsWrong (plan_in file) fault
unfolding plan_in
plan_refused file draft (faults.Wrong item) items found = rw (sym (after_items-items_in file), items, found)
plan_refused file draft faults.NoMemory items found = tt

-- an item of a file that alone is wrong
pub items_refused : (file : Members) (fault : PlanFault) → IsWrong (after_items (given file)) fault
    → IsWrong (plan_in file) fault
unfolding plan_in
items_refused file fault wrong = wrong_then (items_in file) _ fault (rw (sym (after_items-items_in file)) wrong)

-- a plan that a draft made, and what is wrong with one that it did not make
pub given_plan : (result : Result PlanTerms PlanFault) (file : Members) (draft : Draft)
    → after_items (given file) ≡ Ok draft → IfOk result (λ plan. plan ≡ plan_of draft)
    → OnOk result (go_fault draft ≡ None) → IfOk result (λ plan. plan_in file ≡ Ok plan)
given_plan (Ok plan) file draft items is none = plan_taken file draft plan items none is
given_plan (Err fault) file draft items is none = tt

pub wrong_plan : (result : Result PlanTerms PlanFault) (file : Members) (draft : Draft)
    → after_items (given file) ≡ Ok draft → IfErr result (IsFault (go_fault draft)) → IfErr result (IsWrong (plan_in file))
wrong_plan (Ok plan) file draft items found = tt
wrong_plan (Err fault) file draft items found = plan_refused file draft fault items found
