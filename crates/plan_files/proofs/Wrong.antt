-- What a fault tells of a reading that goes on, and of the lines that a draft is given.
use Rattle.std.proofs.Common.{◌≡◌, refl, sym, subst, true, false}
use Rattle.std.specs.Prelude.{Bool, Option, Some, None, Result, Ok, Err, IsErrAnd, IfErr, OnOk, if◌then◌else◌}
use Rattle.level_plan.specs.declared.line.PlanItem.{PlanItem}
use Rattle.level_plan.specs.declared.line.PlanLine.{PlanLine}
use Rattle.level_plan.specs.declared.line.PlanFault.{PlanFault}
use Rattle.level_plan.specs.declared.line.PlanFault.TheVariants as faults
use Rattle.level_plan.specs.Drafts.{Draft, is_wrong_line, item_of_line, line_fault, draft_after, IsFault}
use Rattle.plan_files.specs.PlanFiles.{◌>>=◌, IsWrong}
use Rattle.plan_files.specs.Steps.{after_line}

-- a fault of a reading is that of all that goes on from it
pub wrong_then : {A B : Type 0} (read : Result A PlanItem) (next : A → Result B PlanItem) (fault : PlanFault)
    → IsWrong read fault → IsWrong (read >>= next) fault
wrong_then read next (faults.Wrong item) wrong = rw wrong
wrong_then read next faults.NoMemory wrong = tt

-- a fault of what follows is that of the whole
pub wrong_later : {A B : Type 0} (read : Result A PlanItem) (value : A) (next : A → Result B PlanItem)
    (fault : PlanFault) → read ≡ Ok value → IsWrong (next value) fault → IsWrong (read >>= next) fault
wrong_later read value next fault is wrong = rw is wrong

-- a line that a draft took
pub line_taken : (item : PlanItem) (line : PlanLine) (draft new : Draft) → line_fault draft line ≡ None
    → new ≡ draft_after draft line → after_line item (Some line) draft ≡ Ok new
unfolding after_line
line_taken item line draft new none is = rw is (by_test (is_wrong_line draft line) none)
  where
    by_test : (wrong : Bool) → (if wrong then Some (item_of_line line) else None) ≡ None
        → (if wrong then Err (item_of_line line) else Ok (draft_after draft line)) ≡ Ok (draft_after draft line)
    by_test true none = absurd cc
    by_test false none = refl

-- a line that a draft did not take
pub line_refused : (item : PlanItem) (line : PlanLine) (draft : Draft) (fault : PlanFault)
    → IsFault (line_fault draft line) fault → IsWrong (after_line item (Some line) draft) fault
unfolding after_line
line_refused item line draft (faults.Wrong wrong_item) found = by_test (is_wrong_line draft line) found
  where
    by_test : (wrong : Bool) → (if wrong then Some (item_of_line line) else None) ≡ Some wrong_item
        → (if wrong then Err (item_of_line line) else Ok (draft_after draft line)) ≡ Err wrong_item
    by_test true found = cc
    by_test false found = absurd cc
line_refused item line draft faults.NoMemory found = tt

-- a fault that is handed on
pub handed_on : {A T : Type 0} (read : Result A PlanItem) (fault : PlanFault) (result : Result T PlanFault)
    → IsErrAnd result (λ error. error ≡ fault) → IsWrong read fault → IfErr result (IsWrong read)
handed_on read fault (Ok value) same wrong = tt
handed_on read fault (Err error) same wrong = subst (λ (fault : PlanFault). IsWrong read fault) (sym same) wrong

-- want of memory that is handed on
pub memory_out : {A T : Type 0} (read : Result A PlanItem) (result : Result T PlanFault)
    → IsErrAnd result (λ error. error ≡ faults.NoMemory) → IfErr result (IsWrong read)
memory_out read (Ok value) same = tt
memory_out read (Err error) same = subst (λ (fault : PlanFault). IsWrong read fault) (sym same) tt

-- what a draft is given that took a line
pub given_line : (result : Result (Unit {0}) PlanFault) (item : PlanItem) (said : Option PlanLine) (line : PlanLine)
    (draft new : Draft) → said ≡ Some line → OnOk result (new ≡ draft_after draft line)
    → OnOk result (line_fault draft line ≡ None) → OnOk result (after_line item said draft ≡ Ok new)
given_line (Ok value) item said line draft new is after taken = rw is (line_taken item line draft new taken after)
given_line (Err fault) item said line draft new is after taken = tt

-- what is wrong of a line that a draft did not take
pub wrong_line : (result : Result (Unit {0}) PlanFault) (item : PlanItem) (said : Option PlanLine) (line : PlanLine)
    (draft : Draft) → said ≡ Some line → IfErr result (IsFault (line_fault draft line))
    → IfErr result (IsWrong (after_line item said draft))
wrong_line (Ok value) item said line draft is found = tt
wrong_line (Err fault) item said line draft is found = rw is (line_refused item line draft fault found)

-- three readings one after another: a fault of the first, of the second and of the third, and what is read
pub first_wrong : {A B C : Type 0} (one : Result A PlanItem) (two : A → Result B PlanItem) (three : B → Result C PlanItem)
    (fault : PlanFault) → IsWrong one fault → IsWrong (one >>= (λ a. two a >>= three)) fault
first_wrong one two three fault wrong = wrong_then one (λ a. two a >>= three) fault wrong

pub second_wrong : {A B C : Type 0} (one : Result A PlanItem) (two : A → Result B PlanItem)
    (three : B → Result C PlanItem) (a : A) (fault : PlanFault) → one ≡ Ok a → IsWrong (two a) fault
    → IsWrong (one >>= (λ a. two a >>= three)) fault
second_wrong one two three a fault is wrong =
    wrong_later one a (λ a. two a >>= three) fault is (wrong_then (two a) three fault wrong)

pub third_wrong : {A B C T : Type 0} (one : Result A PlanItem) (two : A → Result B PlanItem)
    (three : B → Result C PlanItem) (a : A) (b : B) (result : Result T PlanFault) → one ≡ Ok a → two a ≡ Ok b
    → IfErr result (IsWrong (three b)) → IfErr result (IsWrong (one >>= (λ a. two a >>= three)))
third_wrong one two three a b result is next wrong = rw (is, next) wrong

pub third_given : {A B C T : Type 0} (one : Result A PlanItem) (two : A → Result B PlanItem)
    (three : B → Result C PlanItem) (a : A) (b : B) (made : C) (result : Result T PlanFault) → one ≡ Ok a
    → two a ≡ Ok b → OnOk result (three b ≡ Ok made)
    → OnOk result ((one >>= (λ a. two a >>= three)) ≡ Ok made)
third_given one two three a b made result is next given = rw (is, next) given
