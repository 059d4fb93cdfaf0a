use Rattle.std.proofs.Common.{rules, ◌≡◌, refl, subst, if◌then◌else◌, Bool, true, false, Some, None}
use Rattle.level_plan.specs.declared.line.PlanItem.{PlanItem}
use Rattle.level_plan.specs.declared.line.PlanFault.{PlanFault}
use Rattle.level_plan.specs.Drafts.{IsFault, is_wrong_line, item_of_line, line_fault}
use Rattle.tournament_events.specs.declared.answer.Answer.TheVariants as answers
use Rattle.floor_core.proofs.plan.take_line.Goals as goal

-- A line that is wrong is answered with its item.
wrong_answer : (wrong : Bool) (own item : PlanItem) → (if wrong then Some own else None) ≡ Some item
    → (if wrong then answers.PlanWrong own else answers.Ok) ≡ answers.PlanWrong item
wrong_answer true own item found = cc
wrong_answer false own item found = absurd cc

pub returns-in-Err-Wrong-clause-answer : goal.returns-in-Err-Wrong-clause-answer
returns-in-Err-Wrong-clause-answer c =
    let draft = c.args.draft.now in
    let line = c.args.line.now in
    let found : (if is_wrong_line draft line then Some (item_of_line line) else None)
    ≡ Some c.in-Err-Wrong.item = subst (λ (fault : PlanFault). IsFault (line_fault draft line) fault)
    c.in-Err-Wrong.field-0-is c.in-Err-Wrong.ensures.fault in
    rw (wrong_answer (is_wrong_line draft line) (item_of_line line) c.in-Err-Wrong.item found) refl

pub returns-in-Err-Wrong-clause-state : goal.returns-in-Err-Wrong-clause-state
returns-in-Err-Wrong-clause-state c =
    let draft = c.args.draft.now in
    let line = c.args.line.now in
    let found : (if is_wrong_line draft line then Some (item_of_line line) else None)
    ≡ Some c.in-Err-Wrong.item = subst (λ (fault : PlanFault). IsFault (line_fault draft line) fault)
    c.in-Err-Wrong.field-0-is c.in-Err-Wrong.ensures.fault in
    rw (wrong_answer (is_wrong_line draft line) (item_of_line line) c.in-Err-Wrong.item found)
    c.in-Err-Wrong.ensures.kept

pub returns-in-Ok-clause-answer : goal.returns-in-Ok-clause-answer
returns-in-Ok-clause-answer c = search rules
