-- The draft of the file's items makes its plan, or says what is wrong.
use Rattle.toml.specs.View.{table_view}
use Rattle.plan_files.specs.PlanFiles.{plan_in}
use Rattle.plan_files.proofs.Wrong.{handed_on}
use Rattle.plan_files.proofs.WrongPlans.{items_refused, given_plan, wrong_plan}
use Rattle.plan_files.proofs.plan_file.plan_in.Goals as goal

pub returns-in_err-items_in-clause-wrong : goal.returns-in_err-items_in-clause-wrong
returns-in_err-items_in-clause-wrong c =
    handed_on (plan_in (table_view c.args.file.now)) c.in_err-items_in.field-0.0 c.from_residual.result
    c.from_residual.ensures.1
    (items_refused (table_view c.args.file.now) c.in_err-items_in.field-0.0 c.in_err-items_in.ensures.wrong)

pub returns-clause-plan : goal.returns-clause-plan
returns-clause-plan c =
    given_plan c.go-2.result (table_view c.args.file.now) c.in_ok-items_in.field-0 c.in_ok-items_in.ensures.items
    c.go-2.ensures.plan c.go-2.ensures.complete

pub returns-clause-wrong : goal.returns-clause-wrong
returns-clause-wrong c =
    wrong_plan c.go-2.result (table_view c.args.file.now) c.in_ok-items_in.field-0 c.in_ok-items_in.ensures.items
    c.go-2.ensures.fault
