-- A file that gives each item of a right plan is read as this plan.
use Rattle.plan_files.proofs.MadeAgain.{right_file}
use Rattle.plan_files.proofs.laws.a_right_plan_is_read.Goals as goal

pub returns : goal.returns
returns c = right_file
