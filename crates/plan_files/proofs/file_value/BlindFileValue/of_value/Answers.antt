-- A list of fewer than three or more than four values is no level.
use Rattle.std.proofs.Common.{arith, ap, ◌∙◌}
use Rattle.std.proofs.lemmas.Grind.{common_steps}
use Rattle.std.specs.Prelude.{option_and_then}
use Rattle.plan_files.specs.FileValues.{level_of_items}
use Rattle.plan_files.proofs.EachItem.{too_few, too_many}
use Rattle.plan_files.proofs.file_value.BlindFileValue.of_value.Goals as goal

pub returns-in_default : goal.returns-in_default
returns-in_default c =
    too_few c.as_slice.result.now c.in_ok-as_array.field-0.now.items c.as_slice.ensures.value c.in_default.len_below
    ∙ ap (option_and_then level_of_items) c.in_ok-as_array.ensures

pub returns-in_default-2 : goal.returns-in_default-2
returns-in_default-2 c =
    too_many c.as_slice.result.now c.in_ok-as_array.field-0.now.items c.as_slice.ensures.value c.in_default.len_at_least
    ∙ ap (option_and_then level_of_items) c.in_ok-as_array.ensures

pub returns-in_err-of_value-in-len3 : goal.returns-in_err-of_value-in-len3
returns-in_err-of_value-in-len3 c = grind (arith, common_steps)

pub returns-in_err-of_value-in-len3-2 : goal.returns-in_err-of_value-in-len3-2
returns-in_err-of_value-in-len3-2 c = grind (arith, common_steps)

pub returns-in_err-of_value-in-len3-3 : goal.returns-in_err-of_value-in-len3-3
returns-in_err-of_value-in-len3-3 c = grind (arith, common_steps)

pub returns-in_err-of_value-in-len4 : goal.returns-in_err-of_value-in-len4
returns-in_err-of_value-in-len4 c = grind (arith, common_steps)

pub returns-in_err-of_value-in-len4-2 : goal.returns-in_err-of_value-in-len4-2
returns-in_err-of_value-in-len4-2 c = grind (arith, common_steps)

pub returns-in_err-of_value-in-len4-3 : goal.returns-in_err-of_value-in-len4-3
returns-in_err-of_value-in-len4-3 c = grind (arith, common_steps)
