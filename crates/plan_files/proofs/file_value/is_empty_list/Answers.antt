-- A list that has a value is no empty list.
use Rattle.std.proofs.Common.{ap, false, ◌∙◌}
use Rattle.std.specs.Option.{option_map_or}
use Rattle.plan_files.specs.FileValues.{has_no_item}
use Rattle.plan_files.proofs.EachItem.{has_one}
use Rattle.plan_files.proofs.file_value.is_empty_list.Goals as goal

pub returns-in_default : goal.returns-in_default
returns-in_default c =
    has_one c.as_slice.result.now c.in-Some.array.now.items c.as_slice.ensures.value c.in_default.len_at_least
    ∙ ap (λ found. option_map_or has_no_item found false) c.in-Some.ensures
