use Rattle.std.proofs.Common.{◌≡◌, drop}
use Rattle.toml.specs.View.{items_view}
use Rattle.plan_files.specs.FileValues.{each_item}
use Rattle.plan_files.proofs.EachItem.{behind}
use Rattle.plan_files.proofs.file_value.each_of.Given as goal

abbrev pub invariant-values : goal.invariant-values
invariant-values g l =
    behind l.list (each_item g.T.FileValue.said (items_view (drop l.value-index l.values)))
    ≡ each_item g.T.FileValue.said (items_view l.values)
