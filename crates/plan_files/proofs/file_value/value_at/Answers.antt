-- The map of a table finds what its members have at a key.
use Rattle.toml.proofs.Views.{table_get}
use Rattle.plan_files.proofs.file_value.value_at.Goals as goal

pub returns : goal.returns
returns c = table_get c.get.result c.args.key.now c.args.file.now.entries c.get.ensures.value
