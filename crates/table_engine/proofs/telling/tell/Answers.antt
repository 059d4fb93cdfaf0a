use Rattle.std.proofs.Common.{rules}
use Rattle.table_engine.proofs.telling.tell.Goals as goal

pub returns-then-matches : goal.returns-then-matches
returns-then-matches c = search rules
