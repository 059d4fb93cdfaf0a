use Rattle.std.proofs.Common.{rules}
use Rattle.card_set.proofs.spelling.card_text.Goals as goal

pub returns : goal.returns
returns c = search rules
