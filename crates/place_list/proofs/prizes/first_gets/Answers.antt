use Rattle.std.proofs.Common.{rules}
use Rattle.place_list.proofs.prizes.first_gets.Goals as goal

pub returns-then-not-is_empty : goal.returns-then-not-is_empty
returns-then-not-is_empty c = search rules
