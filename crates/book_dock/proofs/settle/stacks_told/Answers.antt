use Rattle.std.proofs.Common.{rules}
use Rattle.book_dock.proofs.settle.stacks_told.Goals as goal

pub after_hand-requires : goal.after_hand-requires
after_hand-requires c = search rules
