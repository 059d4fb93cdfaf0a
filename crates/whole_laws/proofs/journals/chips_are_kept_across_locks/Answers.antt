use Rattle.whole_laws.proofs.ChipsOut.{chips-out, play-out}
use Rattle.whole_laws.proofs.journals.chips_are_kept_across_locks.Goals as goal

pub returns-clause-play : goal.returns-clause-play
returns-clause-play c = play-out

pub returns-clause-kept : goal.returns-clause-kept
returns-clause-kept c = chips-out
