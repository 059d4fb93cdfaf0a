use Rattle.std.proofs.Common.{◌+◌, ◌*◌}
use Rattle.std.specs.Prelude.{vec_len}
use Rattle.floor_crew.proofs.threads.+desks.Given as goal

abbrev pub decreases-run_desks : goal.decreases-run_desks
decreases-run_desks g l = 2 * vec_len l.doors

abbrev pub decreases-others : goal.decreases-others
decreases-others g l = 2 * vec_len l.doors + 1
