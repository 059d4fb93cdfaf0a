use Rattle.std.proofs.Common.{◌+◌, ◌*◌}
use Rattle.std.specs.Prelude.{vec_len}
use Rattle.floor_crew.proofs.threads.+workers.Given as goal

abbrev pub decreases-run_workers : goal.decreases-run_workers
decreases-run_workers g l = 2 * vec_len l.works

abbrev pub decreases-others : goal.decreases-others
decreases-others g l = 2 * vec_len l.works + 1
