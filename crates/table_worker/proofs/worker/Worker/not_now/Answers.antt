use Rattle.std.proofs.Common.{[], refl}
use Rattle.history_lock.specs.Passes.{seen}
use Rattle.table_worker.proofs.Visiting.{visit-none}
use Rattle.table_worker.proofs.worker.Worker.not_now.Goals as goal

pub returns-clause-dock : goal.returns-clause-dock
returns-clause-dock g c =
    let dock = c.args.self.dock in
    record { at = seen dock; added = []; visit = visit-none dock; is = refl }
