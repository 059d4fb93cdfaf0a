use Rattle.std.proofs.Common.{rules}
use Rattle.history_lock.specs.Views.{opening_view}
use Rattle.history_lock.proofs.Seats.{arrives}
use Rattle.history_lock.proofs.lock.HistoryLock.wake.Goals as goal

pub load_new_seat-seat-requires : goal.load_new_seat-seat-requires
load_new_seat-seat-requires g c =
    let t = c.args.self.now.table.shared in (
      search rules,
      arrives g.V.Grows.history g.V.Grows.caller_of t.key.passes (g.V.Grows.history t.key.opening.value)
          t.table_id.slots (opening_view t.key.passes (g.V.Grows.history t.key.opening.value)),
    )
