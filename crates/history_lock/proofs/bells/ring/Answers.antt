use Rattle.std.proofs.Common.{rules}
use Rattle.history_lock.proofs.Seats.{rings}
use Rattle.history_lock.proofs.bells.ring.Goals as goal

pub fetch_add-requires : goal.fetch_add-requires
fetch_add-requires g c =
    let t = c.args.steps.now in let seat = c.args.seat.now in (
      search rules,
      search rules,
      rings g.V.Grows.history g.V.Grows.caller_of t.key.passes (g.V.Grows.history t.key.opening.value)
          t.table_id.slots seat.id c.args.bell seat.me.0 seat.me.1 c.requires.bell.0,
    )
