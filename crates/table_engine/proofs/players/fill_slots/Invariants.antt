use Rattle.std.proofs.Common.{◌≡◌, ◌-◌, drop}
use Rattle.table_engine.proofs.Filling.{filled}
use Rattle.table_engine.proofs.players.fill_slots.Given as goal

-- The slots are what the last players fill, so many as are done.
abbrev pub invariant-loop-done : goal.invariant-loop-done
invariant-loop-done g l =
    l.slots ≡ filled (g.T.InSlot.made l.start) l.fn.nobody (drop (l.count - l.done) l.players)
