use Rattle.std.proofs.Common.{◌≡◌, ◌≤◌, take}
use Rattle.button_blinds.specs.SeatSets.{seat_count}
use Rattle.button_blinds.proofs.seat_set.SeatSet.count.Given as goal

abbrev pub invariant-loop-is_in : goal.invariant-loop-is_in
invariant-loop-is_in l = (l.count ≡ seat_count (take l.is_in-index l.is_in-items)) × (l.count ≤ l.is_in-index)
