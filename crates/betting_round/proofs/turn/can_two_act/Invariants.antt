use Rattle.std.proofs.Common.{◌≡◌, take}
use Rattle.std.specs.Prelude.{count_by, if◌then◌else◌}
use Rattle.betting_round.specs.WhoIsDue.{is_there, can_act}
use Rattle.betting_round.proofs.turn.can_two_act.Given as goal

-- at most one of those passed can act, and it is kept whether one can
abbrev pub invariant-loop-slot : goal.invariant-loop-slot
invariant-loop-slot l = count_by (is_there can_act) (take l.slot-index l.players) ≡ (if l.can_one then 1 else 0)
