use Rattle.std.proofs.Common.{◌≡◌, take, map}
use Rattle.seat_book.specs.Players.{players_in}
use Rattle.balance_rule.proofs.names.names_in.Given as goal

-- The names so far are those of the players in the slots so far.
abbrev pub invariant-loop-slot : goal.invariant-loop-slot
invariant-loop-slot l = l.names.items ≡ map (λ seated. seated.name) (players_in (take l.slot-index l.slots))
