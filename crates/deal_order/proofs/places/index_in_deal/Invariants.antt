use Rattle.std.proofs.Common.{◌≡◌, ◌≤◌, ◌+◌, ◌-◌}
use Rattle.std.specs.Prelude.{filter}
use Rattle.rulebook.specs.Seats.{seat_after, walk}
use Rattle.button_blinds.specs.SeatSets.{has_seat}
use Rattle.deal_order.specs.DealOrder.{dealt_in_order, index_in}
use Rattle.deal_order.proofs.places.index_in_deal.Given as goal

-- Those who came before so far are no more than the steps, and with those of the rest of the walk they are all who come
-- before.
abbrev pub invariant-loop-step : goal.invariant-loop-step
invariant-loop-step l =
    (l.before ≤ l._step)
    × (l.before + index_in l.seat (filter (has_seat l.dealt) (walk (seat_after l.seats) (l.seats - l._step) l.next))
    ≡ index_in l.seat (dealt_in_order l.dealt l.fn.button l.seats))
