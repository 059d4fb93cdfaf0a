use Rattle.std.proofs.Common.{◌∙◌, sym, ap, not, ℕ, Option, arith}
use Rattle.std.specs.Prelude.{unwrap_or}
use Rattle.button_blinds.specs.SeatSets.{has_seat}
use Rattle.seat_book.specs.Players.{taken_seats}
use Rattle.balance_rule.specs.EmptySeats.{is_empty_seat}
use Rattle.balance_rule.proofs.FreeSeats.{first-alike, empty-untaken}
use Rattle.simulation_rules.specs.Entrants.{seat_to_take}
use Rattle.floor_simulation.proofs.entrants.seat_to_take.Goals as goal

pub returns : goal.returns
unfolding seat_to_take
returns c =
    let seating = c.args.seats.now in
    let lawful = c.seat_count-last.ensures.lawful in
    let alike = first-alike seating.seat_count (λ at. not (has_seat (taken_seats seating.players c.args.table) at))
    (is_empty_seat seating.players c.args.table) seating.seat_count (omega (arith, lawful.some_seats))
    (λ at first last. empty-untaken seating.players c.args.table seating.seat_count at lawful.most_seats first last) in
    let found = rw (c.seat_count-last.ensures.seats, c.occupied.ensures.taken) at c.empty_seat_after.ensures.next in
    record { seat = sym (ap (λ (seat : Option ℕ). unwrap_or seat 1) (sym alike ∙ found)) }
