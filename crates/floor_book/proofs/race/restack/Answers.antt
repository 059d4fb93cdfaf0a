use Rattle.std.proofs.Common.{◌≡◌, ap, ℕ, get_or, arith}
use Rattle.floor_book.proofs.Raced.{restacked_first, restacked_next, restacked_last}
use Rattle.floor_book.proofs.race.restack.Goals as goal

pub loop-below-init : goal.loop-below-init
loop-below-init c =
    restacked_first c.args.seats.now c.args.table c.args.stacks.now c.seat_count-below-end.ensures.lawful

pub loop-below-preserved : goal.loop-below-preserved
loop-below-preserved c =
    restacked_next c.args.seats.now c.loop-below.seats c.restack_seat.new.seats c.args.table c.args.stacks.now
    c.loop-below.below _ c.loop-below.invariant
    (ap (λ (index : ℕ). get_or c.args.stacks.now index 0) c.from.ensures) c.restack_seat.ensures

pub returns : goal.returns
returns c =
    let all : c.loop-below.below ≡ c.args.seats.now.seat_count = omega (arith, c.seat_count-below-end.ensures.seats) in
    restacked_last c.args.seats.now c.loop-below.seats c.args.table c.args.stacks.now c.loop-below.below
    c.loop-below.invariant all
