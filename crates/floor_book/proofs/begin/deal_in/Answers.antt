use Rattle.std.proofs.Common.{◌≡◌, arith}
use Rattle.floor_book.proofs.Dealt.{dealt_first, dealt_next, dealt_last}
use Rattle.floor_book.proofs.begin.deal_in.Goals as goal

pub loop-below-init : goal.loop-below-init
loop-below-init c = dealt_first c.args.seats.now c.args.table c.args.waiting.now c.seat_count-below-end.ensures.lawful

pub loop-below-preserved : goal.loop-below-preserved
loop-below-preserved c = dealt_next c.args.seats.now c.loop-below.seats c.deal_in_seat.new.seats c.args.table
    c.args.waiting.now c.loop-below.below c.loop-below.invariant c.deal_in_seat.ensures

pub returns : goal.returns
returns c =
    let all : c.loop-below.below ≡ c.args.seats.now.seat_count = omega (arith, c.seat_count-below-end.ensures.seats) in
    dealt_last c.args.seats.now c.loop-below.seats c.args.table c.args.waiting.now c.loop-below.below
    c.loop-below.invariant all
