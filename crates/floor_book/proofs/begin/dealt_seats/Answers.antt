use Rattle.std.proofs.Common.{◌∙◌, sym, ap, List, [], ◌∷◌, ◌++◌}
use Rattle.seat_book.specs.Players.{players_in}
use Rattle.table_engine.specs.declared.start.StartSeat.{StartSeat}
use Rattle.floor_book.specs.Seats.{has_lawful_seat, dealt_of}
use Rattle.floor_book.proofs.InSlots.{passes_at, dealt_more}
use Rattle.floor_book.proofs.begin.dealt_seats.Goals as goal

pub push_dealt-requires : goal.push_dealt-requires
push_dealt-requires c = passes_at has_lawful_seat c.args.slots.now c.loop-slot.slot-index c.slot-item.result
    c.requires c.loop-slot-test.true c.slot-item.is

pub loop-slot-preserved : goal.loop-slot-preserved
loop-slot-preserved c =
    c.in_ok-push_dealt.ensures
    ∙ (ap (λ (seats : List StartSeat). seats ++ dealt_of c.args.waiting.now (players_in (c.slot-item.result ∷ [])))
    c.loop-slot.invariant
    ∙ sym (dealt_more c.args.waiting.now c.args.slots.now c.loop-slot.slot-index c.slot-item.result
    c.loop-slot-test.true c.slot-item.is))
