use Rattle.std.proofs.Common.{◌≡◌, ◌∙◌, sym, refl, arith}
use Rattle.seat_book.proofs.Keeping.{slot-bound, slot-read}
use Rattle.seat_book.proofs.Calls.{number-read}
use Rattle.seat_book.proofs.seat_book.SeatBook.seated.Goals as goal

pub slot_of-requires-clause-table : goal.slot_of-requires-clause-table
slot_of-requires-clause-table c =
    let here = number-read c.self.invariant c.args.player c.unwrap-place.result c.index.result.now c.requires.entry
    c.index.ensures c.unwrap-place.ensures in
    here.1.2.table.first

pub slot_of-requires-clause-seat : goal.slot_of-requires-clause-seat
slot_of-requires-clause-seat c =
    let here = number-read c.self.invariant c.args.player c.unwrap-place.result c.index.result.now c.requires.entry
    c.index.ensures c.unwrap-place.ensures in
    here.1.2.first

pub index-requires-2 : goal.index-requires-2
index-requires-2 c =
    let here = number-read c.self.invariant c.args.player c.unwrap-place.result c.index.result.now c.requires.entry
    c.index.ensures c.unwrap-place.ensures in
    let bound = slot-bound c.self.invariant here.1.2 in
    omega (arith, bound, c.slot_of.ensures)

pub unwrap-requires : goal.unwrap-requires
unwrap-requires c =
    let here = number-read c.self.invariant c.args.player c.unwrap-place.result c.index.result.now c.requires.entry
    c.index.ensures c.unwrap-place.ensures in
    let slot = slot-read c.slot_of.result c.index-2.result.now c.self.invariant here.1.2 c.slot_of.ensures
    c.index-2.ensures in
    rw (sym slot.1 ∙ here.1.3) refl

pub returns-clause-player : goal.returns-clause-player
returns-clause-player c =
    let here = number-read c.self.invariant c.args.player c.unwrap-place.result c.index.result.now c.requires.entry
    c.index.ensures c.unwrap-place.ensures in
    let slot = slot-read c.slot_of.result c.index-2.result.now c.self.invariant here.1.2 c.slot_of.ensures
    c.index-2.ensures in
    rw (← c.self.view_is) (here.1.0 ∙ (sym here.1.3 ∙ (slot.1 ∙ c.unwrap.ensures)))

pub returns-clause-place : goal.returns-clause-place
returns-clause-place c =
    let here = number-read c.self.invariant c.args.player c.unwrap-place.result c.index.result.now c.requires.entry
    c.index.ensures c.unwrap-place.ensures in
    let slot = slot-read c.slot_of.result c.index-2.result.now c.self.invariant here.1.2 c.slot_of.ensures
    c.index-2.ensures in
    let same : here.0 ≡ c.unwrap.result = let both = sym here.1.3 ∙ (slot.1 ∙ c.unwrap.ensures) in cc in
    rw (← c.self.view_is, ← same, here.1.1) here.1.2
