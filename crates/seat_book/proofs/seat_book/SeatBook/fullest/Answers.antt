use Rattle.std.proofs.Common.{◌∙◌, ap, max}
use Rattle.std.specs.Prelude.{fold}
use Rattle.std.proofs.lemmas.List.{take_all}
use Rattle.seat_book.proofs.TableCounts.{greatest-kept}
use Rattle.seat_book.proofs.seat_book.SeatBook.fullest.Goals as goal

pub returns : goal.returns
returns c =
    let all = take_all c.loop-count.count-index c.deref-count-items.result.now c.loop-count-test.false in
    rw (← c.self.view_is) (c.loop-count.invariant ∙ (ap (fold max 0) (all ∙ c.deref-count-items.ensures.value) ∙
    greatest-kept c.self.invariant))
