use Rattle.std.proofs.Common.{arith, ◌∙◌, ap}
use Rattle.std.proofs.lemmas.Grind.{common_steps}
use Rattle.std.specs.Prelude.{fold}
use Rattle.std.proofs.lemmas.List.{take_all}
use Rattle.seat_book.proofs.TableCounts.{lesser, least-kept}
use Rattle.seat_book.proofs.seat_book.SeatBook.fewest.Goals as goal

pub returns : goal.returns
returns c =
    let all = take_all c.loop-count.count-index c.deref-count-items.result.now c.loop-count-test.false in
    rw (← c.self.view_is) (c.loop-count.invariant ∙ (ap (fold lesser 0) (all ∙ c.deref-count-items.ensures.value) ∙
    least-kept c.self.invariant))

pub loop-count-preserved : goal.loop-count-preserved
loop-count-preserved c = grind (arith, common_steps)
