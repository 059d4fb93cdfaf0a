use Rattle.std.proofs.Common.{◌≡◌, ◌∙◌, ◌+◌, ◌<◌, sym, true, false, arith}
use Rattle.floor_director.specs.Orders.{taker, may_take}
use Rattle.floor_director.proofs.FirstTables.{first-found, first-passed, first-start}
use Rattle.floor_director.proofs.orders.taker.Goals as goal

pub loop-below-init : goal.loop-below-init
unfolding taker
loop-below-init c = first-start (may_take c.args.book.now) c.args.book.now.table_count

pub returns-then-may_take-clause-taker : goal.returns-then-may_take-clause-taker
returns-then-may_take-clause-taker c =
    let within : c.loop-below.below < c.args.book.now.table_count =
    omega (arith, c.loop-below-test.true, c.table_count-below-end.ensures.tables) in
    let passes : may_take c.args.book.now (c.loop-below.below + 1) ≡ true =
    sym c.may_take.ensures ∙ c.if-may_take.true in
    sym (first-found (may_take c.args.book.now) c.args.book.now.table_count c.loop-below.below within passes)
    ∙ c.loop-below.invariant

pub loop-below-preserved : goal.loop-below-preserved
loop-below-preserved c =
    let within : c.loop-below.below < c.args.book.now.table_count =
    omega (arith, c.loop-below-test.true, c.table_count-below-end.ensures.tables) in
    let fails : may_take c.args.book.now (c.loop-below.below + 1) ≡ false =
    sym c.may_take.ensures ∙ c.if-may_take.false in
    sym (first-passed (may_take c.args.book.now) c.args.book.now.table_count c.loop-below.below within fails)
    ∙ c.loop-below.invariant
