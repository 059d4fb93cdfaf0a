use Rattle.std.proofs.Common.{◌≡◌, ◌∙◌, ◌+◌, ◌<◌, sym, true, false, arith}
use Rattle.floor_director.specs.Orders.{giver, may_give}
use Rattle.floor_director.proofs.FirstTables.{first-found, first-passed, first-start}
use Rattle.floor_director.proofs.orders.giver.Goals as goal

pub loop-below-init : goal.loop-below-init
unfolding giver
loop-below-init c = first-start (may_give c.args.book.now) c.args.book.now.table_count

pub returns-then-may_give-clause-giver : goal.returns-then-may_give-clause-giver
returns-then-may_give-clause-giver c =
    let within : c.loop-below.below < c.args.book.now.table_count =
    omega (arith, c.loop-below-test.true, c.table_count-below-end.ensures.tables) in
    let passes : may_give c.args.book.now (c.loop-below.below + 1) ≡ true =
    sym c.may_give.ensures ∙ c.if-may_give.true in
    sym (first-found (may_give c.args.book.now) c.args.book.now.table_count c.loop-below.below within passes)
    ∙ c.loop-below.invariant

pub loop-below-preserved : goal.loop-below-preserved
loop-below-preserved c =
    let within : c.loop-below.below < c.args.book.now.table_count =
    omega (arith, c.loop-below-test.true, c.table_count-below-end.ensures.tables) in
    let fails : may_give c.args.book.now (c.loop-below.below + 1) ≡ false =
    sym c.may_give.ensures ∙ c.if-may_give.false in
    sym (first-passed (may_give c.args.book.now) c.args.book.now.table_count c.loop-below.below within fails)
    ∙ c.loop-below.invariant
