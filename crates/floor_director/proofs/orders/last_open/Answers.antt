use Rattle.std.proofs.Common.{◌≡◌, ◌∙◌, ◌+◌, ◌<◌, sym, true, false, arith}
use Rattle.floor_director.specs.Orders.{last_open, is_last_open}
use Rattle.floor_director.proofs.FirstTables.{first-found, first-passed, first-start}
use Rattle.floor_director.proofs.orders.last_open.Goals as goal

pub loop-below-init : goal.loop-below-init
unfolding last_open
loop-below-init c = first-start (is_last_open c.args.book.now) c.args.book.now.table_count

pub returns-then-is_last_open-clause-last : goal.returns-then-is_last_open-clause-last
returns-then-is_last_open-clause-last c =
    let within : c.loop-below.below < c.args.book.now.table_count =
    omega (arith, c.loop-below-test.true, c.table_count-below-end.ensures.tables) in
    let passes : is_last_open c.args.book.now (c.loop-below.below + 1) ≡ true =
    sym c.is_last_open.ensures ∙ c.if-is_last_open.true in
    sym (first-found (is_last_open c.args.book.now) c.args.book.now.table_count c.loop-below.below within passes)
    ∙ c.loop-below.invariant

pub loop-below-preserved : goal.loop-below-preserved
loop-below-preserved c =
    let within : c.loop-below.below < c.args.book.now.table_count =
    omega (arith, c.loop-below-test.true, c.table_count-below-end.ensures.tables) in
    let fails : is_last_open c.args.book.now (c.loop-below.below + 1) ≡ false =
    sym c.is_last_open.ensures ∙ c.if-is_last_open.false in
    sym (first-passed (is_last_open c.args.book.now) c.args.book.now.table_count c.loop-below.below within fails)
    ∙ c.loop-below.invariant
