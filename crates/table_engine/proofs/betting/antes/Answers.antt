use Rattle.std.proofs.Common.{sym, arith}
use Rattle.table_engine.proofs.Starts.{few-dead, no-dead}
use Rattle.table_engine.proofs.betting.antes.Goals as goal

pub returns-then-start-eq0 : goal.returns-then-start-eq0
returns-then-start-eq0 c = sym (no-dead c.args.start.now c.if-start-eq0.true)

pub all_antes-requires : goal.all_antes-requires
all_antes-requires c =
    let dead = few-dead c.args.start.now in
    let chips = c.requires.chips in
    rw c.items.ensures (omega (arith, dead, chips))

pub returns : goal.returns
returns c = rw c.items.ensures at c.all_antes.ensures
