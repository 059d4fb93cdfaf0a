use Rattle.std.proofs.Common.{◌<◌, Option, ap, length, sym, subst, arith}
use Rattle.table_engine.specs.Hands.{HandTerms}
use Rattle.view_rules.specs.Entries.{MayCome}
use Rattle.table_dock.proofs.Between.{next-may_come, told-more}
use Rattle.table_dock.proofs.hold.TableHold.tell.Goals as goal

pub tell-requires : goal.tell-requires
tell-requires c =
    let history = c.self.inside.entries.items in
    let within : c.loop-index.index < length history = omega (arith, ap length c.self.view_is) in
    subst (λ (hand : Option HandTerms). MayCome hand c.index.result.now) (sym c.loop-index.invariant.hand)
    (next-may_come history c.loop-index.index c.index.result.now within (sym c.index.ensures)
    c.self.invariant.sound.legal)

pub loop-index-preserved : goal.loop-index-preserved
loop-index-preserved c =
    let history = c.self.inside.entries.items in
    let within : c.loop-index.index < length history = omega (arith, ap length c.self.view_is) in
    told-more history c.args.from c.loop-index.index c.index.result.now c.args.teller.now c.loop-index.teller
    c.tell.new.self c.args.out.now.items c.loop-index.out.items c.tell.new.out.items within (sym c.index.ensures)
    c.loop-index.invariant c.in-Ok.ensures.ok c.in-Ok.ensures.told
