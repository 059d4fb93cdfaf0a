use Rattle.std.proofs.Common.{◌≡◌, ◌∙◌, ◌-◌, drop, length, ap, arith}
use Rattle.std.proofs.lemmas.Grind.{common_steps}
use Rattle.table_engine.proofs.Filling.{filled, filled-more}
use Rattle.table_engine.proofs.players.fill_slots.Goals as goal

pub loop-done-preserved : goal.loop-done-preserved
loop-done-preserved g c =
    rw (c.from.ensures, c.make.ensures, c.loop-done.invariant)
    (filled-more (g.T.InSlot.made c.args.start.now) c.args.nobody c.args.players.now c.loop-done.done
    c.index-players-count.result c.requires.seats c.loop-done-test.true c.index-players-count.is)

pub returns : goal.returns
returns g c =
    let none : length c.args.players.now - c.loop-done.done ≡ 0 = omega arith in
    c.loop-done.invariant
    ∙ ap (λ n. filled (g.T.InSlot.made c.args.start.now) c.args.nobody (drop n c.args.players.now)) none

pub loop-done-init : goal.loop-done-init
loop-done-init g c = grind (arith, common_steps)
