use Rattle.std.proofs.Common.{◌∙◌, ◌-◌, sym, arith}
use Rattle.pot_layers.proofs.PayersSoFar.{so_far-yes, so_far-no}
use Rattle.showdown.specs.Winners.{wins, winners}
use Rattle.showdown.proofs.Writes.{seats-all}
use Rattle.showdown.proofs.winning.winners.Goals.{then-wins, else-wins}
use Rattle.showdown.proofs.winning.winners.Goals as goal

pub loop-index-preserved : goal.loop-index-preserved
loop-index-preserved c =
    elim c.if-wins.branch [
      | then-wins w ↦
          w.winners-is ∙ w.with-winners.ensures.same
          ∙ so_far-yes (wins c.args.side c.args.hands.now) c.args.hands.now c.loop-index.index c.loop-index.winners
          c.index-hands-index.result (omega arith) c.requires c.loop-index.invariant (sym c.wins.ensures
          ∙ w.if-wins.true)
      | else-wins w ↦
          w.winners-is
          ∙ so_far-no (wins c.args.side c.args.hands.now) c.args.hands.now c.loop-index.index c.loop-index.winners
          c.index-hands-index.result (omega arith) c.requires c.loop-index.invariant (sym c.wins.ensures
          ∙ w.if-wins.false)
    ]

pub returns : goal.returns
unfolding winners
returns c = c.loop-index.invariant
    ∙ seats-all (wins c.args.side c.args.hands.now) c.args.hands.now c.loop-index.index (10 - c.loop-index.index)
    (omega arith) (omega arith)
