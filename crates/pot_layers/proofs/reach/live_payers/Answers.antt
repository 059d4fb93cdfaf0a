use Rattle.std.proofs.Common.{◌∙◌, sym, arith}
use Rattle.pot_layers.specs.declared.reach.Reach.{Reach}
use Rattle.pot_layers.specs.Layers.{is_eligible}
use Rattle.pot_layers.proofs.PayersSoFar.{so_far-yes, so_far-no}
use Rattle.pot_layers.proofs.Raised.{no_reach}
use Rattle.pot_layers.proofs.reach.live_payers.Goals.{then-is_eligible, else-is_eligible}
use Rattle.pot_layers.proofs.reach.live_payers.Goals as goal

pub loop-index-preserved : goal.loop-index-preserved
loop-index-preserved c = elim c.if-is_eligible.branch [
  | then-is_eligible w ↦
      w.payers-is ∙ w.with-payers.ensures.same
      ∙ so_far-yes (λ (s : Reach). is_eligible c.args.height s.put) c.args.reaches.now c.loop-index.index
      c.loop-index.payers no_reach (omega arith) c.told-reaches c.loop-index.invariant
      (sym c.is_eligible.ensures ∙ w.if-is_eligible.true)
  | else-is_eligible w ↦
      w.payers-is
      ∙ so_far-no (λ (s : Reach). is_eligible c.args.height s.put) c.args.reaches.now c.loop-index.index
      c.loop-index.payers no_reach (omega arith) c.told-reaches c.loop-index.invariant
      (sym c.is_eligible.ensures ∙ w.if-is_eligible.false)
]
