use Rattle.std.proofs.Common.{◌≡◌, ◌+◌, ℕ, min, arith}
use Rattle.std.proofs.lemmas.Grind.{common_steps}
use Rattle.std.specs.Prelude.{sum_by}
use Rattle.std.proofs.lemmas.List.Sums.{sum_by_more_le}
use Rattle.std.proofs.lemmas.List.Folds.{fold-map}
use Rattle.pot_layers.specs.declared.put.Put.{Put}
use Rattle.pot_layers.specs.declared.reach.Reach.{Reach}
use Rattle.pot_layers.specs.Tallies.{total_to}
use Rattle.pot_layers.specs.Reaches.{puts_of}
use Rattle.pot_layers.proofs.Heights.{total_to-le}
use Rattle.pot_layers.proofs.Raised.{no_reach}
use Rattle.pot_layers.proofs.reach.total_to.Goals as goal

pub overflow_add-total : goal.overflow_add-total
overflow_add-total c =
    let more = sum_by_more_le (λ (s : Reach). min s.put.amount c.args.height) c.args.reaches.now
    c.loop-reach.reach-index no_reach (omega arith) in
    let whole : total_to (puts_of c.args.reaches.now) c.args.height
    ≡ sum_by (λ (s : Reach). min s.put.amount c.args.height) c.args.reaches.now =
    fold-map (λ (sum : ℕ) (put : Put). sum + min put.amount c.args.height)
    (λ (s : Reach). s.put) 0 c.args.reaches.now in
    omega (
      arith,
      more,
      whole,
      total_to-le (puts_of c.args.reaches.now) c.args.height,
      c.loop-reach.invariant,
      c.min-total.ensures,
    )

pub loop-reach-preserved : goal.loop-reach-preserved
loop-reach-preserved c = grind (arith, common_steps)

pub returns : goal.returns
returns c = grind (arith, common_steps)
