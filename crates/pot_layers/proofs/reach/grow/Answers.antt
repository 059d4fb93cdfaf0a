use Rattle.std.proofs.Common.{◌≡◌, ◌∙◌, get_or, length, ap, arith}
use Rattle.std.proofs.lemmas.List.{get_or_default}
use Rattle.std.proofs.lemmas.List.Edits.{map_over_more}
use Rattle.rulebook.proofs.Rewrites.{rewritten-here}
use Rattle.pot_layers.specs.Reaches.{grown}
use Rattle.pot_layers.proofs.Raised.{no_reach, total-within, length-at_turn}
use Rattle.pot_layers.proofs.reach.grow.Goals as goal

pub grown-requires-clause-fits : goal.grown-requires-clause-fits
grown-requires-clause-fits c =
    let same : get_or c.loop-index.reaches c.loop-index.index no_reach
    ≡ get_or c.args.reaches.now c.loop-index.index no_reach =
    ap (λ s. get_or s c.loop-index.index no_reach) c.loop-index.invariant
    ∙ rewritten-here (grown c.args.before c.args.after) c.args.reaches.now c.args.reaches.now c.loop-index.index
    no_reach (omega arith) (omega arith) in
    let within = total-within c.args.reaches.now c.loop-index.index c.requires.right in
    rw same (omega (arith, within, c.requires.fits))

pub loop-index-preserved : goal.loop-index-preserved
loop-index-preserved c =
    let same : length c.loop-index.reaches ≡ length c.args.reaches.now = ap length c.loop-index.invariant
    ∙ length-at_turn (grown c.args.before c.args.after) c.args.reaches.now c.loop-index.index in
    rw c.grown.ensures
    (map_over_more (grown c.args.before c.args.after) c.args.reaches.now c.loop-index.reaches c.loop-index.index
    (get_or c.loop-index.reaches c.loop-index.index no_reach) (omega arith) c.loop-index.invariant
    (get_or_default c.loop-index.reaches c.loop-index.index no_reach
    (get_or c.loop-index.reaches c.loop-index.index no_reach) (omega (arith, same))))
