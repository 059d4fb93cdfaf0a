use Rattle.std.proofs.Common.{◌∙◌, ◌*◌, ◌/◌, ap, sym, arith}
use Rattle.std.proofs.lemmas.Bool.Decides.{nat_tests}
use Rattle.pot_layers.proofs.Rounds.{units_to-quotient}
use Rattle.pot_layers.proofs.shares.share.Goals.{then-index-units, else-index-units}
use Rattle.pot_layers.proofs.shares.share.Goals as goal

pub returns : goal.returns
returns c =
    let units = units_to-quotient c.args.winners c.args.index (c.args.amount / c.args.unit) c.requires.within in
    ap (λ n. c.args.unit * n)
    ((elim c.if-index-units.branch [
      | then-index-units w ↦ grind (arith, nat_tests)
      | else-index-units w ↦ grind (arith, nat_tests)
    ]) ∙ sym units)
