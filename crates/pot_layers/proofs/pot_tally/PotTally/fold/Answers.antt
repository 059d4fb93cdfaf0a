use Rattle.std.proofs.Common.{◌∙◌, ◌-◌, ap, sym}
use Rattle.pot_layers.specs.Tallies.{total_put}
use Rattle.pot_layers.specs.Reaches.{puts_of}
use Rattle.pot_layers.proofs.Raised.{total_put-folded_at}
use Rattle.pot_layers.proofs.pot_tally.PotTally.fold.Goals as goal

pub invariant_of-self : goal.invariant_of-self
invariant_of-self c = record {
  right = c.fold.ensures.right;
  whole = c.self.invariant.whole
      ∙ sym (ap total_put c.fold.ensures.puts
      ∙ total_put-folded_at (puts_of c.self.inside.reaches) (c.args.seat - 1));
  fits = c.self.invariant.fits;
}
