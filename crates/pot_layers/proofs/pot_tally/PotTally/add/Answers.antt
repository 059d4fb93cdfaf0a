use Rattle.std.proofs.Common.{◌≡◌, ◌∙◌, ◌+◌, ◌-◌, ◌<◌, List, length, ap, sym, arith}
use Rattle.std.proofs.lemmas.List.{length-map}
use Rattle.pot_layers.specs.declared.put.Put.{Put}
use Rattle.pot_layers.specs.Tallies.{total_put, total_told}
use Rattle.pot_layers.specs.Reaches.{puts_of}
use Rattle.pot_layers.proofs.Raised.{nothing_added, total_put-put_in_at}
use Rattle.pot_layers.proofs.pot_tally.PotTally.add.Goals as goal

pub invariant_of-self : goal.invariant_of-self
invariant_of-self c =
    let reached : c.args.seat - 1 < length (puts_of c.self.inside.reaches) =
    rw length-map (omega (arith, c.self.invariant.right.seats)) in
    record {
      right = c.put_in.ensures.right;
      whole =
          ap (λ n. n + c.args.amount) c.self.invariant.whole
          ∙ sym (total_put-put_in_at (puts_of c.self.inside.reaches) (c.args.seat - 1) c.args.amount reached)
          ∙ sym (ap total_put c.put_in.ensures.puts);
      fits = let seen : total_put (puts_of c.self.inside.reaches) + c.self.inside.dead ≡ total_told c.args.self.now =
          ap total_told c.self.view_is in omega (arith, seen, c.self.invariant.whole, c.requires.fits);
    }

pub returns-then-amount-eq0 : goal.returns-then-amount-eq0
returns-then-amount-eq0 c = rw c.if-amount-eq0.true
    (sym (ap (λ (puts : List Put). record c.args.self.now { puts = puts })
    (nothing_added c.args.self.now.puts (c.args.seat - 1))))
