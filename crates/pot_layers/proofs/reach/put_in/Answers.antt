use Rattle.std.proofs.Common.{◌≡◌, ◌≤◌, ◌+◌, ◌<◌, ℕ, List, length, get_or, ap, arith}
use Rattle.std.proofs.lemmas.List.{length-map}
use Rattle.pot_layers.specs.declared.reach.Reach.{Reach}
use Rattle.pot_layers.specs.Reaches.{puts_of}
use Rattle.pot_layers.specs.Tallies.{total_put}
use Rattle.pot_layers.proofs.Heights.{total_to-le}
use Rattle.pot_layers.proofs.Raised.{no_reach, amount-within, get_or-puts_of, puts_of-put_in, AreRight-put_in}
use Rattle.pot_layers.proofs.reach.put_in.Goals as goal

own-within : (reaches : List Reach) (index : ℕ) → index < 10 → length reaches ≡ 10
    → (get_or reaches index no_reach).put.amount ≤ total_put (puts_of reaches)
own-within reaches index within seats =
    let reached : index < length (puts_of reaches) = rw length-map (omega arith) in
    rw (← get_or-puts_of reaches index) (amount-within (puts_of reaches) index reached)

pub overflow_add-after : goal.overflow_add-after
overflow_add-after c =
    omega (
      arith,
      own-within c.args.reaches.now c.args.index c.requires.within c.requires.right.seats,
      c.requires.fits,
    )

pub overflow_add-total : goal.overflow_add-total
overflow_add-total c =
    let own = own-within c.args.reaches.now c.args.index c.requires.within c.requires.right.seats in
    let within = total_to-le (puts_of c.args.reaches.now)
    ((get_or c.args.reaches.now c.args.index no_reach).put.amount + c.args.amount) in
    omega (arith, own, within, c.total_to.ensures, c.requires.fits)

pub grow-requires-clause-fits : goal.grow-requires-clause-fits
grow-requires-clause-fits c =
    omega (
      arith,
      own-within c.args.reaches.now c.args.index c.requires.within c.requires.right.seats,
      c.requires.fits,
    )

pub returns-clause-puts : goal.returns-clause-puts
returns-clause-puts c = rw c.grow.ensures (puts_of-put_in c.args.reaches.now _ _ c.args.index c.args.amount _)

pub returns-clause-right : goal.returns-clause-right
returns-clause-right c =
    rw c.grow.ensures (AreRight-put_in c.args.reaches.now c.args.index c.args.amount _ c.requires.right
    c.requires.within (ap (λ n. n + c.args.amount) c.total_to.ensures))
