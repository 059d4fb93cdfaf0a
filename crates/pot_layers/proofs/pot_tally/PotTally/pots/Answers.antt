use Rattle.std.proofs.Common.{◌≡◌, ◌∙◌, sym, ap, refl, inl, arith}
use Rattle.std.proofs.lemmas.List.{length-append}
use Rattle.std.proofs.Math.Nat.{zero-mod}
use Rattle.std.proofs.lemmas.List.Sums.{count_by-le-length}
use Rattle.pot_layers.specs.Layers.{is_contested, layers, pots_to, with_dead}
use Rattle.pot_layers.specs.PotTests.{total_of}
use Rattle.pot_layers.specs.Tallies.{Tally}
use Rattle.pot_layers.specs.Reaches.{puts_of, is_above}
use Rattle.pot_layers.proofs.ListTests.{same-last}
use Rattle.pot_layers.proofs.Heights.{total_to-zero}
use Rattle.pot_layers.proofs.Cuts.{cuts-next, is-whole}
use Rattle.pot_layers.proofs.DeadChips.{contested-some, layers-live, layers-somebody, layers-whole, total_of-layers}
use Rattle.pot_layers.proofs.PotLaws.{total_of-height_pots}
use Rattle.pot_layers.proofs.pot_tally.PotTally.pots.Goals as goal

pub loop-next-init : goal.loop-next-init
unfolding pots_to
loop-next-init c = record {
  so_far = c.empty-pots.ensures;
  paid = sym (total_to-zero (puts_of c.self.inside.reaches));
  top = inl refl;
  units = λ unit whole. (rw c.empty-pots.ensures, zero-mod unit);
  room = rw c.empty-pots.ensures
      (omega (arith, count_by-le-length (is_above 0) c.self.inside.reaches, c.self.invariant.right.seats));
}

pub overflow_sub-next : goal.overflow_sub-next
overflow_sub-next c =
    (cuts-next c.self.inside.reaches c.loop-next.pots c.loop-next.below c.loop-next.paid c.in-Some.next
    c.self.invariant.right.each c.loop-next.invariant (sym c.in-Some.ensures)).more

pub push-requires : goal.push-requires
push-requires c =
    let next = cuts-next c.self.inside.reaches c.loop-next.pots c.loop-next.below c.loop-next.paid c.in-Some.next
    c.self.invariant.right.each c.loop-next.invariant (sym c.in-Some.ensures) in
    omega (arith, next.fewer, c.loop-next.invariant.room)

pub loop-next-smaller : goal.loop-next-smaller
loop-next-smaller c =
    (cuts-next c.self.inside.reaches c.loop-next.pots c.loop-next.below c.loop-next.paid c.in-Some.next
    c.self.invariant.right.each c.loop-next.invariant (sym c.in-Some.ensures)).fewer

pub loop-next-preserved : goal.loop-next-preserved
loop-next-preserved c =
    let next = cuts-next c.self.inside.reaches c.loop-next.pots c.loop-next.below c.loop-next.paid c.in-Some.next
    c.self.invariant.right.each c.loop-next.invariant (sym c.in-Some.ensures) in
    rw (c.push.ensures, c.live_payers.ensures) next.cut

pub overflow_sub-self-inside : goal.overflow_sub-self-inside
overflow_sub-self-inside c =
    (is-whole c.self.inside.reaches c.loop-next.pots c.loop-next.below c.loop-next.paid c.self.inside.total
    c.loop-next.invariant (sym c.in_default.ensures) (ap (λ (t : Tally). is_contested t.puts) c.self.view_is ∙ c.requires) c.self.invariant.whole).least

pub add_to_last-requires-clause-some : goal.add_to_last-requires-clause-some
add_to_last-requires-clause-some c =
    let whole = is-whole c.self.inside.reaches c.loop-next.pots c.loop-next.below c.loop-next.paid c.self.inside.total
    c.loop-next.invariant (sym c.in_default.ensures) (ap (λ (t : Tally). is_contested t.puts) c.self.view_is ∙ c.requires) c.self.invariant.whole in
    rw (whole.ends, length-append) (omega arith)

pub add_to_last-requires-clause-fits : goal.add_to_last-requires-clause-fits
add_to_last-requires-clause-fits c = λ below last is.
    let whole = is-whole c.self.inside.reaches c.loop-next.pots c.loop-next.below c.loop-next.paid c.self.inside.total
    c.loop-next.invariant (sym c.in_default.ensures) (ap (λ (t : Tally). is_contested t.puts) c.self.view_is ∙ c.requires) c.self.invariant.whole in
    let same : last ≡ whole.last = same-last below whole.below last whole.last (sym is ∙ whole.ends) in
    rw same (omega (arith, whole.within, whole.least, c.self.invariant.fits))

pub add_to_main-requires-clause-some : goal.add_to_main-requires-clause-some
add_to_main-requires-clause-some c =
    let whole = is-whole c.self.inside.reaches c.loop-next.pots c.loop-next.below c.loop-next.paid c.self.inside.total
    c.loop-next.invariant (sym c.in_default.ensures)
    (ap (λ (t : Tally). is_contested t.puts) c.self.view_is ∙ c.requires) c.self.invariant.whole in
    rw (c.add_to_last.ensures whole.below whole.last whole.ends, length-append) (omega arith)

pub add_to_main-requires-clause-fits : goal.add_to_main-requires-clause-fits
add_to_main-requires-clause-fits c =
    let whole = is-whole c.self.inside.reaches c.loop-next.pots c.loop-next.below c.loop-next.paid c.self.inside.total
    c.loop-next.invariant (sym c.in_default.ensures)
    (ap (λ (t : Tally). is_contested t.puts) c.self.view_is ∙ c.requires) c.self.invariant.whole in
    let cut = c.add_to_last.ensures whole.below whole.last whole.ends ∙ whole.all in
    let all = ap total_of cut ∙ total_of-height_pots (puts_of c.self.inside.reaches) in
    omega (arith, all, c.self.invariant.whole, c.self.invariant.fits)

pub returns : goal.returns
unfolding layers
returns c =
    let contested = ap (λ (t : Tally). is_contested t.puts) c.self.view_is ∙ c.requires in
    let whole = is-whole c.self.inside.reaches c.loop-next.pots c.loop-next.below c.loop-next.paid c.self.inside.total
    c.loop-next.invariant (sym c.in_default.ensures) contested c.self.invariant.whole in
    let cut : c.add_to_main.new.self ≡ layers c.args.self.now.puts c.args.self.now.dead = c.add_to_main.ensures
    ∙ ap (with_dead c.self.inside.dead) (c.add_to_last.ensures whole.below whole.last whole.ends ∙ whole.all)
    ∙ ap (λ (t : Tally). layers t.puts t.dead) c.self.view_is in
    record {
      pots = cut;
      sum = rw cut (total_of-layers c.args.self.now.puts c.args.self.now.dead
          (contested-some c.args.self.now.puts c.requires));
      live = rw cut (layers-live c.args.self.now.puts c.args.self.now.dead);
      somebody = rw cut (layers-somebody c.args.self.now.puts c.args.self.now.dead c.requires);
      units = λ unit is dead_is. rw cut (layers-whole c.args.self.now.puts c.args.self.now.dead unit is dead_is);
    }
