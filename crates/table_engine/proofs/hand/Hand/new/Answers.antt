use Rattle.std.proofs.Common.{◌∙◌, ap, sym, arith, rules}
use Rattle.pot_layers.specs.Tallies.{Tally}
use Rattle.pot_layers.proofs.Told.{tally-of}
use Rattle.table_engine.proofs.Plays.{lawful_play-none}
use Rattle.table_engine.proofs.Puts.{begun-few, puts-begun}
use Rattle.table_engine.proofs.Running.{streets-none}
use Rattle.table_engine.proofs.hand.Hand.new.Goals as goal

pub of-tally-requires : goal.of-tally-requires
of-tally-requires c =
    let few = begun-few c.args.start c.requires in
    let chips = c.requires.chips in
    rw c.first_puts.ensures (omega arith)

pub add_dead-requires : goal.add_dead-requires
add_dead-requires c =
    let few = begun-few c.args.start c.requires in
    let chips = c.requires.chips in
    let dead = c.first-betting.ensures.before in
    rw (c.of-tally.ensures, c.first_puts.ensures) (omega arith)

pub invariant_of-result : goal.invariant_of-result
invariant_of-result c = record {
  at = rw (c.from_vec.ensures, c.in-Ok-with_capacity.ensures.items, streets-none c.args.start)
      (rw c.first-betting.ensures.at.left at (c.deal_on.ensures.at _ c.first-betting.ensures.at));
  ready = c.deal_on.ensures.ready;
  there = c.deal_on.ensures.there ∙ c.first-betting.ensures.there;
  told = rw (c.from_vec.ensures, c.in-Ok-with_capacity.ensures.items)
      (tally-of c.add_dead.new.self _ _
      (ap (λ (t : Tally). t.puts) c.add_dead.ensures ∙ ap (λ (t : Tally). t.puts) c.of-tally.ensures
      ∙ c.first_puts.ensures ∙ sym (puts-begun c.args.start c.requires))
      (let added = ap (λ (t : Tally). t.dead) c.add_dead.ensures in
      let none = ap (λ (t : Tally). t.dead) c.of-tally.ensures in
      let dead = c.first-betting.ensures.before in
      omega arith));
  room = search rules;
  lawful = c.requires;
  played = rw (c.from_vec.ensures, c.in-Ok-with_capacity.ensures.items) (lawful_play-none c.args.start);
}
