use Rattle.std.proofs.Common.{◌≡◌, ◌∙◌, sum, length, drop, ap, arith}
use Rattle.std.proofs.lemmas.List.{take_at}
use Rattle.table_engine.specs.contracts.hand.Hand.{the_view}
use Rattle.table_engine.specs.Awards.{awards_in_hand}
use Rattle.table_engine.proofs.BySeat.{lawful-seats}
use Rattle.table_engine.proofs.ChipsAfter.{chips-after, street-stacks}
use Rattle.table_engine.proofs.hand.Hand.finish.Goals as goal

pub pay-requires : goal.pay-requires
pay-requires c =
    let chips = c.self.invariant.ready.chips in
    let most = c.awards-awards.ensures.most in
    record {
      room = rw (c.deref_mut.ensures.value, c.items.ensures) c.self.invariant.room;
      seats = rw c.items.ensures (lawful-seats c.self.inside.start c.self.invariant.lawful);
      small = omega arith;
    }

pub returns-clause-complete : goal.returns-clause-complete
returns-clause-complete c =
    let hand = the_view c.self.inside in
    let back = take_at c.pay.new.stacks (drop (length c.pay.new.stacks) c.self.inside.stacks.items)
    c.self.inside.stacks.len (omega arith) in
    let awards : c.awards-awards.result ≡ awards_in_hand hand =
    rw (← c.self.view_is) at c.awards-awards.ensures.awards in
    record {
      play = c.self.invariant.played;
      over = rw (← c.self.view_is) at c.requires;
      stacks = rw (c.from_vec.ensures, back, c.pay.ensures, c.items.ensures, c.self.invariant.at.round)
          (street-stacks hand c.awards-awards.result c.self.invariant.lawful c.self.invariant.played awards);
    }

pub returns-clause-kept : goal.returns-clause-kept
returns-clause-kept c =
    rw (← c.self.view_is)
    (ap sum (returns-clause-complete c).stacks
    ∙ chips-after (the_view c.self.inside) c.self.invariant.lawful c.self.invariant.played
    (rw (← c.self.view_is) at c.requires))
