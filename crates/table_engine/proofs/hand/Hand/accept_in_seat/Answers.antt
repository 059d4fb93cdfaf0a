use Rattle.std.proofs.Common.{◌≡◌, ◌∙◌, Some, ap, arith}
use Rattle.std.proofs.lemmas.Grind.{common_steps}
use Rattle.betting_round.specs.ActChecks.{facing_in}
use Rattle.betting_round.specs.Acts.{done_by}
use Rattle.table_engine.specs.contracts.hand.Hand.{the_view}
use Rattle.table_engine.specs.Acts.{refusal_of_act}
use Rattle.table_engine.specs.Hands.{streets_of}
use Rattle.table_engine.proofs.Refusals.{done-in_seat, refused-in_seat}
use Rattle.table_engine.proofs.hand.Hand.accept_in_seat.Goals as goal

pub returns-in_err-done-clause-err : goal.returns-in_err-done-clause-err
returns-in_err-done-clause-err c =
    let hand = the_view c.self.inside in
    let at = c.self.invariant.at in
    let in_seat = refused-in_seat hand c.args.entry.name c.args.entry.act c.args.seat
    (rw (← c.self.view_is) at c.requires.seat) in
    let refused : refusal_of_act c.args.self.now c.args.entry.name c.args.entry.act ≡ Some c.in_err-done.field-0.0 =
    rw (← c.self.view_is) (in_seat ∙ rw (← at.round) (c.in_err-done.ensures.err (streets_of hand) at)) in
    grind (arith, common_steps)

pub returns-clause-accepted : goal.returns-clause-accepted
returns-clause-accepted c =
    let hand = the_view c.self.inside in
    let at = c.self.invariant.at in
    let seat = rw (← c.self.view_is) at c.requires.seat in
    let in_seat = refused-in_seat hand c.args.entry.name c.args.entry.act c.args.seat seat in
    let done = c.in_ok-done.ensures.done ∙ ap (λ s. done_by (facing_in s c.args.seat) c.args.entry.act) at.round in
    record {
      seat = c.requires.seat;
      free = rw (← c.self.view_is) (in_seat ∙ rw (← at.round) (c.in_ok-done.ensures.ok (streets_of hand) at));
      done = rw (← c.self.view_is)
          (rw (done-in_seat hand c.args.entry.name c.args.entry.act c.args.seat seat) done);
      timed = c.requires.timed;
    }
