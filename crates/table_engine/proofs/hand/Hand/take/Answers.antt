use Rattle.std.proofs.Common.{◌≡◌, ◌∙◌, ℕ, ◌+◌, ◌-◌, List, None, ap, sym, arith}
use Rattle.betting_round.specs.declared.street.Street.{Street}
use Rattle.betting_round.specs.Acts.{is_fold}
use Rattle.betting_round.specs.ActChecks.{facing_in}
use Rattle.betting_round.specs.StreetActs.{SeatAct}
use Rattle.pot_layers.specs.declared.put.Put.{Put}
use Rattle.pot_layers.specs.Tallies.{Tally, total_told}
use Rattle.table_engine.specs.declared.record.Accepted.{Accepted}
use Rattle.table_engine.specs.contracts.hand.Hand.{the_view}
use Rattle.table_engine.specs.Accepted.{IsAccepted}
use Rattle.table_engine.specs.Acts.{limits_on, refusal_in_seat}
use Rattle.table_engine.specs.Hands.{HandTerms, dead_chips, street_now, street_of, streets_of, with_act}
use Rattle.table_engine.specs.Results.{puts_in_hand}
use Rattle.table_engine.specs.Tellings.{told}
use Rattle.table_engine.proofs.Plays.{lawful_play-more}
use Rattle.table_engine.proofs.Puts.{act-tells, puts-more}
use Rattle.table_engine.proofs.Refusals.{refused-in_seat}
use Rattle.table_engine.proofs.Running.{streets-more}
use Rattle.table_engine.proofs.hand.Hand.take.Goals as goal

-- The street does not refuse an act that is accepted.
accepted-in_seat : (hand : HandTerms) (accepted : Accepted) → IsAccepted hand accepted
    → refusal_in_seat hand accepted.entry.act accepted.seat ≡ None
accepted-in_seat hand accepted is =
    sym (refused-in_seat hand accepted.entry.name accepted.entry.act accepted.seat is.seat) ∙ is.free

-- What an act puts in, by the streets before it and after it.
put-is : (now after old new : Street) (seat put_in got : ℕ) → old ≡ now → new ≡ after
    → got ≡ (facing_in new seat).put - (facing_in old seat).put
    → (facing_in after seat).put ≡ (facing_in now seat).put + put_in → got ≡ put_in
put-is now after old new seat put_in got at_first at_last is grows =
    let first = ap (λ (s : Street). (facing_in s seat).put) at_first in
    let last = ap (λ (s : Street). (facing_in s seat).put) at_last in
    omega arith

pub take-put_in-requires-clause-allowed : goal.take-put_in-requires-clause-allowed
take-put_in-requires-clause-allowed c =
    let hand = the_view c.self.inside in
    let accepted : IsAccepted hand c.args.accepted = rw (← c.self.view_is) at c.requires in
    record {
      limits = limits_on hand.start (streets_of hand);
      free = rw c.self.invariant.at.round (accepted-in_seat hand c.args.accepted accepted);
    }

pub tell-requires : goal.tell-requires
tell-requires c =
    let hand = the_view c.self.inside in
    let seat = c.args.accepted.seat in
    let at = c.self.invariant.at in
    let acted = c.take-put_in.ensures.at hand.start (streets_of hand) at in
    let accepted : IsAccepted hand c.args.accepted = rw (← c.self.view_is) at c.requires in
    let tells = act-tells hand seat c.args.accepted.entry.act c.self.invariant.lawful c.self.invariant.played
    (accepted-in_seat hand c.args.accepted accepted) in
    let entry : SeatAct = record { seat = seat; act = c.args.accepted.entry.act } in
    let put_in = put-is (street_of hand) (street_now (with_act (streets_of hand) entry)) _ _ seat tells.0
    c.take-put_in.result at.round acted.round c.take-put_in.ensures.put tells.1.put in
    let low = tells.1.low in
    let high = tells.1.high in
    let room = tells.1.room in
    let chips = c.self.invariant.lawful.chips in
    let total = ap total_told c.self.invariant.told in
    record { first = low; last = high; fits = omega arith }

pub invariant_of-self-2 : goal.invariant_of-self-2
invariant_of-self-2 c =
    let hand = the_view c.self.inside in
    let seat = c.args.accepted.seat in
    let act = c.args.accepted.entry in
    let at = c.self.invariant.at in
    let acted = c.take-put_in.ensures.at hand.start (streets_of hand) at in
    let accepted : IsAccepted hand c.args.accepted = rw (← c.self.view_is) at c.requires in
    let free = accepted-in_seat hand c.args.accepted accepted in
    let tells = act-tells hand seat act.act c.self.invariant.lawful c.self.invariant.played free in
    let entry : SeatAct = record { seat = seat; act = act.act } in
    let put_in = put-is (street_of hand) (street_now (with_act (streets_of hand) entry)) _ _ seat tells.0
    c.take-put_in.result at.round acted.round c.take-put_in.ensures.put tells.1.put in
    let dealt = c.deal_on.ensures.at (with_act (streets_of hand) entry) acted in
    let more = streets-more hand.start hand.acts act seat accepted.seat in
    record {
      at = rw (c.in_ok-push.ensures.ok, more) (rw acted.left at dealt);
      ready = c.deal_on.ensures.ready;
      there =
          c.deal_on.ensures.there ∙ c.take-put_in.ensures.there hand.start (streets_of hand) at ∙ c.self.invariant.there;
      told =
          rw c.in_ok-push.ensures.ok
          (c.tell.ensures
          ∙ ap (λ (tally : Tally). record tally {
            puts = told tally.puts (seat - 1)
                c.take-put_in.result (is_fold act.act);
          }) c.self.invariant.told
          ∙ ap (λ (puts : List Put). record { puts = puts; dead = dead_chips hand.start })
          (ap (λ (n : ℕ). told (puts_in_hand hand) (seat - 1) n (is_fold act.act)) put_in
          ∙ sym tells.1.puts
          ∙ sym (puts-more hand act seat c.self.invariant.lawful c.self.invariant.played accepted.seat free
          accepted.timed)));
      room = c.self.invariant.room;
      lawful = c.self.invariant.lawful;
      played = rw c.in_ok-push.ensures.ok
          (lawful_play-more hand act c.self.invariant.played accepted.free accepted.timed);
    }

pub returns-clause-played : goal.returns-clause-played
returns-clause-played c = (invariant_of-self-2 c).played
