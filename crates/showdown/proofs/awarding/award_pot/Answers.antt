use Rattle.std.proofs.Common.{◌≡◌, ◌∙◌, ◌≤◌, ℕ, List, true, false, length, ap, sym, subst, arith}
use Rattle.std.specs.Prelude.{◌==◌, ◌||◌, sum}
use Rattle.std.specs.List.{list_all}
use Rattle.std.proofs.lemmas.Bool.{eq-eqb, ne_eqb, or_right}
use Rattle.button_blinds.specs.SeatSets.{seat_count}
use Rattle.pot_layers.specs.Layers.{are_same_seats}
use Rattle.pot_layers.specs.Shares.{high_half, low_half}
use Rattle.pot_layers.proofs.ShareLaws.{halves-sum}
use Rattle.showdown.specs.declared.hand.Side.TheVariants.{High, Low}
use Rattle.showdown.specs.Winners.{in_play, winners}
use Rattle.showdown.specs.Awards.{is_seat, in_turn, split}
use Rattle.showdown.proofs.PotAwards.{award_pot-once, award_pot-halves, share_of-whole, high-some}
use Rattle.showdown.proofs.AwardLaws.{sum-split}
use Rattle.showdown.proofs.SameSeats.{pointwise-same}
use Rattle.showdown.proofs.awarding.award_pot.Goals.{then-count-eq0-via-then-count-eq0, then-count-eq0-via-else-count-eq0+then-eq}
use Rattle.showdown.proofs.awarding.award_pot.Goals as goal

pub returns-then-count-eq0 : goal.returns-then-count-eq0
returns-then-count-eq0 c =
    let highs = c.winners-highs.ensures ∙ ap (winners High) c.in_play-rivals.ensures.rivals in
    let lows = c.winners-lows.ensures ∙ ap (winners Low) c.in_play-rivals.ensures.rivals in
    let once : (seat_count (winners Low (in_play c.args.pot.eligible c.args.hands.now)) == 0 || are_same_seats
    (winners High (in_play c.args.pot.eligible c.args.hands.now))
    (winners Low (in_play c.args.pot.eligible c.args.hands.now))) ≡ true =
    rw (← highs, ← lows) (elim c.then-count-eq0.branch [
      | then-count-eq0-via-then-count-eq0 w ↦
          rw (eq-eqb (seat_count c.winners-lows.result) 0 (sym c.count.ensures.count ∙ w.if-count-eq0.true))
      | then-count-eq0-via-else-count-eq0+then-eq w ↦
          or_right (seat_count c.winners-lows.result == 0) (are_same_seats c.winners-highs.result c.winners-lows.result)
          (sym (pointwise-same c.winners-highs.result c.winners-lows.result) ∙ sym w.eq.ensures ∙ w.if-eq.true)
    ]) in
    c.split.ensures
    ∙ ap (split c.args.pot.amount c.args.unit c.args.awards.now) (c.as_slice.ensures ∙ c.of-high_order.ensures.seats
    ∙ ap (in_turn c.args.seats c.args.button) highs)
    ∙ award_pot-once c.args.hands.now c.args.unit c.args.button c.args.seats c.args.awards.now c.args.pot once

pub split-requires-2-clause-whole : goal.split-requires-2-clause-whole
split-requires-2-clause-whole c = rw c.halves-high.ensures.high (share_of-whole c.args.pot.amount c.args.unit 2 0)

pub split-requires-2-clause-fits : goal.split-requires-2-clause-fits
split-requires-2-clause-fits c =
    omega (
      arith,
      halves-sum c.args.pot.amount c.args.unit c.requires.whole,
      c.halves-high.ensures.high,
      c.requires.fits,
    )

pub split-requires-3-clause-whole : goal.split-requires-3-clause-whole
split-requires-3-clause-whole c = rw c.halves-high.ensures.low (share_of-whole c.args.pot.amount c.args.unit 2 1)

pub split-requires-3-clause-fits : goal.split-requires-3-clause-fits
split-requires-3-clause-fits c =
    let highs = c.winners-highs.ensures ∙ ap (winners High) c.in_play-rivals.ensures.rivals in
    let order = c.as_slice-2.ensures ∙ c.of-high_order.ensures.seats ∙ ap (in_turn c.args.seats c.args.button) highs in
    let some = high-some c.args.hands.now c.args.pot.eligible c.args.seats c.args.button c.requires.table
    (c.requires.button_low, c.requires.button_high) c.requires.somebody in
    let first = ap sum c.split-2.ensures
    ∙ sum-split c.halves-high.result.0 c.args.unit c.args.awards.now c.as_slice-2.result.now c.told-awards
    (subst (λ (o : List ℕ). list_all is_seat o ≡ true) (sym c.as_slice-2.ensures) c.of-high_order.ensures.within)
    (subst (λ (o : List ℕ). 1 ≤ length o) (sym order) some)
    (rw c.halves-high.ensures.high (share_of-whole c.args.pot.amount c.args.unit 2 0)) in
    omega (
      arith,
      first,
      halves-sum c.args.pot.amount c.args.unit c.requires.whole,
      c.halves-high.ensures.high,
      c.halves-high.ensures.low,
      c.requires.fits,
    )

pub returns : goal.returns
returns c =
    let highs = c.winners-highs.ensures ∙ ap (winners High) c.in_play-rivals.ensures.rivals in
    let lows = c.winners-lows.ensures ∙ ap (winners Low) c.in_play-rivals.ensures.rivals in
    let halves : (seat_count (winners Low (in_play c.args.pot.eligible c.args.hands.now)) == 0 || are_same_seats
    (winners High (in_play c.args.pot.eligible c.args.hands.now))
    (winners Low (in_play c.args.pot.eligible c.args.hands.now))) ≡ false =
    rw (← highs, ← lows)
    (rw (ne_eqb (seat_count c.winners-lows.result) 0 (λ none. c.if-count-eq0.false (c.count.ensures.count ∙ none)))
    (sym (pointwise-same c.winners-highs.result c.winners-lows.result) ∙ sym c.eq.ensures ∙ c.if-eq.false)) in
    c.split-3.ensures
    ∙ ap (λ (n : ℕ). split n c.args.unit c.split-2.new.awards c.as_slice-3.result.now) c.halves-high.ensures.low
    ∙ ap (λ (o : List ℕ). split (low_half c.args.pot.amount c.args.unit) c.args.unit c.split-2.new.awards o)
    (c.as_slice-3.ensures ∙ c.of-low_order.ensures.seats ∙ ap (in_turn c.args.seats c.args.button) lows)
    ∙ ap (λ (a : List ℕ). split (low_half c.args.pot.amount c.args.unit) c.args.unit a
    (in_turn c.args.seats c.args.button (winners Low (in_play c.args.pot.eligible c.args.hands.now))))
    (c.split-2.ensures
    ∙ ap (λ (n : ℕ). split n c.args.unit c.args.awards.now c.as_slice-2.result.now) c.halves-high.ensures.high
    ∙ ap (λ (o : List ℕ). split (high_half c.args.pot.amount c.args.unit) c.args.unit c.args.awards.now o)
    (c.as_slice-2.ensures ∙ c.of-high_order.ensures.seats ∙ ap (in_turn c.args.seats c.args.button) highs))
    ∙ award_pot-halves c.args.hands.now c.args.unit c.args.button c.args.seats c.args.awards.now c.args.pot halves
