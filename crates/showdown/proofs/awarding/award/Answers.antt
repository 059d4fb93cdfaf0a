use Rattle.std.proofs.Common.{◌∙◌, ◌<◌, ℕ, List, length, refl, ap, arith}
use Rattle.std.specs.Prelude.{sum, Option}
use Rattle.showdown.specs.declared.hand.Hand.{Hand}
use Rattle.showdown.specs.Hands.{hands_of}
use Rattle.showdown.specs.Awards.{award_pot, awards_of}
use Rattle.showdown.proofs.AwardLaws.{sum-award_pot}
use Rattle.showdown.proofs.AllPots.{awards_of-more, total_of-more, total_of-within, pot-at}
use Rattle.showdown.proofs.awarding.award.Goals as goal

pub loop-index-init : goal.loop-index-init
unfolding awards_of
loop-index-init c = record { awards = refl; ten = refl; paid = refl }

pub award_pot-requires-clause-table : goal.award_pot-requires-clause-table
award_pot-requires-clause-table c =
    (pot-at c.args.game c.args.board c.args.live.now c.hands_of-hands.result c.args.unit c.args.button c.args.seats
    c.args.pots.now c.loop-index.index c.get.result c.hands_of-hands.ensures.hands c.requires.most
    (c.requires.button_low, c.requires.button_high) c.requires.table c.requires.live c.requires.somebody
    c.requires.units c.get.ensures).table

pub award_pot-requires-clause-somebody : goal.award_pot-requires-clause-somebody
award_pot-requires-clause-somebody c =
    (pot-at c.args.game c.args.board c.args.live.now c.hands_of-hands.result c.args.unit c.args.button c.args.seats
    c.args.pots.now c.loop-index.index c.get.result c.hands_of-hands.ensures.hands c.requires.most
    (c.requires.button_low, c.requires.button_high) c.requires.table c.requires.live c.requires.somebody
    c.requires.units c.get.ensures).somebody

pub award_pot-requires-clause-whole : goal.award_pot-requires-clause-whole
award_pot-requires-clause-whole c =
    (pot-at c.args.game c.args.board c.args.live.now c.hands_of-hands.result c.args.unit c.args.button c.args.seats
    c.args.pots.now c.loop-index.index c.get.result c.hands_of-hands.ensures.hands c.requires.most
    (c.requires.button_low, c.requires.button_high) c.requires.table c.requires.live c.requires.somebody
    c.requires.units c.get.ensures).whole

pub award_pot-requires-clause-fits : goal.award_pot-requires-clause-fits
award_pot-requires-clause-fits c =
    let within : c.loop-index.index < length c.args.pots.now = omega (arith, c.len-index-end.ensures.len) in
    omega (
      arith,
      total_of-within c.args.pots.now c.loop-index.index c.get.result within c.get.ensures,
      c.loop-index.invariant.paid,
      c.requires.fits,
    )

pub loop-index-preserved : goal.loop-index-preserved
loop-index-preserved c =
    let within : c.loop-index.index < length c.args.pots.now = omega (arith, c.len-index-end.ensures.len) in
    let at = pot-at c.args.game c.args.board c.args.live.now c.hands_of-hands.result c.args.unit c.args.button
    c.args.seats c.args.pots.now c.loop-index.index c.get.result c.hands_of-hands.ensures.hands c.requires.most
    (c.requires.button_low, c.requires.button_high) c.requires.table c.requires.live c.requires.somebody
    c.requires.units c.get.ensures in
    let paid = ap sum c.award_pot.ensures
    ∙ sum-award_pot c.hands_of-hands.result c.args.unit c.args.button c.args.seats c.loop-index.awards c.get.result
    c.loop-index.invariant.ten at in
    record {
      awards =
          c.award_pot.ensures
          ∙ ap (λ (hands : List (Option Hand)). award_pot hands c.args.unit c.args.button c.args.seats
          c.loop-index.awards c.get.result) c.hands_of-hands.ensures.hands
          ∙ ap (λ (awards : List ℕ). award_pot (hands_of c.args.game c.args.board c.args.live.now) c.args.unit
          c.args.button c.args.seats awards c.get.result) c.loop-index.invariant.awards
          ∙ awards_of-more (hands_of c.args.game c.args.board c.args.live.now) c.args.unit c.args.button c.args.seats
          c.args.pots.now c.loop-index.index c.get.result within c.get.ensures;
      ten = c.award_pot.array_long;
      paid = omega (
        arith,
        paid,
        total_of-more c.args.pots.now c.loop-index.index c.get.result within c.get.ensures,
        c.loop-index.invariant.paid,
      );
    }
