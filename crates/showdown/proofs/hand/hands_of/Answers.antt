use Rattle.std.proofs.Common.{◌∙◌, ap, None, length, arith}
use Rattle.rulebook.proofs.Rewrites.{written-next}
use Rattle.showdown.specs.Hands.{hands_of}
use Rattle.showdown.proofs.Writes.{written-all, hands_of-at, length-hands_of}
use Rattle.showdown.proofs.hand.hands_of.Goals as goal

pub loop-index-preserved : goal.loop-index-preserved
loop-index-preserved c =
    let ten = length-hands_of c.args.game c.args.board c.args.live.now in
    written-next (hands_of c.args.game c.args.board c.args.live.now) _ c.loop-index.hands c.loop-index.index
    c.hand_in_seat.result None c.loop-index.invariant (omega (arith, ten, c.told-live))
    (omega (arith, ten, c.told-live))
    (c.hand_in_seat.ensures
    ∙ hands_of-at c.args.game c.args.board c.args.live.now c.loop-index.index c.index-live-index.result
    (omega (arith, c.told-live)))

pub returns-clause-hands : goal.returns-clause-hands
returns-clause-hands c =
    let ten = length-hands_of c.args.game c.args.board c.args.live.now in
    c.loop-index.invariant
    ∙ written-all (hands_of c.args.game c.args.board c.args.live.now) _ c.loop-index.index
    (omega (arith, ten, c.told-live)) (omega (arith, ten, c.told-live))

pub returns-clause-ten : goal.returns-clause-ten
returns-clause-ten c =
    let ten = length-hands_of c.args.game c.args.board c.args.live.now in
    ap length (c.loop-index.invariant
    ∙ written-all (hands_of c.args.game c.args.board c.args.live.now) _ c.loop-index.index
    (omega (arith, ten, c.told-live)) (omega (arith, ten, c.told-live))) ∙ ten ∙ c.told-live
