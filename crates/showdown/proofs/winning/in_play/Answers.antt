use Rattle.std.proofs.Common.{◌≡◌, ◌∙◌, None, true, false, get_or, length, ap, sym, add-one, arith}
use Rattle.std.proofs.lemmas.List.{get_or_default}
use Rattle.rulebook.proofs.Rewrites.{written-next}
use Rattle.button_blinds.specs.SeatSets.{has_seat}
use Rattle.showdown.specs.Winners.{in_play}
use Rattle.showdown.proofs.Writes.{written-all, length-in_play, get_or-in_play}
use Rattle.showdown.proofs.winning.in_play.Goals.{then-has, else-has}
use Rattle.showdown.proofs.winning.in_play.Goals as goal

pub loop-index-preserved : goal.loop-index-preserved
loop-index-preserved c =
    let ten = length-in_play c.args.eligible c.args.hands.now in
    let seat = ap (has_seat c.args.eligible) (add-one c.loop-index.index) in
    let own = get_or-in_play c.args.eligible c.args.hands.now c.loop-index.index in
    written-next (in_play c.args.eligible c.args.hands.now) _ c.loop-index.rivals c.loop-index.index c.if-has.rivals
    None c.loop-index.invariant (omega (arith, ten, c.requires)) (omega (arith, ten, c.requires))
    (elim c.if-has.branch [
      | then-has w ↦
          let sits : get_or c.args.eligible c.loop-index.index false ≡ true = cc (c.has.ensures, w.if-has.true, seat) in
          w.rivals-is ∙ sym (own
          ∙ rw sits (get_or_default c.args.hands.now c.loop-index.index None w.index-hands-index.result
          (omega (arith, c.requires))))
      | else-has w ↦
          let nobody : get_or c.args.eligible c.loop-index.index false ≡ false =
          cc (c.has.ensures, w.if-has.false, seat) in
          w.rivals-is ∙ sym (own ∙ rw nobody)
    ])

pub returns-clause-rivals : goal.returns-clause-rivals
returns-clause-rivals c =
    let ten = length-in_play c.args.eligible c.args.hands.now in
    c.loop-index.invariant
    ∙ written-all (in_play c.args.eligible c.args.hands.now) _ c.loop-index.index (omega (arith, ten, c.requires))
    (omega (arith, ten, c.requires))

pub returns-clause-ten : goal.returns-clause-ten
returns-clause-ten c =
    let ten = length-in_play c.args.eligible c.args.hands.now in
    ap length (c.loop-index.invariant
    ∙ written-all (in_play c.args.eligible c.args.hands.now) _ c.loop-index.index (omega (arith, ten, c.requires))
    (omega (arith, ten, c.requires))) ∙ ten ∙ c.requires
