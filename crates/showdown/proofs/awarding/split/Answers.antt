use Rattle.std.proofs.Common.{◌≡◌, ◌∙◌, ◌+◌, ◌-◌, ◌<◌, [], drop, length, add-one, ap, arith, ℕ}
use Rattle.std.specs.Prelude.{slice_index_or}
use Rattle.std.proofs.Math.ListN.{drop_of_length-le}
use Rattle.std.proofs.lemmas.List.{length-set}
use Rattle.std.proofs.lemmas.List.Sums.{get_or-le-sum_by}
use Rattle.pot_layers.specs.Shares.{share_of, sum_below}
use Rattle.showdown.specs.Awards.{split}
use Rattle.showdown.proofs.Payments.{paid-next, seat-at, sum-award, shares-within}
use Rattle.showdown.proofs.awarding.split.Goals as goal

pub overflow_add-awards : goal.overflow_add-awards
overflow_add-awards c =
    let seat = seat-at c.args.order.now c.loop-index.index c.requires.seats c.loop-index-test.true in
    let own = get_or-le-sum_by (λ (n : ℕ). n) c.loop-index.awards
    (slice_index_or c.args.order.now c.loop-index.index 0 - 1) 0
    (omega (arith, seat.1, c.loop-index.invariant.ten)) in
    let shares = shares-within c.args.amount c.args.unit
    (length c.args.order.now) c.loop-index.index c.loop-index-test.true c.requires.whole in
    omega (arith, own, shares, c.loop-index.invariant.paid, c.share.ensures, c.requires.fits)

pub loop-index-preserved : goal.loop-index-preserved
loop-index-preserved c =
    let seat = seat-at c.args.order.now c.loop-index.index c.requires.seats c.loop-index-test.true in
    let within : slice_index_or c.args.order.now c.loop-index.index 0 - 1 < length c.loop-index.awards =
    omega (arith, seat.0, seat.1, c.loop-index.invariant.ten) in
    record {
      ten = length-set c.loop-index.awards _ _ ∙ c.loop-index.invariant.ten;
      left = rw c.share.ensures
          (paid-next c.args.amount c.args.unit (length c.args.order.now) c.loop-index.awards c.args.order.now
          c.loop-index.index c.loop-index-test.true seat.0 ∙ c.loop-index.invariant.left);
      paid =
          let sum_is = sum-award c.loop-index.awards
          (slice_index_or c.args.order.now c.loop-index.index 0 - 1) c.share.result within in
          let next : sum_below (share_of c.args.amount c.args.unit (length c.args.order.now)) (c.loop-index.index + 1)
          ≡ sum_below (share_of c.args.amount c.args.unit (length c.args.order.now)) c.loop-index.index + share_of
          c.args.amount c.args.unit (length c.args.order.now) c.loop-index.index =
          ap (sum_below (share_of c.args.amount c.args.unit (length c.args.order.now))) (add-one c.loop-index.index) in
          omega (arith, sum_is, next, c.loop-index.invariant.paid, c.share.ensures);
    }

pub returns : goal.returns
unfolding split
returns c =
    let over : drop c.loop-index.index c.args.order.now ≡ [] =
    drop_of_length-le c.args.order.now c.loop-index-test.false in
    rw over at c.loop-index.invariant.left
