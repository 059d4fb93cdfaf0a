use Rattle.std.proofs.Common.{◌∙◌, ◌||◌, ap₂}
use Rattle.hand_rank.proofs.PartLaws.{tally-joined}
use Rattle.hand_rank.proofs.tally.Tally.union.Goals as goal

pub returns : goal.returns
returns c one other both is also sum =
    tally-joined _ _ _ _ _ _ _ _ c.union.result.bits c.union-3.result.bits c.union-6.result.bits c.union-10.result.bits
    one other both is also sum
    c.union.ensures
    (λ r. c.union-3.ensures r ∙ ap₂ (λ x y. x || y) (c.union-2.ensures r) (c.meet-one_and_one.ensures r))
    (λ r. c.union-6.ensures r
    ∙ ap₂ (λ x y. x || y) (c.union-4.ensures r) (c.union-5.ensures r
    ∙ ap₂ (λ x y. x || y) (c.meet-two_and_one.ensures r) (c.meet-one_and_two.ensures r)))
    (λ r. c.union-10.ensures r
    ∙ ap₂ (λ x y. x || y) (c.union-7.ensures r) (c.union-9.ensures r
    ∙ ap₂ (λ x y. x || y) (c.meet-three_and_one.ensures r) (c.union-8.ensures r
    ∙ ap₂ (λ x y. x || y) (c.meet-two_and_two.ensures r) (c.meet-one_and_three.ensures r))))
