use Rattle.std.proofs.Common.{◌&&◌, ◌||◌, ◌∙◌, ap₂, lit≤}
use Rattle.hand_rank.proofs.SuitLaws.{tally-is}
use Rattle.hand_rank.proofs.suits.Suits.tally.Goals as goal

pub returns : goal.returns
returns c cards are apart =
    tally-is c.union.result.bits c.union-2.result.bits c.union-3.result.bits c.meet.result.bits cards _ _ _ _
    (λ r. are 0 r _ (lit≤ tt)) (λ r. are 1 r _ (lit≤ tt)) (λ r. are 2 r _ (lit≤ tt)) (λ r. are 3 r _ (lit≤ tt)) apart
    (λ r. c.union.ensures r ∙ ap₂ (λ x y. x || y) (c.union-either_minor.ensures r) (c.union-either_major.ensures r))
    (λ r. c.union-2.ensures r
    ∙ ap₂ (λ x y. x || y) (c.union-two_of_a_kind.ensures r
    ∙ ap₂ (λ x y. x || y) (c.meet-both_minors.ensures r) (c.meet-both_majors.ensures r))
    (c.meet-minor_and_major.ensures r
    ∙ ap₂ (λ x y. x && y) (c.union-either_minor.ensures r) (c.union-either_major.ensures r)))
    (λ r. c.union-3.ensures r
    ∙ ap₂ (λ x y. x || y) (c.meet-two_minors.ensures r
    ∙ ap₂ (λ x y. x && y) (c.meet-both_minors.ensures r) (c.union-either_major.ensures r))
    (c.meet-two_majors.ensures r
    ∙ ap₂ (λ x y. x && y) (c.union-either_minor.ensures r) (c.meet-both_majors.ensures r)))
    (λ r. c.meet.ensures r ∙ ap₂ (λ x y. x && y) (c.meet-both_minors.ensures r) (c.meet-both_majors.ensures r))
