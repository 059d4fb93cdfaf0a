use Rattle.std.proofs.Common.{◌∙◌, ap, ap₂}
use Rattle.std.specs.Ordering.{nat_cmp, ordering_then}
use Rattle.std.specs.Cmp.Lexicographic.{slice_cmp}
use Rattle.hand_rank.proofs.ValueLaws.{values-compare}
use Rattle.hand_rank.proofs.high_value.HighValueOrd.cmp.Goals as goal

pub returns : goal.returns
returns c =
    let category = c.cmp-category.ensures ∙ ap₂ nat_cmp c.number.ensures c.number-2.ensures in
    c.then-2.ensures
    ∙ ap (λ o. ordering_then o c.cmp-others.result) c.then.ensures
    ∙ (λ i. ordering_then (ordering_then (category i) (c.cmp-most.ensures i)) (c.cmp-others.ensures i))
    ∙ values-compare c.self.inside c.other.inside c.self.invariant c.other.invariant
    ∙ (λ i. slice_cmp nat_cmp (c.self.view_is i) (c.other.view_is i))
