use Rattle.std.proofs.Common.{◌∙◌, ◌++◌, ap, sym}
use Rattle.hand_rank.specs.Sets.{ranks_of}
use Rattle.hand_rank.specs.Values.{run_top}
use Rattle.hand_rank.proofs.KindLaws.{run-within}
use Rattle.hand_rank.proofs.five_cards.value_of_distinct.Goals as goal

pub of_run-requires-clause-within : goal.of_run-requires-clause-within
of_run-requires-clause-within c =
    let listed = c.as_slice.ensures ∙ c.push_ranks.ensures
    ∙ ap (λ xs. xs ++ ranks_of c.args.ranks.bits) c.new-numbers.ensures in
    run-within c.args.ranks.bits c.in-Some-true.top
    (sym c.in-Some-true.is-0 ∙ c.run_top.ensures ∙ ap run_top listed)

pub of_run-requires-in-Some-false-clause-within : goal.of_run-requires-in-Some-false-clause-within
of_run-requires-in-Some-false-clause-within c =
    let listed = c.as_slice.ensures ∙ c.push_ranks.ensures
    ∙ ap (λ xs. xs ++ ranks_of c.args.ranks.bits) c.new-numbers.ensures in
    run-within c.args.ranks.bits c.in-Some-false.top
    (sym c.in-Some-false.is-0 ∙ c.run_top.ensures ∙ ap run_top listed)
