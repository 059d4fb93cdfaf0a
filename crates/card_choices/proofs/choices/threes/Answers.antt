use Rattle.std.proofs.Common.{[], ◌∷◌, ◌∙◌, ap, sym, rules}
use Rattle.card_choices.specs.Choices.{choices}
use Rattle.card_choices.proofs.Arrays.{five_of}
use Rattle.card_choices.proofs.choices.threes.Goals as goal

pub returns : goal.returns
returns c =
    (λ i. c.new.ensures i ∷ c.new-2.ensures i ∷ c.new-3.ensures i ∷ c.new-4.ensures i ∷ c.new-5.ensures i ∷
    c.new-6.ensures i ∷ c.new-7.ensures i ∷ c.new-8.ensures i ∷ c.new-9.ensures i ∷ c.new-10.ensures i ∷ [])
    ∙ sym (ap (choices 3)
    (five_of c.args.board c.index-board-0.result c.index-board-1.result c.index-board-2.result
    c.index-board-3.result c.index-board-4.result (search rules)))
