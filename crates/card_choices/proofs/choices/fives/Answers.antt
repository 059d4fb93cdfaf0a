use Rattle.std.proofs.Common.{[], ◌∷◌, ◌∙◌, ap₂, sym, rules}
use Rattle.card_choices.specs.Choices.{holdem_choices}
use Rattle.card_choices.proofs.Arrays.{two_of, five_of}
use Rattle.card_choices.proofs.choices.fives.Goals as goal

pub returns : goal.returns
returns c =
    (λ i. c.new.ensures i ∷ c.new-2.ensures i ∷ c.new-3.ensures i ∷ c.new-4.ensures i ∷ c.new-5.ensures i ∷
    c.new-6.ensures i ∷ c.new-7.ensures i ∷ c.new-8.ensures i ∷ c.new-9.ensures i ∷ c.new-10.ensures i ∷
    c.new-11.ensures i ∷ c.new-12.ensures i ∷ c.new-13.ensures i ∷ c.new-14.ensures i ∷ c.new-15.ensures i ∷
    c.new-16.ensures i ∷ c.new-17.ensures i ∷ c.new-18.ensures i ∷ c.new-19.ensures i ∷ c.new-20.ensures i ∷
    c.new-21.ensures i ∷ [])
    ∙ sym (ap₂ (λ hole board. holdem_choices hole board)
    (two_of c.args.hole c.index-hole-0.result c.index-hole-1.result (search rules))
    (five_of c.args.board c.index-board-0.result c.index-board-1.result c.index-board-2.result c.index-board-3.result
    c.index-board-4.result (search rules)))
