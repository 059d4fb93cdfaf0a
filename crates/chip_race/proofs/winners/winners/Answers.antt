use Rattle.std.proofs.Common.{◌∙◌, ap, get_or, None, arith}
use Rattle.chip_race.specs.BestCards.{best_cards, is_among_first}
use Rattle.chip_race.proofs.BestPlayers.{winners-best_cards, winners-empty}
use Rattle.chip_race.proofs.winners.winners.Goals as goal

pub returns-clause-wins : goal.returns-clause-wins
returns-clause-wins c = λ index below.
    c.loop-index.invariant.each index (omega arith)
    ∙ ap (λ best. is_among_first best c.args.chips (get_or best index None)) (c.best_cards-best.ensures
    ∙ ap (λ cards. best_cards c.args.old c.args.new c.args.stacks.now cards) c.row.ensures.same)
    ∙ winners-best_cards c.args.old c.args.new c.args.chips c.args.stacks.now c.args.deck.now index
    (omega arith) c.row.ensures.deck below

pub returns-clause-empty : goal.returns-clause-empty
returns-clause-empty c = λ index below empty.
    returns-clause-wins c index below
    ∙ winners-empty c.args.old c.args.new c.args.chips c.args.stacks.now c.args.deck.now index
    (omega arith) c.row.ensures.deck below c.requires.unit (omega arith) empty
