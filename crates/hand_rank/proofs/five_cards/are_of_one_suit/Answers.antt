use Rattle.std.proofs.Common.{◌∙◌}
use Rattle.hand_rank.proofs.CountLaws.{one_suit-of}
use Rattle.hand_rank.proofs.five_cards.are_of_one_suit.Goals as goal

pub returns-in-len1-up : goal.returns-in-len1-up
returns-in-len1-up c = c.have_suit.ensures
    ∙ one_suit-of c.args.cards.now c.first-item.result c.in-len1-up.len_at_least c.first-item.is
