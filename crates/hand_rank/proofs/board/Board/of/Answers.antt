use Rattle.hand_rank.proofs.board.Board.of.Goals as goal

pub returns : goal.returns
returns c once = record { suits = c.of-suits.ensures; tally = c.tally.ensures c.args.cards c.of-suits.ensures once }
