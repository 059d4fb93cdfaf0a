use Rattle.hand_rank.proofs.HeldLaws.{suited-ranks}
use Rattle.hand_rank.proofs.board.Board.suited.Goals as goal

pub returns : goal.returns
returns c cards board =
    suited-ranks _ c.with.result.bits c.with-2.result.bits c.args.one c.args.other cards c.if-one-other.false
    (λ r. board.suits c.args.one.suit r _ c.args.one.one_of_four) c.with.ensures c.with-2.ensures
