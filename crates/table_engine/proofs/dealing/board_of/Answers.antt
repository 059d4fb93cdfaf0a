use Rattle.table_engine.specs.Deals.{board_of}
use Rattle.table_engine.proofs.dealing.board_of.Goals as goal

pub returns-clause-board : goal.returns-clause-board
unfolding board_of
returns-clause-board c =
    rw (
      c.board_card.ensures.card,
      c.board_card-2.ensures.card,
      c.board_card-3.ensures.card,
      c.board_card-4.ensures.card,
      c.board_card-5.ensures.card,
    )
