use Rattle.std.proofs.Common.{◌∙◌, sym}
use Rattle.floor_book.proofs.Moved.{read-found}
use Rattle.floor_book.proofs.balance.mover.Goals as goal

pub returns-clause-player : goal.returns-clause-player
returns-clause-player c =
    read-found c.args.seats.now.players c.args.move_.from c.unwrap-player.result.0 c.unwrap-player.result.1
    c.unwrap-player.result.2 (sym c.at.ensures.player ∙ c.unwrap-player.ensures)
