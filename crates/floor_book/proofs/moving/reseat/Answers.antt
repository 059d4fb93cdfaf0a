use Rattle.floor_book.proofs.Moved.{empty-lifted, stands-lifted}
use Rattle.floor_book.proofs.moving.reseat.Goals as goal

pub seat-requires-clause-empty : goal.seat-requires-clause-empty
seat-requires-clause-empty c =
    rw c.lift-stack.ensures.same
    (empty-lifted c.args.seats.now.players c.args.player.player c.args.place c.requires.free)

pub seat-requires-clause-stands : goal.seat-requires-clause-stands
seat-requires-clause-stands c =
    rw c.lift-stack.ensures.same (stands-lifted c.args.seats.now.players c.args.player.player)
