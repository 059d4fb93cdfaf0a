use Rattle.std.proofs.Common.{◌∙◌, ap}
use Rattle.floor_director.specs.DrawnDecks.{deck_drawn}
use Rattle.book_dock.proofs.Booked.{row-is}
use Rattle.book_dock.proofs.hold.BookHold.next_row.Goals as goal

pub returns : goal.returns
returns c =
    let hold = c.args.self.now in
    row-is hold.journal.items hold.seed hold.book hold.kept c.deck_of.result
    (c.deck_of.ensures.drawn ∙ ap (deck_drawn hold.seed) c.number.ensures)
