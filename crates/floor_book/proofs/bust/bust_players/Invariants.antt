use Rattle.table_engine.specs.Plays.{recorded_hand}
use Rattle.floor_book.proofs.GoingOut.{IsBustSoFar, is_broke}
use Rattle.floor_book.proofs.bust.bust_players.Given as goal

abbrev pub invariant-loop-index : goal.invariant-loop-index
invariant-loop-index l = IsBustSoFar l.done.start.seats (is_broke (recorded_hand l.done)) l.group l.initial.seats l.seats
    l.initial.busts l.busts l.index
