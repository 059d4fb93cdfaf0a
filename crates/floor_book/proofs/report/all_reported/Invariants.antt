use Rattle.std.proofs.Common.{◌≡◌, take, map}
use Rattle.seat_book.specs.Players.{players_in}
use Rattle.tournament_rules.specs.Report.{reported}
use Rattle.floor_book.proofs.report.all_reported.Given as goal

abbrev pub invariant-loop-slot : goal.invariant-loop-slot
invariant-loop-slot l = l.lines ≡ map (reported l.started) (players_in (take l.slot-index l.slots))
