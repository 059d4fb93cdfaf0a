use Rattle.std.proofs.Common.{◌≡◌, take, map}
use Rattle.tournament_rules.specs.Report.{reported_out}
use Rattle.floor_book.proofs.report.outs_reported.Given as goal

abbrev pub invariant-loop-standing : goal.invariant-loop-standing
invariant-loop-standing l = l.lines ≡ map (reported_out l.entries) (take l.standing-index l.standings)
