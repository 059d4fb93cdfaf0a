use Rattle.std.proofs.Common.{◌≡◌, ◌++◌, take}
use Rattle.std.specs.List.{flat_map}
use Rattle.floor_events.proofs.report_writer.push_players.Given as goal

abbrev pub invariant-loop-player : goal.invariant-loop-player
invariant-loop-player g l = l.out.items ≡ l.initial.out.items ++ flat_map g.T.ReportLine.line (take l.player-index l.players)
