use Rattle.std.proofs.Common.{arith}
use Rattle.std.proofs.lemmas.Grind.{common_steps}
use Rattle.line_words.proofs.Growth.{Extends-append, Extends-before}
use Rattle.floor_events.proofs.report_writer.push_players.Goals as goal

pub returns-in_err-push_report_line-clause-kept : goal.returns-in_err-push_report_line-clause-kept
returns-in_err-push_report_line-clause-kept g c = Extends-before c.args.out.now.items c.loop-player.out.items _ _
    c.loop-player.invariant c.in_err-push_report_line.ensures.kept

pub returns-clause-kept : goal.returns-clause-kept
returns-clause-kept g c = Extends-append c.args.out.now.items c.loop-player.out.items _ c.loop-player.invariant

pub loop-player-preserved : goal.loop-player-preserved
loop-player-preserved g c = grind (arith, common_steps)

pub returns-clause-ok : goal.returns-clause-ok
returns-clause-ok g c = grind (arith, common_steps)
