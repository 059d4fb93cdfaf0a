use Rattle.std.proofs.Common.{arith}
use Rattle.std.proofs.lemmas.Grind.{common_steps}
use Rattle.line_words.proofs.Growth.{Extends-append, Extends-before}
use Rattle.player_view.proofs.winners.push_won.Goals as goal

pub returns-in_err-push_win-clause-kept : goal.returns-in_err-push_win-clause-kept
returns-in_err-push_win-clause-kept c =
    Extends-before c.args.out.now.items c.loop-player.out.items _ _ c.loop-player.invariant c.in_err-push_win.ensures.kept

pub returns-clause-kept : goal.returns-clause-kept
returns-clause-kept c = Extends-append c.args.out.now.items c.loop-player.out.items _ c.loop-player.invariant

pub loop-player-preserved : goal.loop-player-preserved
loop-player-preserved c = grind (arith, common_steps)

pub push_win-requires-clause-first : goal.push_win-requires-clause-first
push_win-requires-clause-first c = grind (arith, common_steps)

pub push_win-requires-clause-last : goal.push_win-requires-clause-last
push_win-requires-clause-last c = grind (arith, common_steps)

pub returns-clause-ok : goal.returns-clause-ok
returns-clause-ok c = grind (arith, common_steps)
