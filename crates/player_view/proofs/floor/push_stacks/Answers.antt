use Rattle.std.proofs.Common.{arith}
use Rattle.std.proofs.lemmas.Grind.{common_steps}
use Rattle.line_words.proofs.Growth.{Extends-append, Extends-before}
use Rattle.player_view.proofs.floor.push_stacks.Goals as goal

pub returns-in_err-push_stack-clause-kept : goal.returns-in_err-push_stack-clause-kept
returns-in_err-push_stack-clause-kept c =
    Extends-before c.args.out.now.items c.loop-line.out.items _ _ c.loop-line.invariant c.in_err-push_stack.ensures.kept

pub returns-clause-kept : goal.returns-clause-kept
returns-clause-kept c = Extends-append c.args.out.now.items c.loop-line.out.items _ c.loop-line.invariant

pub loop-line-preserved : goal.loop-line-preserved
loop-line-preserved c = grind (arith, common_steps)

pub returns-clause-ok : goal.returns-clause-ok
returns-clause-ok c = grind (arith, common_steps)
