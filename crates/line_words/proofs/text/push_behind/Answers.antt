use Rattle.std.proofs.Common.{arith, [], ◌∷◌}
use Rattle.std.proofs.lemmas.Grind.{common_steps}
use Rattle.line_words.proofs.Growth.{Extends-same, Extends-append, Extends-before}
use Rattle.line_words.proofs.text.push_behind.Goals as goal

pub returns-in_err-push-clause-kept : goal.returns-in_err-push-clause-kept
returns-in_err-push-clause-kept g c = Extends-before c.args.out.now.items c.loop-item.out.items _ _
    c.loop-item.invariant (Extends-same c.loop-item.out.items _ c.in_err-push.ensures.items)

pub returns-in_err-push_text-clause-kept : goal.returns-in_err-push_text-clause-kept
returns-in_err-push_text-clause-kept g c = Extends-before c.args.out.now.items c.loop-item.out.items _ _
    c.loop-item.invariant (Extends-before c.loop-item.out.items c.push.new.self.items _ (c.args.between ∷ [])
    c.in_ok-push.ensures.items c.in_err-push_text.ensures.kept)

pub returns-clause-kept : goal.returns-clause-kept
returns-clause-kept g c = Extends-append c.args.out.now.items c.loop-item.out.items _ c.loop-item.invariant

pub loop-item-preserved : goal.loop-item-preserved
loop-item-preserved g c = grind (arith, common_steps)

pub returns-clause-ok : goal.returns-clause-ok
returns-clause-ok g c = grind (arith, common_steps)
