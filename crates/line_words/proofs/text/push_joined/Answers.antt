use Rattle.std.proofs.Common.{arith, ◌∙◌, ◌++◌, ap}
use Rattle.std.proofs.lemmas.Grind.{common_steps}
use Rattle.std.proofs.lemmas.Result.{on_ok_weaker}
use Rattle.line_words.proofs.Growth.{Extends-before, joined}
use Rattle.line_words.proofs.text.push_joined.Goals as goal

pub returns-clause-ok : goal.returns-clause-ok
returns-clause-ok g c =
    let first = c.in_ok-push_text.ensures.ok
    ∙ ap (λ item. c.args.out.now.items ++ g.T.WriteText.text item) c.first-item.is in
    on_ok_weaker c.push_behind.result (joined g.T.WriteText.text c.args.between c.args.items.now c.first-item.result
    c.args.out.now.items c.push_text.new.out.items c.push_behind.new.out.items c.in-len1-up.len_at_least first)
    c.push_behind.ensures.ok

pub returns-clause-kept : goal.returns-clause-kept
returns-clause-kept g c = Extends-before c.args.out.now.items c.push_text.new.out.items _ _
    c.in_ok-push_text.ensures.ok c.push_behind.ensures.kept

pub returns-in_default-clause-kept : goal.returns-in_default-clause-kept
returns-in_default-clause-kept g c = grind (arith, common_steps)

pub returns-in_default-clause-ok : goal.returns-in_default-clause-ok
returns-in_default-clause-ok g c = grind (arith, common_steps)
