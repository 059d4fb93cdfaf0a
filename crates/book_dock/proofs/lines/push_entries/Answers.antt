use Rattle.std.proofs.Common.{arith, ◌∙◌}
use Rattle.std.proofs.lemmas.Grind.{common_steps}
use Rattle.line_words.proofs.Growth.{Extends-append}
use Rattle.book_dock.proofs.lines.push_entries.Goals as goal

pub returns-in_err-floor_lines-clause-kept : goal.returns-in_err-floor_lines-clause-kept
returns-in_err-floor_lines-clause-kept c =
    Extends-append c.args.out.now.items c.floor_lines.new.out.items _
    (c.in_err-floor_lines.ensures.err ∙ c.loop-entry.invariant)

pub returns-clause-kept : goal.returns-clause-kept
returns-clause-kept c = Extends-append c.args.out.now.items c.loop-entry.out.items _ c.loop-entry.invariant

pub loop-entry-preserved : goal.loop-entry-preserved
loop-entry-preserved c = grind (arith, common_steps)

pub returns-clause-ok : goal.returns-clause-ok
returns-clause-ok c = grind (arith, common_steps)
