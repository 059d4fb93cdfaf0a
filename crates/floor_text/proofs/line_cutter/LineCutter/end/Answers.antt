use Rattle.std.proofs.Common.{arith}
use Rattle.floor_text.proofs.CutLines.{handed_at_end, lines_of_none}
use Rattle.floor_text.proofs.line_cutter.LineCutter.end.Goals as goal

pub returns-then-is_empty-clause-lines : goal.returns-then-is_empty-clause-lines
returns-then-is_empty-clause-lines c = lines_of_none c.args.self.now.begun (grind arith)

pub returns-clause-lines : goal.returns-clause-lines
returns-clause-lines c = handed_at_end c.args.self.now.begun _ c.cut.ensures.feed (grind arith) c.cut.ensures.line
