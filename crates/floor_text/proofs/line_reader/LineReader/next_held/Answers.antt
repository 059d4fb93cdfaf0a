use Rattle.std.proofs.Common.{arith}
use Rattle.std.proofs.lemmas.Grind.{common_steps}
use Rattle.floor_text.proofs.ReadLines.{handed_at}
use Rattle.floor_text.proofs.line_reader.LineReader.next_held.Goals as goal

pub returns-clause-reads : goal.returns-clause-reads
returns-clause-reads c = λ bytes.
    handed_at c.args.self.now c.hand_out.new.self bytes c.in_ok-at.at _ c.in_ok-at.ensures.found.1
    c.hand_out.ensures.line c.hand_out.ensures.held c.hand_out.ensures.taken

pub returns-clause-held : goal.returns-clause-held
returns-clause-held c = grind (arith, common_steps)

pub returns-clause-shorter : goal.returns-clause-shorter
returns-clause-shorter c = grind (arith, common_steps)

pub returns-clause-within_limit : goal.returns-clause-within_limit
returns-clause-within_limit c = grind (arith, common_steps)
