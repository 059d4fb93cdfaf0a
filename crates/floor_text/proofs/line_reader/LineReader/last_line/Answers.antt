use Rattle.std.proofs.Common.{Ok, List, ℕ, [], ◌∷◌, length, sym, ap, ◌∙◌, arith}
use Rattle.std.proofs.lemmas.Grind.{common_steps}
use Rattle.std.proofs.lemmas.List.{take_all}
use Rattle.floor_text.specs.LineReader.{lines_of_next}
use Rattle.floor_text.specs.Lines.{cut_line}
use Rattle.floor_text.specs.Reading.{Reading}
use Rattle.floor_text.proofs.CutLines.{handed_at_end, lines_of_none}
use Rattle.floor_text.proofs.line_reader.LineReader.last_line.Goals as goal

pub returns-then-line-eq0-clause-line : goal.returns-then-line-eq0-clause-line
returns-then-line-eq0-clause-line c =
    let held = ap (λ (r : Reading). length r.held) c.self.view_is in
    sym (lines_of_none c.args.self.now.held (omega arith))

pub returns-clause-line : goal.returns-clause-line
returns-clause-line c =
    let held = ap (λ (r : Reading). length r.held) c.self.view_is in
    let line = ap (λ (r : Reading). r.line) c.self-2.view_is in
    ap (lines_of_next (Ok c.hand_out-next.result)) line
    ∙ sym (handed_at_end c.args.self.now.held _ c.requires.no_feed (omega arith) (c.hand_out-next.ensures.line
    ∙ ap (λ (xs : List ℕ). cut_line xs ∷ []) (take_all c.len-line.result c.args.self.now.held (omega arith))))

pub invariant_of-self-2 : goal.invariant_of-self-2
invariant_of-self-2 c = grind (arith, common_steps)

pub returns-clause-held : goal.returns-clause-held
returns-clause-held c = grind (arith, common_steps)

pub returns-then-line-eq0-clause-held : goal.returns-then-line-eq0-clause-held
returns-then-line-eq0-clause-held c = grind (arith, common_steps)
