use Rattle.std.proofs.Common.{sym, subst}
use Rattle.session_lines.specs.declared.meaning.Meaning.{Meaning}
use Rattle.session_desk.specs.Turns.{MayMean}
use Rattle.session_desk.proofs.Meant.{may-mean}
use Rattle.session_desk.proofs.turn.meaning_of.Goals as goal

pub returns-clause-lawful : goal.returns-clause-lawful
returns-clause-lawful c =
    subst (λ (m : Meaning). MayMean c.args.told.now.speaker m) (sym c.read_line.ensures)
    (may-mean c.args.words.now c.args.told.now.speaker _)
