use Rattle.std.proofs.Common.{◌≡◌, rules}
use Rattle.std.specs.Prelude.{Some}
use Rattle.line_tellers.proofs.answers.AnswerTeller.keep.Goals as goal

pub returns-then-eq : goal.returns-then-eq
returns-then-eq c =
    let same : c.self.inside.answer ≡ Some c.args.answer.now = search rules in
    c.self.invariant c.args.answer.now same
