use Rattle.std.proofs.Common.{sym, ap, ◌∙◌}
use Rattle.std.specs.Option.{option_copied}
use Rattle.line_words.specs.Words.{pieces_of_rest}
use Rattle.line_words.proofs.WordSplits.{first_word, last_word}
use Rattle.line_words.proofs.words.LineWords.next_word.Goals as goal

pub returns-in-Some : goal.returns-in-Some
returns-in-Some c =
    sym c.self.view_is ∙ ap (λ r. pieces_of_rest c.self.inside.between (option_copied r)) c.in_ok-rest.was
    ∙ first_word c.self.inside.between c.in_ok-rest.rest.now c.in-Some.end c.in-Some.ensures

pub returns-in-None : goal.returns-in-None
returns-in-None c =
    sym c.self.view_is ∙ ap (λ r. pieces_of_rest c.self.inside.between (option_copied r)) c.in_ok-rest.was
    ∙ last_word c.self.inside.between c.in_ok-rest.rest.now c.in-None.ensures
