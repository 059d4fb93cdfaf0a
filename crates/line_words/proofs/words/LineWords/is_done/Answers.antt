use Rattle.std.proofs.Common.{ap, ◌∙◌}
use Rattle.line_words.specs.Words.{no_word}
use Rattle.line_words.proofs.WordSplits.{done_is}
use Rattle.line_words.proofs.words.LineWords.is_done.Goals as goal

pub returns : goal.returns
returns c =
    done_is c.self.inside.between c.self.inside.rest c.is_none.result c.is_none.ensures ∙ ap no_word c.self.view_is
