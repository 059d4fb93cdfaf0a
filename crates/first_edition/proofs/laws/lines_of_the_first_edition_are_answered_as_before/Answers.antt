use Rattle.first_edition.proofs.Same.{text_same}
use Rattle.first_edition.proofs.laws.lines_of_the_first_edition_are_answered_as_before.Goals as goal

pub returns : goal.returns
returns c = text_same
