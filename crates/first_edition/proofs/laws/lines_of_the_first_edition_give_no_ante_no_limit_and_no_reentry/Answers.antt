use Rattle.first_edition.proofs.Same.{stream_first}
use Rattle.first_edition.proofs.laws.lines_of_the_first_edition_give_no_ante_no_limit_and_no_reentry.Goals as goal

pub returns : goal.returns
returns c = stream_first
