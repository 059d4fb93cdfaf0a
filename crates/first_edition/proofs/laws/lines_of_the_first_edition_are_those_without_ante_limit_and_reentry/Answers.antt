use Rattle.first_edition.proofs.Rows.{first_items}
use Rattle.first_edition.proofs.laws.lines_of_the_first_edition_are_those_without_ante_limit_and_reentry.Goals as goal

pub returns : goal.returns
returns c = first_items
