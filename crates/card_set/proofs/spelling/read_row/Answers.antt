use Rattle.std.proofs.Common.{◌≡◌, Some, None, ap}
use Rattle.card_set.proofs.CardLaws.{same_row}
use Rattle.card_set.proofs.RowReading.{reads_row}
use Rattle.card_set.proofs.spelling.read_row.Goals as goal

pub returns-in_err-cards-clause-exact : goal.returns-in_err-cards-clause-exact
returns-in_err-cards-clause-exact c = reads_row c.args.bytes.now c.from_residual.result (rw c.from_residual.ensures tt)
    (λ row spelled.
    let none : None ≡ Some row.cards = c.in_err-cards.ensures.only row.cards row.whole spelled in
    cc)

pub returns-clause-only : goal.returns-clause-only
returns-clause-only c = λ row spelled.
    let same : Some c.in_ok-cards.cards ≡ Some row.cards = c.in_ok-cards.ensures.only row.cards row.whole spelled in
    ap Some (same_row _ row (cc))

pub returns-clause-exact : goal.returns-clause-exact
returns-clause-exact c = reads_row c.args.bytes.now _ c.in_ok-cards.ensures.found (returns-clause-only c)
