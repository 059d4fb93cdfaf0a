use Rattle.std.proofs.Common.{◌≡◌, Some, None, ap, rules}
use Rattle.card_set.specs.Cards.{rank_letter, suit_letter}
use Rattle.card_set.proofs.CardLaws.{same_card}
use Rattle.card_set.proofs.RowReading.{reads_card}
use Rattle.card_set.proofs.spelling.read_card.Goals as goal

pub returns-clause-only : goal.returns-clause-only
returns-clause-only c = λ card spelled.
    let first : rank_letter card.rank ≡ c.args.a = cc in
    let second : suit_letter card.suit ≡ c.args.b = cc in
    let ranks : Some c.in_ok-rank.rank ≡ Some card.rank =
    c.in_ok-rank.ensures.only card.rank card.from_two card.up_to_ace first in
    let suits : Some c.in_ok-suit.suit ≡ Some card.suit = c.in_ok-suit.ensures.only card.suit card.one_of_four second in
    ap Some (same_card _ card (cc) (cc))

pub returns-in_err-rank-clause-exact : goal.returns-in_err-rank-clause-exact
returns-in_err-rank-clause-exact c = reads_card c.args.a c.args.b c.from_residual.result (rw c.from_residual.ensures tt)
    (λ card spelled.
    let first : rank_letter card.rank ≡ c.args.a = cc in
    let none : None ≡ Some card.rank = c.in_err-rank.ensures.only card.rank card.from_two card.up_to_ace first in
    cc)

pub returns-in_err-suit-clause-exact : goal.returns-in_err-suit-clause-exact
returns-in_err-suit-clause-exact c = reads_card c.args.a c.args.b c.from_residual-in_err-suit.result
    (rw c.from_residual-in_err-suit.ensures tt) (λ card spelled.
    let second : suit_letter card.suit ≡ c.args.b = cc in
    let none : None ≡ Some card.suit = c.in_err-suit.ensures.only card.suit card.one_of_four second in
    cc)

pub returns-clause-exact : goal.returns-clause-exact
returns-clause-exact c = reads_card c.args.a c.args.b _ (search rules) (returns-clause-only c)
