-- A row that was drawn is the one by the rule.
use Rattle.std.proofs.Common.{◌≡◌, ℕ, List}
use Rattle.card_set.specs.declared.card.CardRow.{CardRow}
use Rattle.card_set.proofs.CardLaws.{same_row}
use Rattle.floor_director.specs.DrawnDecks.{deck_drawn}
use Rattle.simulation_rules.specs.Steps.{row_drawn}

-- It has these cards.
pub row-is_drawn : (row : CardRow) (seed : List ℕ) (number : ℕ) → row.cards ≡ deck_drawn seed number
    → row ≡ row_drawn seed number
row-is_drawn row seed number drawn = same_row row (row_drawn seed number) drawn
