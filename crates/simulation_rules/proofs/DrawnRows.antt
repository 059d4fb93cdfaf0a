-- The row that is drawn repeats no card.
use Rattle.std.proofs.Common.{◌≡◌, ℕ, false, List}
use Rattle.card_set.specs.Decks.{repeats_a_card}
use Rattle.card_set.proofs.DeckLaws.{repeats_none-from_AllPairs}
use Rattle.floor_director.specs.DrawnDecks.{deck_drawn}
use Rattle.floor_director.proofs.DrawnDecks.{drawn-deck}
use Rattle.simulation_rules.specs.Steps.{row_drawn}

-- The row that is drawn repeats no card.
pub row-repeats_none : (seed : List ℕ) (number : ℕ) → repeats_a_card (row_drawn seed number).cards ≡ false
row-repeats_none seed number =
    repeats_none-from_AllPairs (deck_drawn seed number) (drawn-deck seed number).distinct
