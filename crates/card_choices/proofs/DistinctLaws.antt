-- Whether a card comes twice.
use Rattle.std.proofs.Common.{◌≡◌, Bool, true, false, not, List, refl, sym}
use Rattle.std.specs.Prelude.{IsTrue, ◌↔◌}
use Rattle.std.proofs.lemmas.Bool.{not-true}
use Rattle.card_set.specs.declared.card.Card.{Card}
use Rattle.card_set.specs.Decks.{repeats_a_card}
use Rattle.card_set.proofs.DeckLaws.{AllPairs-from_repeats_none, repeats_none-from_AllPairs}
use Rattle.card_choices.specs.Choices.{AreDistinct}

-- the test passes exactly where no card comes twice
pub distinct-from_test : (test : Bool) (cards : List Card) → test ≡ not (repeats_a_card cards)
    → IsTrue test ↔ AreDistinct cards
distinct-from_test true cards is =
    (λ passed. AllPairs-from_repeats_none cards (not-true (repeats_a_card cards) (sym is)), λ distinct. refl)
distinct-from_test false cards is =
    (λ passed. absurd cc, λ distinct. absurd (cc (is, repeats_none-from_AllPairs cards distinct)))
