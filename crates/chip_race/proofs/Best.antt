-- The best cards of the players, one player after another.
use Rattle.std.proofs.Common.{◌≡◌, ◌∙◌, ap, sym, ℕ, ◌+◌, ◌*◌, ◌/◌, ◌%◌, ◌<◌, ◌≤◌, List, [], ◌∷◌, ◌++◌, length, take, drop, get_or, set, arith, append_assoc, add-one, drop-cons}
use Rattle.std.specs.Prelude.{Option}
use Rattle.std.proofs.lemmas.List.{take_more_set}
use Rattle.card_set.specs.declared.card.Card.{Card}
use Rattle.chip_race.specs.Races.{odd_chips}
use Rattle.chip_race.specs.BestCards.{highest, best_cards}

-- A player has at most five odd chips.
pub odd_chips-le : (old new stack : ℕ) → 1 ≤ old → new ≤ 6 * old → 1 ≤ new → stack % new / old ≤ 5
odd_chips-le old new stack unit most some = grind arith

-- The next player's best card is looked at.
pub best-more : (old new : ℕ) (stacks : List ℕ) (left : List Card) (best whole : List (Option Card)) (index : ℕ)
    → index < length stacks → index < length best
    → whole ≡ take index best ++ best_cards old new (drop index stacks) left
    → whole ≡ take (index + 1) (set best index (highest (take (odd_chips old new (get_or stacks index 0)) left)))
    ++ best_cards old new (drop (index + 1) stacks) (drop (odd_chips old new (get_or stacks index 0)) left)
unfolding best_cards
best-more old new stacks left best whole index within room so_far =
    so_far
    ∙ ap (λ behind. take index best ++ best_cards old new behind left) (drop-cons stacks index 0 within
    ∙ ap (λ n. get_or stacks index 0 ∷ drop n stacks) (sym (add-one index)))
    ∙ sym (append_assoc (take index best) (highest (take (odd_chips old new (get_or stacks index 0)) left) ∷ [])
    (best_cards old new (drop (index + 1) stacks) (drop (odd_chips old new (get_or stacks index 0)) left)))
    ∙ ap (λ front. front ++ best_cards old new (drop (index + 1) stacks)
    (drop (odd_chips old new (get_or stacks index 0)) left))
    (sym (take_more_set best index (highest (take (odd_chips old new (get_or stacks index 0)) left)) room))
