-- The best of some lows.
use Rattle.std.proofs.Common.{◌≡◌, ℕ, List, [], ◌∷◌, ◌++◌, refl, sym, ap, ◌∙◌}
use Rattle.std.specs.Prelude.{map, Option, Some, None}
use Rattle.card_set.specs.declared.card.Card.{Card}
use Rattle.card_choices.specs.Choices.{choices, omaha_choices}
use Rattle.card_choices.proofs.Combined.{combined, combined-same, combined-map, combined-flat_map, IsCombining}
use Rattle.card_choices.proofs.ListOrder.{Upto, upto_both, min_assoc, min_upper, min-within, min-below_left, min-below_right}
use Rattle.low_rank.specs.Lows.{low_value, better_low, best_low_of}

-- which of three lows are compared first is the same
better_assoc : (one two three : Option (List ℕ))
    → better_low (better_low one two) three ≡ better_low one (better_low two three)
better_assoc None two three = refl
better_assoc (Some one) None three = refl
better_assoc (Some one) (Some two) None = refl
better_assoc (Some one) (Some two) (Some three) = ap Some (min_assoc one two three)

-- the order of lows does not count for the best of them
better-turned : (one other : Option (List ℕ)) → better_low one other ≡ better_low other one
better-turned None None = refl
better-turned None (Some other) = refl
better-turned (Some one) None = refl
better-turned (Some one) (Some other) =
    ap Some (upto_both _ _
    (min-within other one _ (min-below_right one other) (min-below_left one other))
    (min-within one other _ (min-below_right other one) (min-below_left other one)))

pub better-combining : IsCombining better_low None
better-combining = record { assoc = better_assoc; comm = better-turned; start = λ low. refl }

-- a low is no worse than another: it is the better of the two
abbrev pub IsNoWorse : Option (List ℕ) → Option (List ℕ) → Type 0
IsNoWorse one other = better_low one other ≡ one

-- any low is no worse than none
pub no_worse-none : (low : Option (List ℕ)) → IsNoWorse low None
no_worse-none low = better-turned low None

-- a list that comes no later is no worse
pub no_worse-upto : (one other : List ℕ) → Upto one other → IsNoWorse (Some one) (Some other)
no_worse-upto one other is = ap Some (min_upper one other is)

-- a low that is no worse than each of two is no worse than the better of them
pub no_worse-both : (low one other : Option (List ℕ)) → IsNoWorse low one → IsNoWorse low other
    → IsNoWorse low (better_low one other)
no_worse-both low one other first second =
    sym (better_assoc low one other) ∙ ap (λ best. better_low best other) first ∙ second

-- the better of two lows is no worse than what one of them is no worse than
pub no_worse-left : (one other low : Option (List ℕ)) → IsNoWorse one low → IsNoWorse (better_low one other) low
no_worse-left one other low first =
    better_assoc one other low
    ∙ ap (better_low one) (better-turned other low)
    ∙ sym (better_assoc one low other)
    ∙ ap (λ best. better_low best other) first

pub no_worse-right : (one other low : Option (List ℕ)) → IsNoWorse other low → IsNoWorse (better_low one other) low
no_worse-right one other low second = better_assoc one other low ∙ ap (better_low one) second

-- two lows that are no worse than each other are the same
pub no_worse-same : (one other : Option (List ℕ)) → IsNoWorse one other → IsNoWorse other one → one ≡ other
no_worse-same one other first second = sym first ∙ better-turned one other ∙ second

-- the best low over all choices of some cards, by a value of them
abbrev pub best_by : (List Card → Option (List ℕ)) → List (List Card) → Option (List ℕ)
best_by value hands = combined better_low None value hands

best_low_of-by : (hands : List (List Card)) → best_low_of hands ≡ best_by low_value hands
unfolding best_low_of
best_low_of-by [] = refl
best_low_of-by (cards ∷ hands) = ap (better_low (low_value cards)) (best_low_of-by hands)

-- the best low in Omaha is the best over the pairs of the hole of the best over the threes of the board
pub best-omaha : (hole board : List Card) → best_low_of (omaha_choices hole board)
    ≡ best_by (λ pair. best_by (λ three. low_value (pair ++ three)) (choices 3 board)) (choices 2 hole)
best-omaha hole board =
    best_low_of-by (omaha_choices hole board)
    ∙ combined-flat_map better_low None better-combining low_value
    (λ pair. map (λ three. pair ++ three) (choices 3 board)) (choices 2 hole)
    ∙ combined-same better_low None (λ pair. best_by low_value (map (λ three. pair ++ three) (choices 3 board)))
    (λ pair. best_by (λ three. low_value (pair ++ three)) (choices 3 board)) (choices 2 hole)
    (λ pair. combined-map better_low None low_value (λ three. pair ++ three) (choices 3 board))
