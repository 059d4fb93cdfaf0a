-- Low hands, eight or better (Robert's Rules of Poker, Omaha high-low).
use Rattle.std.specs.Prelude.{ℕ, Bool, true, ◌&&◌, ◌==◌, not, nat_le, if◌then◌else◌, List, [], ◌∷◌, map, filter, Option, Some, None}
use Rattle.std.specs.List.{list_all, list_any}
use Rattle.std.specs.Ordering.{nat_cmp, ord_min}
use Rattle.std.specs.Cmp.Lexicographic.{slice_cmp}
use Rattle.card_set.specs.declared.card.Card.{Card}

-- the rank of a card in a low hand: the ace counts as 1
abbrev pub low_rank : Card → ℕ
low_rank card = if card.rank == 14 then 1 else card.rank

-- whether each rank differs from each later one
abbrev pub are_different : List ℕ → Bool
are_different [] = true
are_different (first ∷ others) = not (list_any (λ other. other == first) others) && are_different others

-- the ranks of low hands, from the eight down to the ace
abbrev pub low_ranks_down : List ℕ
low_ranks_down = 8 ∷ 7 ∷ 6 ∷ 5 ∷ 4 ∷ 3 ∷ 2 ∷ 1 ∷ []

-- the low ranks among some ranks, in falling order
unfoldable pub in_falling_order : List ℕ → List ℕ
in_falling_order ranks = filter (λ rank. list_any (λ other. other == rank) ranks) low_ranks_down

-- five cards qualify where their ranks differ and none is above eight, and their value is then their ranks in falling
-- order; straights and flushes do not count against them
unfoldable pub low_value : List Card → Option (List ℕ)
low_value cards =
    let ranks = map low_rank cards in
    if are_different ranks && list_all (λ rank. nat_le rank 8) ranks then Some (in_falling_order ranks) else None

-- the better of two lows is the lesser list, and one that qualifies is better than none
abbrev pub better_low : Option (List ℕ) → Option (List ℕ) → Option (List ℕ)
better_low None other = other
better_low (Some one) None = Some one
better_low (Some one) (Some other) = Some (ord_min (slice_cmp nat_cmp) one other)

-- the best low over the choices that are permitted: the least list of those that qualify, or none
unfoldable pub best_low_of : List (List Card) → Option (List ℕ)
best_low_of [] = None
best_low_of (cards ∷ choices) = better_low (low_value cards) (best_low_of choices)
