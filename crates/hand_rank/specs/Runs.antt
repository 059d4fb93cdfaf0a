-- Runs of five ranks, with the ace also below the two (Robert's Rules of Poker, the ranking of hands).
use Rattle.std.specs.Prelude.{ℕ, ◌+◌, ◌-◌, Bool, ◌&&◌, ◌||◌, ◌==◌, nat_le, [], ◌∷◌, Option}
use Rattle.std.specs.List.{list_any}
use Rattle.hand_rank.specs.Picks.{highest_below}

-- whether a step of a run is held: each rank is one, and the ace is one below the two as well
abbrev pub holds_step : (ℕ → Bool) → ℕ → Bool
holds_step has step = has step || (step == 1 && has 14)

-- whether five ranks in a row, of which this is the greatest, are all held
abbrev pub is_run : (ℕ → Bool) → ℕ → Bool
is_run has top =
    holds_step has top && holds_step has (top - 1) && holds_step has (top - 2)
    && holds_step has (top - 3) && holds_step has (top - 4)

-- the top rank of the highest run, from five to the ace, if there is one
unfoldable pub highest_run : (ℕ → Bool) → Option ℕ
unfolding highest_below
highest_run has = highest_below (λ top. nat_le 5 top && is_run has top) 15

-- whether two ranks are in a run of five
abbrev pub is_in_run : ℕ → ℕ → Bool
is_in_run top rank =
    (nat_le 2 rank && nat_le rank top && nat_le top (rank + 4)) || (top == 5 && rank == 14)

-- whether a rank is in a run that another is in
unfoldable pub is_near : ℕ → ℕ → Bool
is_near rank other = list_any (λ top. is_in_run top rank && is_in_run top other)
    (5 ∷ 6 ∷ 7 ∷ 8 ∷ 9 ∷ 10 ∷ 11 ∷ 12 ∷ 13 ∷ 14 ∷ [])
