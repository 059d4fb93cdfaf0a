-- What is lawful of each item of a plan. This project's own.
use Rattle.std.specs.Prelude.{ℕ, ◌-◌, ◌*◌, ◌%◌, Bool, true, ◌==◌, ◌&&◌, nat_le, List, [], ◌∷◌, length, drop, sum, slice_get}
use Rattle.std.specs.List.{list_any, list_all, zip}
use Rattle.std.specs.Option.{option_map_or}
use Rattle.level_plan.specs.Limits.{greatest_amount, most_shares, whole_pool}
use Rattle.level_plan.specs.declared.plan.Blind.{Blind}

-- A number is from low to high, both included.
abbrev pub is_between : ℕ → ℕ → ℕ → Bool
is_between low high n = nat_le low n && nat_le n high

-- A new unit is the one before times one of the whole numbers 1 to 6.
abbrev pub is_next_unit : ℕ → ℕ → Bool
is_next_unit before unit = list_any (λ times. unit == before * times) (1 ∷ 2 ∷ 3 ∷ 4 ∷ 5 ∷ 6 ∷ [])

-- The unit is at least 1, the small blind at least 1 and at most the big one, the big one and the ante at most the
-- greatest amount, and all three are multiples of the unit.
abbrev pub is_blind : Blind → Bool
is_blind blind =
    nat_le 1 blind.unit
    && (nat_le 1 blind.small
    && (nat_le blind.small blind.big
    && (nat_le blind.big greatest_amount
    && (blind.small % blind.unit == 0
    && (blind.big % blind.unit == 0
    && (nat_le blind.ante greatest_amount && blind.ante % blind.unit == 0))))))

-- The first level may have any unit, and each later one has a unit that may come next after that of the last level
-- before it.
abbrev pub may_follow : List Blind → Blind → Bool
may_follow blinds blind =
    option_map_or (λ before. is_next_unit before.unit blind.unit) (slice_get blinds (length blinds - 1)) true

-- No number is greater than the one before it.
abbrev pub is_falling : List ℕ → Bool
is_falling numbers = list_all (λ pair. nat_le pair.1 pair.0) (zip numbers (drop 1 numbers))

-- 1 to 64 shares, each 1 to 1000, none greater than the one before, and together at most 1000.
abbrev pub are_shares : List ℕ → Bool
are_shares shares = is_between 1 most_shares (length shares)
    && (list_all (is_between 1 whole_pool) shares && (is_falling shares && nat_le (sum shares) whole_pool))

-- Levels in a row: the blinds of each are lawful, and its unit may come next after that of the level before.
abbrev pub are_levels : List Blind → Bool
are_levels [] = true
are_levels (first ∷ []) = is_blind first
are_levels (first ∷ second ∷ more) =
    is_blind first && (is_next_unit first.unit second.unit && are_levels (second ∷ more))
