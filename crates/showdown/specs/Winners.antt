-- Who wins a pot. Robert's Rules of Poker: the best high hand takes the high side, the best qualifying low hand the low
-- side.
use Rattle.std.specs.Prelude.{ℕ, Bool, true, false, not, ◌&&◌, if◌then◌else◌, List, [], ◌∷◌, map, Option, Some, None, is_some}
use Rattle.std.specs.List.{list_any}
use Rattle.std.specs.Option.{option_map_or}
use Rattle.std.specs.Ordering.{nat_cmp, is_lt, is_gt}
use Rattle.std.specs.Cmp.Lexicographic.{slice_cmp}
use Rattle.showdown.specs.declared.hand.Hand.{Hand}
use Rattle.showdown.specs.declared.hand.Side.{Side}
use Rattle.showdown.specs.declared.hand.Side.TheVariants.{High, Low}

-- A low is better than another where it is the lesser list, and than none.
abbrev pub is_better_low : Option (List ℕ) → Option (List ℕ) → Bool
is_better_low None other = false
is_better_low (Some low) None = true
is_better_low (Some low) (Some other) = is_lt (slice_cmp nat_cmp low other)

-- A hand beats another: on the high side with the greater value, on the low side with the better low.
abbrev pub beats : Side → Hand → Hand → Bool
beats High hand other = is_gt (slice_cmp nat_cmp hand.high other.high)
beats Low hand other = is_better_low hand.low other.low

-- A hand takes part on the high side always, and on the low side where it has a low.
abbrev pub contends : Side → Hand → Bool
contends High hand = true
contends Low hand = is_some hand.low

-- The hands of those who are eligible, by seat.
abbrev pub in_play : List Bool → List (Option Hand) → List (Option Hand)
in_play eligible [] = []
in_play [] (hand ∷ hands) = None ∷ in_play [] hands
in_play (is_in ∷ more) (hand ∷ hands) = (if is_in then hand else None) ∷ in_play more hands

-- Some hand in play beats this one.
abbrev pub is_beaten : Side → List (Option Hand) → Hand → Bool
is_beaten side hands hand = list_any (λ other. option_map_or (λ rival. beats side rival hand) other false) hands

-- A hand in play wins a side where it takes part and no other beats it.
abbrev pub wins : Side → List (Option Hand) → Option Hand → Bool
wins side hands hand = option_map_or (λ own. contends side own && not (is_beaten side hands own)) hand false

-- The winners of a side, as a set of seats.
unfoldable pub winners : Side → List (Option Hand) → List Bool
winners side hands = map (wins side hands) hands
