-- The order in which players who are out are placed.
use Rattle.std.specs.Prelude.{◌≡◌, ℕ, ◌<◌, nat_lt, Bool, true, ◌&&◌, ◌||◌, List, length}
use Rattle.std.specs.List.{slice_index_or}
use Rattle.place_list.specs.declared.bust.Bust.{Bust}
use Rattle.place_list.specs.Places.{is_ahead, ties}

-- One player is placed before another: he is ahead, or they tie and he entered earlier.
abbrev pub is_placed_before : Bust → Bust → Bool
is_placed_before one other = is_ahead one other || (ties one other && nat_lt one.player other.player)

-- Each player is placed before all that are behind him.
pub record Placed (busts : List Bust) : Type 0 where
  pub before : (i j : ℕ) (d : Bust) → i < j → j < length busts → is_placed_before (slice_index_or busts i d)
      (slice_index_or busts j d) ≡ true
