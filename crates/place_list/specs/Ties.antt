-- Ties in a list of players who are in the order of their places.
use Rattle.std.specs.Prelude.{◌≡◌, ℕ, suc, ◌+◌, ◌<◌, ◌≤◌, true, List, length}
use Rattle.std.specs.List.{slice_index_or}
use Rattle.place_list.specs.declared.bust.Bust.{Bust}
use Rattle.place_list.specs.declared.tie.Tie.{Tie}
use Rattle.place_list.specs.Places.{is_ahead, ties}

-- So many players from an index on tie; those before them are ahead, and those behind them are not.
pub record IsTie (busts : List Bust) (first players : ℕ) : Type 0 where
  pub some : 1 ≤ players
  pub within : first + players ≤ length busts
  pub ahead : (k : ℕ) (d : Bust) → k < first → is_ahead (slice_index_or busts k d) (slice_index_or busts first d) ≡ true
  pub level : (k : ℕ) (d : Bust) → first ≤ k → k < first + players → ties (slice_index_or busts k d)
      (slice_index_or busts first d) ≡ true
  pub behind : (k : ℕ) (d : Bust) → first + players ≤ k → k < length busts → is_ahead (slice_index_or busts first d)
      (slice_index_or busts k d) ≡ true

-- A tie that the player at an index is in.
pub record IsTieAt (busts : List Bust) (tie : Tie) (index : ℕ) : Type 0 where
  pub tie_is : IsTie busts tie.first tie.players
  pub low : tie.first ≤ index
  pub high : index < tie.first + tie.players

-- The tie of the player before an index, and no tie before the first player.
pub record IsTieBefore (busts : List Bust) (tie : Tie) (index : ℕ) : Type 0 where
  pub start : index ≡ 0 → tie.first + tie.players ≡ 0
  pub last : (before : ℕ) → suc before ≡ index → IsTieAt busts tie before
