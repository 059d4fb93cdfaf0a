-- So many ranks of some, with others among them. This project's own.
use Rattle.std.specs.Prelude.{◌≡◌, ℕ, ◌<◌, ◌≤◌, Bool, true, length, Option, Some}
use Rattle.hand_rank.specs.declared.rank_set.RankSet.{RankSet}
use Rattle.hand_rank.specs.BestHigh.{greater}
use Rattle.hand_rank.specs.Sets.{has_rank, falling}

-- so many ranks below 16 of some, with all of others among them
pub record AreSoMany (from forced : ℕ → Bool) (count : ℕ) (ranks : ℕ → Bool) : Type 0 where
  pub within : (rank : ℕ) → rank < 16 → ranks rank ≡ true → from rank ≡ true
  pub among : (rank : ℕ) → rank < 16 → forced rank ≡ true → ranks rank ≡ true
  pub many : length (falling ranks 16) ≡ count

-- the greatest set of ranks that are as they have to be, and there is one if there can be
pub record IsGreatest (result : Option RankSet) (Are : (ℕ → Bool) → Type 0) : Type 0 where
  pub are : (set : RankSet) → result ≡ Some set → Are (has_rank set.bits)
  pub greatest : (set : RankSet) (ranks : ℕ → Bool) → result ≡ Some set → Are ranks
      → greater (falling ranks 16) (falling (has_rank set.bits) 16) ≡ falling (has_rank set.bits) 16
  pub some : (ranks : ℕ → Bool) → Are ranks → (set : RankSet) × (result ≡ Some set)

-- the greatest so many ranks of some, with all of others among them
pub record IsGreatestWith (result : Option RankSet) (from forced : ℕ → Bool) (count : ℕ) : Type 0 where
  pub is : IsGreatest result (AreSoMany from forced count)
  pub enough : ((rank : ℕ) → rank < 16 → forced rank ≡ true → from rank ≡ true)
      → length (falling forced 16) ≤ count → count ≤ length (falling from 16)
      → (set : RankSet) × (result ≡ Some set)
