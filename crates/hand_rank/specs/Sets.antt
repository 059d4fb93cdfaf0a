-- Sets of ranks as bits: a rank, from 2 to 14, is in the set where the bit of its number is 1. This project's own.
use Rattle.std.specs.Prelude.{◌≡◌, ℕ, zero, suc, ◌<◌, ◌≤◌, ◌⊎◌, ◌==◌, nat_le, Bool, cond, List, [], ◌∷◌}
use Rattle.std.specs.Int.{bit_at}
use Rattle.std.specs.List.{slice_index_or}
use Rattle.card_set.specs.declared.card.Card.{Card}
use Rattle.hand_rank.specs.declared.rank_set.RankSet.{RankSet}
use Rattle.hand_rank.specs.Cards.{count_of_suit}

-- whether a rank is in a set
abbrev pub has_rank : ℕ → ℕ → Bool
has_rank bits rank = bit_at bits rank == 1

-- the numbers below a bound that pass a test, from the highest down
unfoldable pub falling : (ℕ → Bool) → ℕ → List ℕ
falling test zero = []
falling test (suc n) = cond (test n) (n ∷ falling test n) (falling test n)

-- the ranks of a set, from the highest down
abbrev pub ranks_of : ℕ → List ℕ
ranks_of bits = falling (has_rank bits) 16

-- a set has the ranks that occur so often or more often
pub record HasRanks (bits often : ℕ) (count : ℕ → ℕ) : Type 0 where
  pub some : 1 ≤ often
  pub at : (rank : ℕ) → rank < 16 → has_rank bits rank ≡ nat_le often (count rank)
  pub only : (rank : ℕ) → (15 ≤ rank) ⊎ (rank < 2) → count rank ≡ 0

-- four sets have the ranks that occur once or more often, twice or more often, three times or more often, and four
-- times
pub record IsTallyOf (once twice thrice four : ℕ) (count : ℕ → ℕ) : Type 0 where
  pub of_once : HasRanks once 1 count
  pub of_twice : HasRanks twice 2 count
  pub of_thrice : HasRanks thrice 3 count
  pub of_four : HasRanks four 4 count

-- four sets have the ranks of the cards of each suit
abbrev pub AreSuitsOf : List RankSet → List Card → Type 0
AreSuitsOf sets cards = (suit rank : ℕ) (other : RankSet) → suit < 4
    → has_rank (slice_index_or sets suit other).bits rank ≡ nat_le 1 (count_of_suit cards suit rank)
