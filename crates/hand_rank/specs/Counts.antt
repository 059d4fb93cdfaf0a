-- How often ranks occur, as tables and as sets. This project's own.
use Rattle.std.specs.Prelude.{◌≡◌, ℕ, ◌<◌, List, length, slice_index}
use Rattle.card_set.specs.declared.card.Card.{Card}
use Rattle.hand_rank.specs.Sets.{ranks_of}
use Rattle.hand_rank.specs.Values.{count_of_rank, ranks_that_occur}

-- a table of 15 numbers has at each rank how often it occurs
pub record AreCountsOf (counts : List ℕ) (cards : List Card) : Type 0 where
  pub size : length counts ≡ 15
  pub at : (rank : ℕ) → rank < 15 → slice_index counts rank ≡ count_of_rank cards rank

-- four sets have the ranks that occur four times, three times, twice and once
pub record AreKindsOf (four three two one : ℕ) (cards : List Card) : Type 0 where
  pub of_four : ranks_of four ≡ ranks_that_occur cards 4
  pub of_three : ranks_of three ≡ ranks_that_occur cards 3
  pub of_two : ranks_of two ≡ ranks_that_occur cards 2
  pub of_one : ranks_of one ≡ ranks_that_occur cards 1
