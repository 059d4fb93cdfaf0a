-- Low ranks by tests, and sets of them as bits: how many there are below a rank, and which are the least. This
-- project's own.
use Rattle.std.specs.Prelude.{ℕ, zero, suc, ◌+◌, ◌-◌, ◌==◌, nat_le, nat_lt, Bool, ◌&&◌, ◌||◌, not, cond, if◌then◌else◌, List, [], ◌∷◌, map, Option, Some, None, bit_and}
use Rattle.std.specs.Int.{bit_at, trailing_zeros, w16}
use Rattle.std.specs.List.{list_any}
use Rattle.card_set.specs.declared.card.Card.{Card}
use Rattle.low_rank.specs.Lows.{low_rank}

-- whether a rank is in a set: the bit of its number is 1
abbrev pub has_rank : ℕ → ℕ → Bool
has_rank bits rank = bit_at bits rank == 1

-- whether some card is of this low rank
abbrev pub has_low : List Card → ℕ → Bool
has_low cards rank = list_any (λ other. other == rank) (map low_rank cards)

-- how many ranks below one pass a test
unfoldable pub count_below : (ℕ → Bool) → ℕ → ℕ
count_below test zero = 0
count_below test (suc rank) = count_below test rank + cond (test rank) 1 0

-- whether a rank is among the least so many that pass a test: it passes, and fewer ranks below it do
unfoldable pub least : ℕ → (ℕ → Bool) → ℕ → Bool
least count test rank = test rank && nat_lt (count_below test rank) count

-- the ranks below one that pass a test, from the highest down
unfoldable pub falling : (ℕ → Bool) → ℕ → List ℕ
falling test zero = []
falling test (suc rank) = cond (test rank) (rank ∷ falling test rank) (falling test rank)

-- the five least of the ranks up to eight that pass a test, in falling order, if there are five
unfoldable pub five_least : (ℕ → Bool) → Option (List ℕ)
five_least test = if nat_le 5 (count_below test 9) then Some (falling (least 5 test) 9) else None

-- the ranks that pass one test and not another
abbrev pub alone : (ℕ → Bool) → (ℕ → Bool) → ℕ → Bool
alone mine others rank = mine rank && not (others rank)

-- the ranks that a low can be of, by those of the hole and of the board: the two least of the hole alone, the three
-- least of the board alone, and those of both
unfoldable pub shown : (ℕ → Bool) → (ℕ → Bool) → ℕ → Bool
shown hole board rank =
    least 2 (alone hole board) rank || least 3 (alone board hole) rank || (hole rank && board rank)

-- a set without its least rank
abbrev pub without_one : ℕ → ℕ
without_one bits = bit_and bits (bits - 1)

-- a set without its least ranks, so many of them
unfoldable pub without_least : ℕ → ℕ → ℕ
without_least zero bits = bits
without_least (suc count) bits = without_one (without_least count bits)

-- the least rank of those above so many
abbrev pub rank_above : ℕ → ℕ → ℕ
rank_above lower bits = trailing_zeros w16 (without_least lower bits)
