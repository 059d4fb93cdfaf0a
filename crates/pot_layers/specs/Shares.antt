-- What each of several winners gets of a pot. The Poker TDA Rules: the odd chip goes to the first winner to the left of
-- the button, and in high-low games to the high side. This project's own: a pot is cut into units, and each unit that
-- is left over goes to the next winner.
use Rattle.std.specs.Prelude.{ℕ, zero, suc, ◌+◌, ◌*◌, ◌/◌, ◌%◌, ◌==◌, if◌then◌else◌}

-- Units go round among the winners, one each, the first winner first: how many of the first so many units the winner at
-- this index gets.
unfoldable pub units_to : ℕ → ℕ → ℕ → ℕ
units_to winners index zero = 0
units_to winners index (suc dealt) = units_to winners index dealt + (if dealt % winners == index then 1 else 0)

-- The share of the winner at this index: the units of the pot that come to him.
abbrev pub share_of : ℕ → ℕ → ℕ → ℕ → ℕ
share_of amount unit winners index = unit * units_to winners index (amount / unit)

-- In a split between high and low the units go to high and low in turn, high first: the high half is the greater in
-- units.
abbrev pub high_half : ℕ → ℕ → ℕ
high_half amount unit = share_of amount unit 2 0

-- The low half is the rest of the units.
abbrev pub low_half : ℕ → ℕ → ℕ
low_half amount unit = share_of amount unit 2 1

-- The sum of what a function gives at each index below a number.
abbrev pub sum_below : (ℕ → ℕ) → ℕ → ℕ
sum_below f zero = 0
sum_below f (suc n) = sum_below f n + f n
