-- The numbers of a lock's passes and words. This project's own.
use Rattle.std.specs.Prelude.{ℕ}

-- A lock has at most 256 passes.
abbrev pub most_passes : ℕ
most_passes = 256

-- A lock has 20 words: two tickets, a count, a bell for those who await news, and 16 for those who wait for their
-- tickets.
abbrev pub word_count : ℕ
word_count = 20

-- The bells begin behind the two tickets and the count.
abbrev pub first_bell : ℕ
first_bell = 3

-- An entry that stood in the history before the lock was made has 4,294,967,295, the last of 32 bits, for its caller's
-- number.
abbrev pub opener : ℕ
opener = 4294967295
