-- How long a simulated tournament may be. This project's own.
use Rattle.std.specs.Prelude.{ℕ}

-- A simulated tournament has at most 20,000 hands.
abbrev pub most_hands : ℕ
most_hands = 20000

-- After each tenth round the next level comes.
abbrev pub rounds_of_level : ℕ
rounds_of_level = 10
