-- The bounds of a plan's items. This project's own.
use Rattle.std.specs.Prelude.{ℕ}

-- A table has at least 2 seats.
abbrev pub fewest_seats : ℕ
fewest_seats = 2

-- A stack, a buy-in, a blind, an ante and a unit are each at most 1,000,000,000 chips.
abbrev pub greatest_amount : ℕ
greatest_amount = 1000000000

-- A plan has at most 40 levels.
abbrev pub most_levels : ℕ
most_levels = 40

-- A plan of fixed limit names at most 9 wagers of a street.
abbrev pub most_wagers : ℕ
most_wagers = 9

-- The prizes have at most 64 shares.
abbrev pub most_shares : ℕ
most_shares = 64

-- A share is told in thousandths of the pool, so the whole pool is 1000 of them.
abbrev pub whole_pool : ℕ
whole_pool = 1000
