-- The prizes by place. This project's own: shares of the pool in thousandths, rounded down, and what is left goes to
-- the first place.
use Rattle.std.specs.Prelude.{ℕ, ◌+◌, ◌-◌, ◌*◌, ◌/◌, ◌%◌, nat_lt, if◌then◌else◌, List, [], ◌∷◌, take, drop, map, sum}

-- The pool is a buy-in for each entry and for each re-entry.
abbrev pub pool_of : ℕ → ℕ → ℕ → ℕ
pool_of entries reentries buyin = (entries + reentries) * buyin

-- A share is so many thousandths of the pool, rounded down.
abbrev pub part_of : ℕ → ℕ → ℕ
part_of pool share = pool * share / 1000

-- There is a prize for each place up to the number of entries and of shares.
abbrev pub parts : ℕ → ℕ → List ℕ → List ℕ
parts entries pool shares = map (part_of pool) (take entries shares)

-- The first place also gets what is left of the pool.
abbrev pub first_gets : ℕ → List ℕ → List ℕ
first_gets left [] = []
first_gets left (first ∷ others) = (first + left) ∷ others

-- The prizes of the places of a pool, from the first on. Later places have none.
unfoldable pub prizes_of : ℕ → ℕ → List ℕ → List ℕ
prizes_of entries pool shares = first_gets (pool - sum (parts entries pool shares)) (parts entries pool shares)

-- The prizes of so many places together, from this place on.
abbrev pub prizes_together : List ℕ → ℕ → ℕ → ℕ
prizes_together prizes place count = sum (take count (drop (place - 1) prizes))

-- Players who tie share the prizes of their places equally, rounded down, and the chips of money that are left go one
-- each to the earliest entries among them.
abbrev pub equal_share : ℕ → ℕ → ℕ → ℕ
equal_share together players before = together / players + (if nat_lt before (together % players) then 1 else 0)
