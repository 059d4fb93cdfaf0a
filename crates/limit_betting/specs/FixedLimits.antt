-- Fixed limit: each bet and raise is of one bet. Robert's Rules of Poker: who has acted may raise again only where the
-- bet level has risen by at least half of a bet since. How many wagers a street may have is this project's own.
use Rattle.std.specs.Prelude.{ℕ, ◌+◌, ◌-◌, ◌*◌, not, ◌||◌, nat_le, nat_lt, if◌then◌else◌}
use Rattle.betting_round.specs.Limits.{Limits}

-- The limits of a street as it stands: its bet, the most wagers that it may have, and those that it has had.
pub record LimitTerms : Type 0 where
  pub bet : ℕ
  pub cap : ℕ
  pub wagers : ℕ

-- A bet or raise is of a full raise, and of one bet at most; where there are as many wagers as there may be, there is
-- none.
abbrev pub fixed_limit : LimitTerms → Limits
fixed_limit limit = record {
  least = λ facing. facing.level + facing.full;
  most = λ facing. if nat_lt limit.wagers limit.cap then facing.level + limit.bet else facing.level;
  reopened = λ facing. not facing.acted || nat_le limit.bet (2 * (facing.level - facing.put));
}

-- The bet of a street, of which 0 is the first: the big blind before the flop and on the flop, and twice the big blind
-- on the turn and the river.
abbrev pub bet_of : ℕ → ℕ → ℕ
bet_of big street = if nat_le street 1 then big else 2 * big
