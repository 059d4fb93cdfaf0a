-- How much may be bet or raised to.
use Rattle.std.specs.Prelude.{ℕ, ◌+◌, ◌-◌, ◌<◌, ◌^◌, Bool, not, ◌||◌, nat_le}
use Rattle.betting_round.specs.declared.facing.Facing.{Facing}

-- The chips that a player faces are few enough that no sum of them reaches the end of its type.
pub record AreFewChips (facing : Facing) : Type 0 where
  pub level : facing.level < 2 ^ 60
  pub full : facing.full < 2 ^ 60
  pub pot : facing.pot < 2 ^ 60
  pub stack : facing.put + facing.behind < 2 ^ 60

-- A structure of betting: by what a player faces, the least and the most that may be bet or raised to, and whether he
-- may raise.
pub record Limits : Type 0 where
  pub least : Facing → ℕ
  pub most : Facing → ℕ
  pub reopened : Facing → Bool

-- The Poker TDA Rules: a raise adds at least the greatest bet or raise of the street, and a player who has acted may
-- raise again only where the bet level has risen by a full raise since, by one bet or by several.
abbrev pub is_reopened : Facing → Bool
is_reopened facing = not facing.acted || nat_le facing.full (facing.level - facing.put)

-- No-limit: a player may bet all that he has.
abbrev pub no_limit : Limits
no_limit = record {
  least = λ facing. facing.level + facing.full;
  most = λ facing. facing.put + facing.behind;
  reopened = is_reopened;
}

-- Pot-limit: a player may raise by what the pot holds once he has called.
abbrev pub pot_limit : Limits
pot_limit = record {
  least = λ facing. facing.level + facing.full;
  most = λ facing. facing.level + facing.pot + (facing.level - facing.put);
  reopened = is_reopened;
}
