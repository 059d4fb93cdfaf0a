-- Which acts are refused on a street as it stands.
use Rattle.std.specs.Prelude.{◌≡◌, ℕ, ◌+◌, ◌%◌, Bool, false, not, ◌==◌, ◌&&◌, nat_lt, List, [], ◌∷◌, ◌++◌, Option, None, is_none}
use Rattle.std.specs.Option.{option_map_or}
use Rattle.floor_text.specs.declared.refusal.Refusal.{Refusal}
use Rattle.floor_text.specs.declared.refusal.Refusal.TheVariants.{NotTurn, HandOver, CheckFacing, NothingToCall, BetFacing, NothingToRaise, TooSmall, PastStack, PastPot, NotReopened, NotUnit}
use Rattle.rulebook.specs.Checks.{first_that_holds}
use Rattle.betting_round.specs.declared.act.Act.{Act}
use Rattle.betting_round.specs.declared.act.Act.TheVariants.{Fold, Check, Call, AllIn, Bet, Raise}
use Rattle.betting_round.specs.declared.bettor.Player.{Player}
use Rattle.betting_round.specs.declared.facing.Facing.{Facing}
use Rattle.betting_round.specs.declared.street.Street.{Street}
use Rattle.betting_round.specs.Limits.{Limits}
use Rattle.betting_round.specs.WhoIsDue.{player_in, due_seat}

-- What a player faces. Where nobody sits, nothing is put in and nothing behind.
abbrev pub facing_in : Street → ℕ → Facing
facing_in street seat = record {
  level = street.level;
  full = street.full;
  put = option_map_or (λ (player : Player). player.bettor.put) (player_in street.players seat) 0;
  behind = option_map_or (λ (player : Player). player.bettor.behind) (player_in street.players seat) 0;
  pot = street.pot;
  acted = option_map_or (λ (player : Player). player.acted) (player_in street.players seat) false;
}

-- It is this seat's turn: neither is another due, nor nobody.
abbrev pub turn_checks : Street → ℕ → List (Refusal × Bool)
turn_checks street seat =
    (NotTurn, option_map_or (λ due. not (due == seat)) (due_seat street) false) ∷
    (HandOver, is_none (due_seat street)) ∷ []

-- A bet: nobody has bet, it is no less than the least unless it is all that he has, no more than he has, no more than
-- the most, and a multiple of the unit.
abbrev pub bet_checks : Limits → ℕ → Facing → ℕ → List (Refusal × Bool)
bet_checks limits unit facing n =
    (BetFacing, nat_lt 0 facing.level) ∷
    (TooSmall, nat_lt n (limits.least facing) && not (n == facing.behind)) ∷
    (PastStack, nat_lt facing.behind n) ∷
    (PastPot, nat_lt (limits.most facing) n) ∷
    (NotUnit, not (n % unit == 0)) ∷ []

-- A raise: somebody has bet, it is no less than the least unless it is all that he has and above the level, no more
-- than he has, no more than the most, the betting is open to him, and it is a multiple of the unit.
abbrev pub raise_checks : Limits → ℕ → Facing → ℕ → List (Refusal × Bool)
raise_checks limits unit facing n =
    (NothingToRaise, facing.level == 0) ∷
    (TooSmall, nat_lt n (limits.least facing) && not (n == facing.put + facing.behind && nat_lt facing.level n)) ∷
    (PastStack, nat_lt (facing.put + facing.behind) n) ∷
    (PastPot, nat_lt (limits.most facing) n) ∷
    (NotReopened, not (limits.reopened facing)) ∷
    (NotUnit, not (n % unit == 0)) ∷ []

-- All-in: up to the bet level it is a call, and never refused; above it is a bet or a raise, which the most and the
-- reopening bound.
abbrev pub all_in_checks : Limits → Facing → List (Refusal × Bool)
all_in_checks limits facing =
    let stack = facing.put + facing.behind in
    (PastPot, nat_lt facing.level stack && nat_lt (limits.most facing) stack) ∷
    (NotReopened, nat_lt facing.level stack && not (limits.reopened facing)) ∷ []

-- The checks of a due player's act, in their order.
abbrev pub act_checks : Limits → ℕ → Facing → Act → List (Refusal × Bool)
act_checks limits unit facing Fold = []
act_checks limits unit facing Check = (CheckFacing, nat_lt facing.put facing.level) ∷ []
act_checks limits unit facing Call = (NothingToCall, facing.put == facing.level) ∷ []
act_checks limits unit facing AllIn = all_in_checks limits facing
act_checks limits unit facing (Bet n) = bet_checks limits unit facing n
act_checks limits unit facing (Raise n) = raise_checks limits unit facing n

-- The checks of an act of a seat, in their order: those of the turn, and then those of the act.
abbrev pub seat_checks : Limits → Street → ℕ → Act → List (Refusal × Bool)
seat_checks limits street seat act =
    turn_checks street seat ++ act_checks limits street.unit (facing_in street seat) act

-- Why an act of a seat is refused, if it is: by the first check that holds.
unfoldable pub act_refusal : Limits → Street → ℕ → Act → Option Refusal
act_refusal limits street seat act = first_that_holds (seat_checks limits street seat act)

-- An act of a seat is allowed: there are limits by which it is not refused.
pub record IsAllowed (street : Street) (seat : ℕ) (act : Act) : Type 0 where
  pub limits : Limits
  pub free : act_refusal limits street seat act ≡ None
