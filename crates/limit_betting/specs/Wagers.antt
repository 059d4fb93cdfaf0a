-- The wagers of a street, and a street that is played by fixed limit.
use Rattle.std.specs.Prelude.{◌≡◌, ℕ, ◌+◌, ◌-◌, ◌*◌, ◌≤◌, ◌<◌, ◌==◌, ◌&&◌, ◌⊎◌, Bool, false, not, List, [], ◌∷◌, None, length, nat_le, nat_lt, if◌then◌else◌}
use Rattle.std.specs.Option.{option_map_or}
use Rattle.betting_round.specs.ActChecks.{act_refusal}
use Rattle.betting_round.specs.Limits.{Limits}
use Rattle.betting_round.specs.Running.{amount_of}
use Rattle.betting_round.specs.StreetActs.{IsStreetStart, SeatAct, StreetStart, level, street_after}
use Rattle.betting_round.specs.WhoIsDue.{player_at}
use Rattle.limit_betting.specs.FixedLimits.{fixed_limit}

-- To raise the bet level from one number to another is a wager where it rises by at least half of the bet.
abbrev pub is_wager : ℕ → ℕ → ℕ → Bool
is_wager bet before after = nat_le bet (2 * (after - before))

-- The wagers of a street: the big blind, where the street opens at it, and each act that is one.
abbrev pub wagers : StreetStart → List SeatAct → ℕ
wagers start [] = if nat_lt 0 start.opening then 1 else 0
wagers start (entry ∷ acts) =
    wagers start acts + (if is_wager start.big (level start acts) (level start (entry ∷ acts)) then 1 else 0)

-- Whether an act puts in less than its player has: whoever puts in all is all-in.
abbrev pub leaves_chips : StreetStart → List SeatAct → SeatAct → Bool
leaves_chips start acts entry =
    let street = street_after start acts in
    option_map_or (λ now. not (amount_of street.level now entry.act == now.bettor.behind))
    (player_at street.players entry.seat) false

-- How many acts of a street raise the bet level and are no all-in.
abbrev pub raises : StreetStart → List SeatAct → ℕ
raises start [] = 0
raises start (entry ∷ acts) = raises start acts
    + (if nat_lt (level start acts) (level start (entry ∷ acts)) && leaves_chips start acts entry then 1 else 0)

-- The limits of a street after these acts. Its bet is the amount that its full raise begins with.
abbrev pub limits_after : ℕ → StreetStart → List SeatAct → Limits
limits_after cap start acts = fixed_limit (record { bet = start.big; cap = cap; wagers = wagers start acts })

-- Each of these acts, the newest first, is not refused by the limits of the street after those before it.
abbrev pub AreLimited : ℕ → StreetStart → List SeatAct → Type 0
AreLimited cap start [] = Unit {0}
AreLimited cap start (entry ∷ acts) =
    (act_refusal (limits_after cap start acts) (street_after start acts) entry.seat entry.act ≡ None)
    × AreLimited cap start acts

-- How a street of fixed limit begins: it opens at its bet or at 0, nobody has put in more, and there is a bet.
pub record IsLimitStart (start : StreetStart) : Type 0 where
  pub right : IsStreetStart start
  pub seats : length start.bettors ≤ 10
  pub opens : (start.opening ≡ 0) ⊎ (start.opening ≡ start.big)
  pub level : level start [] ≡ start.opening
  pub bet : 0 < start.big
