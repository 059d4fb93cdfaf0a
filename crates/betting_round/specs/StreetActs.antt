-- One street, by how it began and the list of its acts, the newest first.
use Rattle.std.specs.Prelude.{◌≡◌, ◌<◌, ◌^◌, ℕ, ◌+◌, ◌-◌, Bool, false, not, ◌==◌, ◌&&◌, ◌||◌, max, List, [], ◌∷◌, Option, Some, None, map, if◌then◌else◌, option_map}
use Rattle.betting_round.specs.declared.act.Act.{Act}
use Rattle.betting_round.specs.declared.bettor.Bettor.{Bettor}
use Rattle.betting_round.specs.declared.bettor.Player.{Player}
use Rattle.betting_round.specs.declared.street.Street.{Street}
use Rattle.betting_round.specs.Acts.{amount, is_fold}

-- How a street begins: who plays, the seat after which the search for who is due starts, the bet level that it opens
-- at, the big blind, the smallest denomination in play, and what the pot holds beside the street's chips.
pub record StreetStart : Type 0 where
  pub bettors : List (Option Bettor)
  pub after : ℕ
  pub opening : ℕ
  pub big : ℕ
  pub unit : ℕ
  pub counted : ℕ

-- The start of a street by its parts.
abbrev pub street_start : List (Option Bettor) → ℕ → ℕ → ℕ → ℕ → ℕ → StreetStart
street_start bettors after opening big unit counted =
    record { bettors = bettors; after = after; opening = opening; big = big; unit = unit; counted = counted }

-- An act, and the seat that it came from.
pub record SeatAct : Type 0 where
  pub seat : ℕ
  pub act : Act

-- The sum of a number over those who are there.
abbrev pub sum_over : {A : Type 0} → (A → ℕ) → List (Option A) → ℕ
sum_over number [] = 0
sum_over number (None ∷ slots) = sum_over number slots
sum_over number (Some item ∷ slots) = number item + sum_over number slots

-- The greatest of a least number and of the numbers of those who are there.
abbrev pub greatest : {A : Type 0} → ℕ → (A → ℕ) → List (Option A) → ℕ
greatest least number [] = least
greatest least number (None ∷ slots) = greatest least number slots
greatest least number (Some item ∷ slots) = max (number item) (greatest least number slots)

-- The sum of what a player's acts put in.
unfoldable pub put_by_acts : StreetStart → List SeatAct → Bettor → ℕ
put_by_acts start [] bettor = 0
put_by_acts start (entry ∷ acts) bettor =
    if entry.seat == bettor.seat
    then put_by_acts start acts bettor
    + amount (greatest start.opening (λ other. other.put + put_by_acts start acts other) start.bettors)
    (bettor.put + put_by_acts start acts bettor) (bettor.behind - put_by_acts start acts bettor) entry.act
    else put_by_acts start acts bettor

-- What a player has put in on the street: what he posted, and what his acts put in.
abbrev pub put_on_street : StreetStart → List SeatAct → Bettor → ℕ
put_on_street start acts bettor = bettor.put + put_by_acts start acts bettor

-- The bet level: the greatest of the opening level and of what each player has put in.
abbrev pub level : StreetStart → List SeatAct → ℕ
level start acts = greatest start.opening (put_on_street start acts) start.bettors

-- The full raise: the greatest of the big blind and of what each act raised the bet level by.
abbrev pub full_raise : StreetStart → List SeatAct → ℕ
full_raise start [] = start.big
full_raise start (entry ∷ acts) = max (full_raise start acts) (level start (entry ∷ acts) - level start acts)

-- What the pot holds: what was counted at the start, and all that was put in on the street.
abbrev pub pot : StreetStart → List SeatAct → ℕ
pot start acts = start.counted + sum_over (put_on_street start acts) start.bettors

-- Whether a seat has an act among these.
abbrev pub has_acted : List SeatAct → ℕ → Bool
has_acted [] seat = false
has_acted (entry ∷ acts) seat = entry.seat == seat || has_acted acts seat

-- Whether a seat has folded among these.
abbrev pub has_folded : List SeatAct → ℕ → Bool
has_folded [] seat = false
has_folded (entry ∷ acts) seat = entry.seat == seat && is_fold entry.act || has_folded acts seat

-- The seat of the last act, and before any the seat that the start names.
abbrev pub last_seat : StreetStart → List SeatAct → ℕ
last_seat start [] = start.after
last_seat start (entry ∷ acts) = entry.seat

-- A player as he stands.
abbrev pub player_after : StreetStart → List SeatAct → Bettor → Player
player_after start acts bettor = record {
  bettor = record {
    seat = bettor.seat;
    put = put_on_street start acts bettor;
    behind = bettor.behind - put_by_acts start acts bettor;
    live = bettor.live && not (has_folded acts bettor.seat);
  };
  acted = has_acted acts bettor.seat;
}

-- The street as it stands after these acts.
unfoldable pub street_after : StreetStart → List SeatAct → Street
street_after start acts = record {
  players = map (option_map (player_after start acts)) start.bettors;
  level = level start acts;
  full = full_raise start acts;
  pot = pot start acts;
  unit = start.unit;
  after = last_seat start acts;
}

-- A player before any act of the street.
abbrev pub fresh : Bettor → Player
fresh bettor = record { bettor = bettor; acted = false }

-- What all players of a street as it stands have put in on it.
abbrev pub put_by_all : Street → ℕ
put_by_all street = sum_over (λ (player : Player). player.bettor.put) street.players

-- A player as he begins the next street: nothing put in, and all else as he stands.
abbrev pub at_next_street : Player → Bettor
at_next_street player = record player.bettor { put = 0 }

-- The players of a street as they begin the next.
abbrev pub next_bettors : Street → List (Option Bettor)
next_bettors street = map (option_map at_next_street) street.players

-- Each player sits in the seat of his index in the list, counted from this seat.
abbrev pub AreSeated : ℕ → List (Option Bettor) → Type 0
AreSeated from [] = Unit {0}
AreSeated from (None ∷ bettors) = AreSeated (from + 1) bettors
AreSeated from (Some bettor ∷ bettors) = (bettor.seat ≡ from) × AreSeated (from + 1) bettors

-- The chips of a player.
abbrev pub chips_of : Bettor → ℕ
chips_of bettor = bettor.put + bettor.behind

-- What the players of a street as it stands have put in on it and have behind.
abbrev pub chips_on : Street → ℕ
chips_on street = sum_over (λ (player : Player). chips_of player.bettor) street.players

-- How a street may begin: the player listed at index i sits in seat i + 1, there is a smallest denomination, and no sum
-- of chips comes near the end of its type.
pub record IsStreetStart (start : StreetStart) : Type 0 where
  pub seated : AreSeated 1 start.bettors
  pub chips : start.counted + sum_over chips_of start.bettors < 2 ^ 60
  pub opening : start.opening < 2 ^ 60
  pub big : start.big < 2 ^ 60
  pub unit : 0 < start.unit
