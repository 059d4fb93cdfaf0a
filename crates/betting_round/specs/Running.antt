-- The running fields of a street: what an act makes of them, and what holds of them at every moment.
use Rattle.std.specs.Prelude.{◌≡◌, ℕ, ◌+◌, ◌-◌, ◌<◌, ◌^◌, true, not, ◌&&◌, max, Option, Some, slice_set}
use Rattle.std.specs.Option.{option_map_or}
use Rattle.betting_round.specs.declared.act.Act.{Act}
use Rattle.betting_round.specs.declared.bettor.Player.{Player}
use Rattle.betting_round.specs.declared.street.Street.{Street}
use Rattle.betting_round.specs.Acts.{amount, is_fold}
use Rattle.betting_round.specs.StreetActs.{sum_over, chips_of}
use Rattle.betting_round.specs.WhoIsDue.{due_seat, player_at}

-- What an act of this player puts in.
abbrev pub amount_of : ℕ → Player → Act → ℕ
amount_of level player act = amount level player.bettor.put player.bettor.behind act

-- A player after an act that puts in so much.
abbrev pub moved : ℕ → Player → Act → Player
moved put_in player act = record {
  bettor = record {
    seat = player.bettor.seat;
    put = player.bettor.put + put_in;
    behind = player.bettor.behind - put_in;
    live = player.bettor.live && not (is_fold act);
  };
  acted = true;
}

-- A street after an act of this player, who sits in this seat, that puts in so much.
abbrev pub placed : Street → ℕ → Player → Act → ℕ → Street
placed street seat player act put_in = record {
  players = slice_set street.players (seat - 1) (Some (moved put_in player act));
  level = max street.level (player.bettor.put + put_in);
  full = max street.full (player.bettor.put + put_in - street.level);
  pot = street.pot + put_in;
  unit = street.unit;
  after = seat;
}

-- A street after an act of the player in a seat.
abbrev pub stepped : Street → ℕ → Act → Street
stepped street seat act =
    option_map_or (λ player. placed street seat player act (amount_of street.level player act))
    (player_at street.players seat) street

-- No sum of a street's chips comes near the end of its type, and there is a smallest denomination.
pub record IsStreetKept (street : Street) : Type 0 where
  pub chips : sum_over (λ player. chips_of player.bettor) street.players < 2 ^ 60
  pub pot : street.pot + sum_over (λ player. player.bettor.behind) street.players < 2 ^ 60
  pub level : street.level < 2 ^ 60
  pub full : street.full < 2 ^ 60
  pub unit : 0 < street.unit

-- A street is kept, and with it who is due on it.
pub record IsRoundKept (street : Street) (due : Option ℕ) : Type 0 where
  pub kept : IsStreetKept street
  pub is_due : due ≡ due_seat street
