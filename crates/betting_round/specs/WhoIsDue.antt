-- Who is due on a street as it stands. Robert's Rules of Poker: play goes clockwise, and a player acts in turn.
use Rattle.std.specs.Prelude.{ℕ, ◌-◌, Bool, false, not, ◌==◌, ◌&&◌, ◌||◌, nat_lt, List, Option, None, find, count_by, slice_index_or, if◌then◌else◌}
use Rattle.std.specs.List.{list_all, list_any}
use Rattle.std.specs.Option.{option_map_or}
use Rattle.rulebook.specs.Seats.{clockwise_after}
use Rattle.betting_round.specs.declared.bettor.Player.{Player}
use Rattle.betting_round.specs.declared.street.Street.{Street}

-- The player in a seat from 1 on, if one is there: the list has seat 1 first.
abbrev pub player_at : List (Option Player) → ℕ → Option Player
player_at players seat = slice_index_or players (seat - 1) None

-- The player in a seat, if one is there. There is no seat 0.
abbrev pub player_in : List (Option Player) → ℕ → Option Player
player_in players seat = if seat == 0 then None else player_at players seat

-- Whether a player is there and passes a test.
abbrev pub is_there : (Player → Bool) → Option Player → Bool
is_there test slot = option_map_or test slot false

-- A player is live until he folds.
abbrev pub is_live : Player → Bool
is_live player = player.bettor.live

-- A player can act while he is live and not all-in.
abbrev pub can_act : Player → Bool
can_act player = player.bettor.live && nat_lt 0 player.bettor.behind

-- One player alone is live.
abbrev pub is_one_live : List (Option Player) → Bool
is_one_live players = count_by (is_there is_live) players == 1

-- Whether no live player has put in more than this.
abbrev pub has_put_most : List (Option Player) → ℕ → Bool
has_put_most players put =
    list_all (λ slot. not (is_there (λ other. other.bettor.live && nat_lt put other.bettor.put) slot)) players

-- Exactly one live player is not all-in, and he has put in at least as much as every other live player.
abbrev pub is_only_one_to_act : List (Option Player) → Bool
is_only_one_to_act players =
    count_by (is_there can_act) players == 1
    && list_any (is_there (λ player. can_act player && has_put_most players player.bettor.put)) players

-- Nobody is due where one player alone is live, or where only one could act and has nothing to answer.
abbrev pub is_closed : List (Option Player) → Bool
is_closed players = is_one_live players || is_only_one_to_act players

-- A player may be due where he is live, he is not all-in, and he has not acted on this street or has put in less than
-- the bet level.
abbrev pub may_be_due : ℕ → Player → Bool
may_be_due level player = can_act player && (not player.acted || nat_lt player.bettor.put level)

-- The seat of the player who is due: the first clockwise, from the seat after the last actor's, who may be.
unfoldable pub due_seat : Street → Option ℕ
due_seat street =
    if is_closed street.players
    then None
    else find (λ seat. is_there (may_be_due street.level) (player_at street.players seat))
    (clockwise_after 10 street.after)
