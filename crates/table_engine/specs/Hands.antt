-- A hand is its start and its acts. Its streets are cut out of its acts. The Poker TDA Rules and Robert's Rules of
-- Poker.
use Rattle.std.specs.Prelude.{ℕ, zero, suc, ◌+◌, ◌-◌, min, Bool, true, false, not, ◌==◌, ◌&&◌, List, [], ◌∷◌, map, reverse, find, sum_by, Option, is_none, option_map, option_and_then, unwrap_or, if◌then◌else◌}
use Rattle.std.specs.Option.{option_map_or}
use Rattle.std.specs.Str.{bytes_eq}
use Rattle.rulebook.specs.Seats.{walk}
use Rattle.betting_round.specs.declared.bettor.Bettor.{Bettor}
use Rattle.betting_round.specs.declared.bettor.Player.{Player}
use Rattle.betting_round.specs.declared.street.Street.{Street}
use Rattle.betting_round.specs.StreetActs.{StreetStart, SeatAct, next_bettors, street_after, sum_over}
use Rattle.betting_round.specs.WhoIsDue.{due_seat, is_one_live, player_in}
use Rattle.limit_betting.specs.FixedLimits.{bet_of}
use Rattle.table_engine.specs.declared.start.HandStart.{HandStart}
use Rattle.table_engine.specs.declared.start.StartSeat.{StartSeat}
use Rattle.table_engine.specs.declared.record.ActOf.{ActOf}

-- A hand: how it started, and its acts so far in order.
pub record HandTerms : Type 0 where
  pub start : HandStart
  pub acts : List ActOf

-- The blind that is due of a seat. An empty small mark posts nothing.
abbrev pub blind_of : HandStart → ℕ → ℕ
blind_of start seat =
    if seat == start.marks.big then start.blind.big
    else if seat == start.marks.small then start.blind.small
    else 0

-- What a player posts: the lesser of his stack and the blind that is due of his seat.
abbrev pub posted : HandStart → StartSeat → ℕ
posted start player = min player.stack (blind_of start player.seat)

-- The ante that is due of a seat: the big blind's player owes it for the table.
abbrev pub ante_of : HandStart → ℕ → ℕ
ante_of start seat = if seat == start.marks.big then start.blind.ante else 0

-- What a player posts as the ante, once his blind is posted (this project's own): the lesser of what he has left and
-- the ante that is due of his seat.
abbrev pub ante_posted : HandStart → StartSeat → ℕ
ante_posted start player = min (player.stack - posted start player) (ante_of start player.seat)

-- All antes of a hand. They are dead: no player has put them in for himself.
abbrev pub dead_chips : HandStart → ℕ
dead_chips start = sum_by (ante_posted start) start.seats

-- What a player has to play with: his stack without the ante that he posts.
abbrev pub playing : HandStart → StartSeat → ℕ
playing start player = player.stack - ante_posted start player

-- What a player's blind lacks because his stack is short.
abbrev pub lacking : HandStart → StartSeat → ℕ
lacking start player = blind_of start player.seat - posted start player

-- A player of the start as he begins the hand.
abbrev pub seated : HandStart → StartSeat → Bettor
seated start player = record {
  seat = player.seat;
  put = posted start player;
  behind = playing start player - posted start player;
  live = true;
}

-- The player who is dealt in at a seat, if one is.
abbrev pub player_of : HandStart → ℕ → Option StartSeat
player_of start seat = find (λ player. player.seat == seat) start.seats

-- The players who are dealt in, by the seats 1 to 10.
abbrev pub players_by_seat : HandStart → List (Option StartSeat)
players_by_seat start = map (player_of start) (walk (λ seat. seat + 1) 10 0)

-- The first street, before the flop: the blinds are posted, the search for who is due starts after the big mark's seat,
-- and the bet level is the big blind even where it was posted short. Beside what was put in, the pot counts what short
-- blinds lack, and not the antes (this project's own).
abbrev pub first_street : HandStart → StreetStart
first_street start = record {
  bettors = map (option_map (seated start)) (players_by_seat start);
  after = start.marks.big;
  opening = start.blind.big;
  big = start.blind.big;
  unit = start.blind.unit;
  counted = sum_over (lacking start) (players_by_seat start);
}

-- A street of a hand: how it began, and its acts, the newest first.
pub record StreetPlayed : Type 0 where
  pub start : StreetStart
  pub acts : List SeatAct

-- The streets of a hand: the last that has begun, those before it, the newest first, and how many are to come.
pub record Streets : Type 0 where
  pub last : StreetPlayed
  pub before : List StreetPlayed
  pub left : ℕ

-- The last street as it stands.
abbrev pub street_now : Streets → Street
street_now streets = street_after streets.last.start streets.last.acts

-- What was put in on a street.
abbrev pub put_on : StreetPlayed → ℕ
put_on played = sum_over (λ (player : Player). player.bettor.put) (street_after played.start played.acts).players

-- What was put in on all streets so far, the antes included.
abbrev pub put_so_far : HandStart → Streets → ℕ
put_so_far start streets = put_on streets.last + (dead_chips start + sum_by put_on streets.before)

-- The bet of a street with so many streets to come after it: the big blind, or by fixed limit the bet of the street.
abbrev pub bet_with : HandStart → ℕ → ℕ
bet_with start left = if start.cap == 0 then start.blind.big else bet_of start.blind.big (3 - left)

-- A later street: nothing is put in, the search for who is due starts after the button's seat, the bet level is 0, and
-- the pot counts what was put in on the streets before, the antes included.
abbrev pub later_street : HandStart → Streets → StreetStart
later_street start streets = record {
  bettors = next_bettors (street_now streets);
  after = start.marks.button;
  opening = 0;
  big = bet_with start (streets.left - 1);
  unit = start.blind.unit;
  counted = put_so_far start streets;
}

-- The streets once the next one has begun.
abbrev pub with_next_street : HandStart → Streets → Streets
with_next_street start streets = record {
  last = record { start = later_street start streets; acts = [] };
  before = streets.last ∷ streets.before;
  left = streets.left - 1;
}

-- A street has ended where nobody is due and more than one player is live.
abbrev pub has_ended : Street → Bool
has_ended street = is_none (due_seat street) && not (is_one_live street.players)

-- The streets once so many more have begun, each where the one before it has ended.
abbrev pub dealt_on : HandStart → ℕ → Streets → Streets
dealt_on start zero streets = streets
dealt_on start (suc more) streets =
    if has_ended (street_now streets) then dealt_on start more (with_next_street start streets) else streets

-- The streets once every street has begun that may.
abbrev pub all_dealt_on : HandStart → Streets → Streets
all_dealt_on start streets = dealt_on start streets.left streets

-- The streets with one more act on the last.
abbrev pub with_act : Streets → SeatAct → Streets
with_act streets entry =
    record streets { last = record { start = streets.last.start; acts = entry ∷ streets.last.acts } }

-- The streets of a hand before any act, where the first alone has begun: three streets may follow it.
abbrev pub first_streets : HandStart → Streets
first_streets start = record { last = record { start = first_street start; acts = [] }; before = []; left = 3 }

-- The streets of a hand after these acts, the newest first.
unfoldable pub streets_after : HandStart → List SeatAct → Streets
streets_after start [] = all_dealt_on start (first_streets start)
streets_after start (entry ∷ acts) = all_dealt_on start (with_act (streets_after start acts) entry)

-- The seat of the player of this name.
abbrev pub seat_of_name : HandStart → List ℕ → Option ℕ
seat_of_name start name = option_map (λ player. player.seat) (find (λ player. bytes_eq player.name name) start.seats)

-- The name of the player in this seat.
abbrev pub name_in_seat : HandStart → ℕ → Option (List ℕ)
name_in_seat start seat = option_map (λ player. player.name) (player_of start seat)

-- An act by the seat that it came from.
abbrev pub by_seat : HandStart → ActOf → SeatAct
by_seat start act = record { seat = unwrap_or (seat_of_name start act.name) 0; act = act.act }

-- The streets of a hand.
abbrev pub streets_of : HandTerms → Streets
streets_of hand = streets_after hand.start (reverse (map (by_seat hand.start) hand.acts))

-- The street of a hand as it stands.
abbrev pub street_of : HandTerms → Street
street_of hand = street_now (streets_of hand)

-- The seat of the player who is due, if somebody is.
abbrev pub due_in_hand : HandTerms → Option ℕ
due_in_hand hand = due_seat (street_of hand)

-- The name of the player who is due, if somebody is.
abbrev pub due_name : HandTerms → Option (List ℕ)
due_name hand = option_and_then (name_in_seat hand.start) (due_in_hand hand)

-- A hand is over where nobody is due on the street and on no later one: each later street has begun that may.
abbrev pub is_over : HandTerms → Bool
is_over hand = is_none (due_in_hand hand)

-- What the player in a seat has put in on a street.
abbrev pub put_from : ℕ → StreetPlayed → ℕ
put_from seat played =
    option_map_or (λ (player : Player). player.bettor.put)
    (player_in (street_after played.start played.acts).players seat) 0

-- What a player has put in during the whole hand, without his ante: the sum over its streets.
abbrev pub put_in_hand : HandTerms → StartSeat → ℕ
put_in_hand hand player =
    put_from player.seat (streets_of hand).last + sum_by (put_from player.seat) (streets_of hand).before

-- What a player has behind: his stack without his ante and without what he has put in.
abbrev pub behind : HandTerms → StartSeat → ℕ
behind hand player = playing hand.start player - put_in_hand hand player

-- Whether a player is live: he is until he folds.
abbrev pub is_live : HandTerms → StartSeat → Bool
is_live hand player =
    option_map_or (λ (other : Player). other.bettor.live) (player_in (street_of hand).players player.seat) false
