-- How a hand was played and what it came to in the first edition, in which there was no ante and no fixed limit. Each
-- definition that cites one of those that have changed since stands here as it stood, under its name of now with `old_`
-- in front. This project's own.
use Rattle.std.specs.Prelude.{◌≡◌, ℕ, zero, suc, ◌+◌, ◌-◌, Bool, true, false, not, List, [], ◌∷◌, map, reverse, sum_by, Option, Some, None, is_none, option_map, option_and_then, unwrap_or, nat_lt, slice_index_or, if◌then◌else◌}
use Rattle.std.specs.Option.{option_map_or}
use Rattle.floor_text.specs.declared.refusal.Refusal.{Refusal}
use Rattle.floor_text.specs.declared.refusal.Refusal.TheVariants.{NotDealt, HandOver}
use Rattle.betting_round.specs.declared.act.Act.{Act}
use Rattle.betting_round.specs.declared.act.Act.TheVariants.{Fold, Check}
use Rattle.betting_round.specs.declared.act.Done.{Done}
use Rattle.betting_round.specs.declared.bettor.Bettor.{Bettor}
use Rattle.betting_round.specs.declared.bettor.Player.{Player}
use Rattle.betting_round.specs.declared.street.Street.{Street}
use Rattle.betting_round.specs.Acts.{done_by}
use Rattle.betting_round.specs.ActChecks.{facing_in, seat_checks}
use Rattle.betting_round.specs.StreetActs.{StreetStart, SeatAct, next_bettors, sum_over}
use Rattle.betting_round.specs.WhoIsDue.{due_seat, is_one_live, player_in}
use Rattle.pot_layers.specs.declared.put.Put.{Put}
use Rattle.pot_layers.specs.declared.pot_list.Pot.{Pot}
use Rattle.pot_layers.specs.Layers.{height_pots}
use Rattle.showdown.specs.declared.live.Live.{Live}
use Rattle.showdown.specs.Awards.{awards_of}
use Rattle.showdown.specs.Hands.{hands_of}
use Rattle.table_engine.specs.declared.start.HandStart.{HandStart}
use Rattle.table_engine.specs.declared.start.StartSeat.{StartSeat}
use Rattle.table_engine.specs.declared.record.ActOf.{ActOf}
use Rattle.table_engine.specs.Acts.{acting_seat, is_dealt, limits_of, limit_in_hand, act_checks, time_checks, time_act, done_of_act}
use Rattle.table_engine.specs.Deals.{board_of}
use Rattle.table_engine.specs.Hands.{HandTerms, Streets, ante_posted, by_seat, dead_chips, has_ended, is_over, lacking, name_in_seat, players_by_seat, playing, posted, put_from, put_in_hand, put_on, street_now, streets_of, behind, with_act}
use Rattle.table_engine.specs.Results.{live_on, players_after, pot, pots_in_hand, showdown_awards, stack_after_hand, with_stack}

-- A player of the start as he begins the hand: he has his stack without his blind behind.
abbrev pub old_seated : HandStart → StartSeat → Bettor
old_seated start player = record {
  seat = player.seat;
  put = posted start player;
  behind = player.stack - posted start player;
  live = true;
}

-- The first street.
abbrev pub old_first_street : HandStart → StreetStart
old_first_street start = record {
  bettors = map (option_map (old_seated start)) (players_by_seat start);
  after = start.marks.big;
  opening = start.blind.big;
  big = start.blind.big;
  unit = start.blind.unit;
  counted = sum_over (lacking start) (players_by_seat start);
}

-- What was put in on all streets so far.
abbrev pub old_put_so_far : Streets → ℕ
old_put_so_far streets = put_on streets.last + sum_by put_on streets.before

-- A later street: each bet is at least the big blind.
abbrev pub old_later_street : HandStart → Streets → StreetStart
old_later_street start streets = record {
  bettors = next_bettors (street_now streets);
  after = start.marks.button;
  opening = 0;
  big = start.blind.big;
  unit = start.blind.unit;
  counted = old_put_so_far streets;
}

-- The streets of a hand.
abbrev pub old_with_next_street : HandStart → Streets → Streets
old_with_next_street start streets = record {
  last = record { start = old_later_street start streets; acts = [] };
  before = streets.last ∷ streets.before;
  left = streets.left - 1;
}

abbrev pub old_dealt_on : HandStart → ℕ → Streets → Streets
old_dealt_on start zero streets = streets
old_dealt_on start (suc more) streets =
    if has_ended (street_now streets) then old_dealt_on start more (old_with_next_street start streets) else streets

abbrev pub old_all_dealt_on : HandStart → Streets → Streets
old_all_dealt_on start streets = old_dealt_on start streets.left streets

abbrev pub old_first_streets : HandStart → Streets
old_first_streets start =
    record { last = record { start = old_first_street start; acts = [] }; before = []; left = 3 }

abbrev pub old_streets_after : HandStart → List SeatAct → Streets
old_streets_after start [] = old_all_dealt_on start (old_first_streets start)
old_streets_after start (entry ∷ acts) = old_all_dealt_on start (with_act (old_streets_after start acts) entry)

abbrev pub old_streets_of : HandTerms → Streets
old_streets_of hand = old_streets_after hand.start (reverse (map (by_seat hand.start) hand.acts))

abbrev pub old_street_of : HandTerms → Street
old_street_of hand = street_now (old_streets_of hand)

-- Who is due, and whether a hand is over.
abbrev pub old_due_in_hand : HandTerms → Option ℕ
old_due_in_hand hand = due_seat (old_street_of hand)

abbrev pub old_due_name : HandTerms → Option (List ℕ)
old_due_name hand = option_and_then (name_in_seat hand.start) (old_due_in_hand hand)

abbrev pub old_is_over : HandTerms → Bool
old_is_over hand = is_none (old_due_in_hand hand)

-- The checks of an act: on each street it goes by the game how much may be bet.
abbrev pub old_act_checks : HandTerms → List ℕ → Act → List (Refusal × Bool)
old_act_checks hand name act =
    (NotDealt, not (is_dealt hand.start name)) ∷
    seat_checks (limits_of hand.start.game) (old_street_of hand) (acting_seat hand name) act

-- What an act comes to.
abbrev pub old_done_of_act : HandTerms → List ℕ → Act → Done
old_done_of_act hand name act = done_by (facing_in (old_street_of hand) (acting_seat hand name)) act

-- A called time: its checks, and the act that it makes.
abbrev pub old_time_checks : HandTerms → List (Refusal × Bool)
old_time_checks hand = (HandOver, is_none (old_due_in_hand hand)) ∷ []

abbrev pub old_act_in_time : HandTerms → ℕ → Act
old_act_in_time hand seat =
    let facing = facing_in (old_street_of hand) seat in if nat_lt facing.put facing.level then Fold else Check

abbrev pub old_time_act : HandTerms → ActOf
old_time_act hand = record {
  name = unwrap_or (old_due_name hand) [];
  act = old_act_in_time hand (unwrap_or (old_due_in_hand hand) 0);
  by_time = true;
}

-- What a player put in, what he has behind, and whether he is live.
abbrev pub old_put_in_hand : HandTerms → StartSeat → ℕ
old_put_in_hand hand player =
    put_from player.seat (old_streets_of hand).last + sum_by (put_from player.seat) (old_streets_of hand).before

abbrev pub old_behind : HandTerms → StartSeat → ℕ
old_behind hand player = player.stack - old_put_in_hand hand player

abbrev pub old_is_live : HandTerms → StartSeat → Bool
old_is_live hand player =
    option_map_or (λ (other : Player). other.bettor.live) (player_in (old_street_of hand).players player.seat) false

-- The pots: what was put in, cut by heights.
abbrev pub old_pot : HandTerms → ℕ
old_pot hand = sum_by (old_put_in_hand hand) hand.start.seats

abbrev pub old_put_at : HandTerms → Option StartSeat → Put
old_put_at hand None = record { amount = 0; live = false }
old_put_at hand (Some player) = record { amount = old_put_in_hand hand player; live = old_is_live hand player }

abbrev pub old_pots_in_hand : HandTerms → List Pot
old_pots_in_hand hand = height_pots (map (old_put_at hand) (players_by_seat hand.start))

-- The awards, and the stacks after a hand.
abbrev pub old_live_in_hand : HandTerms → List (Option Live)
old_live_in_hand hand = map (live_on hand.start (old_street_of hand)) (players_by_seat hand.start)

abbrev pub old_showdown_awards : HandTerms → List ℕ
old_showdown_awards hand =
    awards_of (hands_of hand.start.game (board_of hand.start) (old_live_in_hand hand)) hand.start.blind.unit
    hand.start.marks.button hand.start.seat_count (old_pots_in_hand hand)

abbrev pub old_award : HandTerms → StartSeat → ℕ
old_award hand player =
    if is_one_live (old_street_of hand).players then (if old_is_live hand player then old_pot hand else 0)
    else slice_index_or (old_showdown_awards hand) (player.seat - 1) 0

abbrev pub old_stack_after_hand : HandTerms → StartSeat → ℕ
old_stack_after_hand hand player = old_behind hand player + old_award hand player

abbrev pub old_players_after : HandTerms → List StartSeat
old_players_after hand = map (λ player. with_stack player (old_stack_after_hand hand player)) hand.start.seats

-- A start of the first edition: there is no ante, and no cap.
pub record IsFirstStart (start : HandStart) : Type 0 where
  pub ante : start.blind.ante ≡ 0
  pub cap : start.cap ≡ 0

-- The quantities of a hand, what becomes of its acts, its pots and its awards are those of the first edition.
pub record IsAsBefore (hand : HandTerms) : Type 0 where
  -- nobody posts an ante, so each plays with his stack, and no chip is dead
  pub antes : (player : StartSeat) → ante_posted hand.start player ≡ 0
  pub playing : (player : StartSeat) → playing hand.start player ≡ player.stack
  pub dead : dead_chips hand.start ≡ 0
  -- there is no fixed limit
  pub limit : limit_in_hand hand ≡ None
  -- the streets, who is due, and whether the hand is over
  pub streets : streets_of hand ≡ old_streets_of hand
  pub over : is_over hand ≡ old_is_over hand
  -- the checks of an act and of a called time, and what an act comes to
  pub checks : (name : List ℕ) (act : Act) → act_checks hand name act ≡ old_act_checks hand name act
  pub done : (name : List ℕ) (act : Act) → done_of_act hand name act ≡ old_done_of_act hand name act
  pub time : time_checks hand ≡ old_time_checks hand
  pub time_act : time_act hand ≡ old_time_act hand
  -- what was put in, and what is behind
  pub put : (player : StartSeat) → put_in_hand hand player ≡ old_put_in_hand hand player
  pub behind : (player : StartSeat) → behind hand player ≡ old_behind hand player
  -- the pots, the awards and the stacks
  pub pot : pot hand ≡ old_pot hand
  pub pots : pots_in_hand hand ≡ old_pots_in_hand hand
  pub awards : showdown_awards hand ≡ old_showdown_awards hand
  pub stacks : (player : StartSeat) → stack_after_hand hand player ≡ old_stack_after_hand hand player
  pub players : players_after hand ≡ old_players_after hand
