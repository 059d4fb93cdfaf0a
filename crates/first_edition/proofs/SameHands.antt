-- A hand without an ante and without a fixed limit is played, and comes out, as in the first edition.
use Rattle.std.proofs.Common.{◌≡◌, ◌∙◌, refl, ap, ℕ, zero, suc, ◌+◌, ◌-◌, Bool, true, false, ◌==◌, List, [], ◌∷◌, map, reverse, arith}
use Rattle.std.specs.Prelude.{min, not, sum_by, if◌then◌else◌, Option, Some, None, is_none, option_map, option_and_then, unwrap_or, nat_lt, slice_index_or}
use Rattle.std.specs.Option.{option_map_or}
use Rattle.std.proofs.lemmas.List.Sums.{sum_by-cons}
use Rattle.floor_text.specs.declared.refusal.Refusal.TheVariants.{NotDealt, HandOver}
use Rattle.betting_round.specs.declared.act.Act.{Act}
use Rattle.betting_round.specs.declared.act.Act.TheVariants.{Fold, Check}
use Rattle.betting_round.specs.declared.bettor.Bettor.{Bettor}
use Rattle.betting_round.specs.declared.bettor.Player.{Player}
use Rattle.betting_round.specs.Acts.{done_by}
use Rattle.betting_round.specs.ActChecks.{facing_in, seat_checks}
use Rattle.betting_round.specs.Limits.{Limits}
use Rattle.betting_round.specs.StreetActs.{SeatAct, next_bettors, sum_over}
use Rattle.betting_round.specs.WhoIsDue.{due_seat, is_one_live, player_in}
use Rattle.limit_betting.specs.FixedLimits.{bet_of}
use Rattle.limit_betting.specs.Wagers.{limits_after, wagers}
use Rattle.pot_layers.specs.declared.put.Put.{Put}
use Rattle.pot_layers.specs.declared.pot_list.Pot.{Pot}
use Rattle.pot_layers.specs.Layers.{layers, with_dead, height_pots}
use Rattle.showdown.specs.Awards.{awards_of}
use Rattle.showdown.specs.Hands.{hands_of}
use Rattle.table_engine.specs.declared.start.HandStart.{HandStart}
use Rattle.table_engine.specs.declared.start.StartSeat.{StartSeat}
use Rattle.table_engine.specs.Acts.{acting_seat, is_dealt, limits_of, limits_on, act_checks, time_act, done_of_act}
use Rattle.table_engine.specs.Deals.{board_of}
use Rattle.table_engine.specs.Hands.{HandTerms, Streets, ante_of, ante_posted, bet_with, behind, by_seat, dead_chips, dealt_on, first_streets, has_ended, is_live, name_in_seat, players_by_seat, playing, posted, put_from, put_in_hand, put_so_far, seated, street_now, streets_after, streets_of, with_act, with_next_street, lacking}
use Rattle.table_engine.specs.Results.{award, live_on, live_in_hand, pot, pots_in_hand, put_at, puts_in_hand, showdown_awards, stack_after_hand, with_stack}
use Rattle.first_edition.specs.FirstHands.{IsFirstStart, IsAsBefore, old_seated, old_put_so_far, old_with_next_street, old_dealt_on, old_all_dealt_on, old_first_streets, old_streets_after, old_streets_of, old_act_checks, old_put_in_hand, old_behind, old_is_live, old_put_at, old_pot, old_pots_in_hand, old_showdown_awards, old_award, old_stack_after_hand, old_time_act}

-- Two functions that make the same of each item make the same list.
pub map_each : {A B : Type 0} (one other : A → B) → ((item : A) → one item ≡ other item) → (items : List A)
    → map one items ≡ map other items
map_each one other same [] = refl
map_each one other same (item ∷ items) =
    ap (λ first. first ∷ map one items) (same item) ∙ ap (◌∷◌ (other item)) (map_each one other same items)

sum_each : {A : Type 0} (one other : A → ℕ) → ((item : A) → one item ≡ other item) → (items : List A)
    → sum_by one items ≡ sum_by other items
sum_each one other same [] = refl
sum_each one other same (item ∷ items) =
    let here = same item in
    let later = sum_each one other same items in
    omega (arith, sum_by-cons one item items, sum_by-cons other item items, here, later)

sum_none : {A : Type 0} (one : A → ℕ) → ((item : A) → one item ≡ 0) → (items : List A) → sum_by one items ≡ 0
sum_none one none [] = refl
sum_none one none (item ∷ items) =
    let here = none item in
    let later = sum_none one none items in
    omega (arith, sum_by-cons one item items, here, later)

-- No ante is posted, and none is dead.
due_none : (start : HandStart) (seat : ℕ) → start.blind.ante ≡ 0 → ante_of start seat ≡ 0
due_none start seat none = by_mark (seat == start.marks.big)
  where
    by_mark : (b : Bool) → (if b then start.blind.ante else 0) ≡ 0
    by_mark true = none
    by_mark false = refl

posted_none : (start : HandStart) → start.blind.ante ≡ 0 → (player : StartSeat) → ante_posted start player ≡ 0
posted_none start none player =
    let due = due_none start player.seat none in
    ap (min (player.stack - posted start player)) due ∙ omega arith

playing_all : (start : HandStart) → start.blind.ante ≡ 0 → (player : StartSeat)
    → playing start player ≡ player.stack
playing_all start none player = let posted = posted_none start none player in omega (arith, posted)

dead_none : (start : HandStart) → start.blind.ante ≡ 0 → dead_chips start ≡ 0
dead_none start none = sum_none (ante_posted start) (posted_none start none) start.seats

-- The streets are as before.
seated_same : (start : HandStart) → start.blind.ante ≡ 0 → (player : Option StartSeat)
    → option_map (seated start) player ≡ option_map (old_seated start) player
seated_same start none None = refl
seated_same start none (Some player) =
    ap (λ (chips : ℕ). Some (record {
      seat = player.seat;
      put = posted start player;
      behind = chips - posted start player;
      live = true;
    })) (playing_all start none player)

first_same : (start : HandStart) → start.blind.ante ≡ 0 → first_streets start ≡ old_first_streets start
first_same start none =
    ap (λ (bettors : List (Option Bettor)). record {
      last = record {
        start = record {
          bettors = bettors;
          after = start.marks.big;
          opening = start.blind.big;
          big = start.blind.big;
          unit = start.blind.unit;
          counted = sum_over (lacking start) (players_by_seat start);
        };
        acts = [];
      };
      before = [];
      left = 3;
    }) (map_each (option_map (seated start)) (option_map (old_seated start)) (seated_same start none)
    (players_by_seat start))

bet_same : (start : HandStart) (left : ℕ) → start.cap ≡ 0 → bet_with start left ≡ start.blind.big
bet_same start left none =
    ap (λ (cap : ℕ). if cap == 0 then start.blind.big else bet_of start.blind.big (3 - left)) none

put_same : (start : HandStart) (streets : Streets) → start.blind.ante ≡ 0
    → put_so_far start streets ≡ old_put_so_far streets
put_same start streets none = let dead = dead_none start none in omega (arith, dead)

next_same : (start : HandStart) (streets : Streets) → IsFirstStart start
    → with_next_street start streets ≡ old_with_next_street start streets
next_same start streets none =
    ap (λ (big : ℕ). made big (put_so_far start streets)) (bet_same start (streets.left - 1) none.cap)
    ∙ ap (made start.blind.big) (put_same start streets none.ante)
  where
    made : ℕ → ℕ → Streets
    made big counted = record {
      last = record {
        start = record {
          bettors = next_bettors (street_now streets);
          after = start.marks.button;
          opening = 0;
          big = big;
          unit = start.blind.unit;
          counted = counted;
        };
        acts = [];
      };
      before = streets.last ∷ streets.before;
      left = streets.left - 1;
    }

dealt_same : (start : HandStart) (more : ℕ) (streets : Streets) → IsFirstStart start
    → dealt_on start more streets ≡ old_dealt_on start more streets
dealt_same start zero streets none = refl
dealt_same start (suc more) streets none =
    ap (λ (next : Streets). if has_ended (street_now streets) then next else streets)
    (dealt_same start more (with_next_street start streets) none
    ∙ ap (old_dealt_on start more) (next_same start streets none))

after_same : (start : HandStart) (acts : List SeatAct) → IsFirstStart start
    → streets_after start acts ≡ old_streets_after start acts
unfolding streets_after
after_same start [] none =
    dealt_same start 3 (first_streets start) none ∙ ap (old_all_dealt_on start) (first_same start none.ante)
after_same start (entry ∷ acts) none =
    dealt_same start (streets_after start acts).left (with_act (streets_after start acts) entry) none
    ∙ ap (λ (streets : Streets). old_all_dealt_on start (with_act streets entry)) (after_same start acts none)

streets_same : (hand : HandTerms) → IsFirstStart hand.start → streets_of hand ≡ old_streets_of hand
streets_same hand none = after_same hand.start (reverse (map (by_seat hand.start) hand.acts)) none

-- Acts are checked as before.
limits_same : (start : HandStart) (streets : Streets) → start.cap ≡ 0
    → limits_on start streets ≡ limits_of start.game
limits_same start streets none =
    ap (λ (cap : ℕ). if cap == 0 then limits_of start.game
    else limits_after start.cap streets.last.start streets.last.acts) none

checks_as : (hand : HandTerms) (name : List ℕ) (act : Act) → IsFirstStart hand.start
    → act_checks hand name act ≡ old_act_checks hand name act
unfolding act_checks
checks_as hand name act none =
    ap (λ (limits : Limits). (NotDealt, not (is_dealt hand.start name))
    ∷ seat_checks limits (street_now (streets_of hand)) (acting_seat hand name) act)
    (limits_same hand.start (streets_of hand) none.cap)
    ∙ ap (λ (streets : Streets). (NotDealt, not (is_dealt hand.start name))
    ∷ seat_checks (limits_of hand.start.game) (street_now streets) (acting_seat hand name) act)
    (streets_same hand none)

done_as : (hand : HandTerms) (name : List ℕ) (act : Act) → IsFirstStart hand.start
    → done_of_act hand name act ≡ done_by (facing_in (street_now (old_streets_of hand)) (acting_seat hand name)) act
unfolding done_of_act
done_as hand name act none =
    ap (λ (streets : Streets). done_by (facing_in (street_now streets) (acting_seat hand name)) act)
    (streets_same hand none)

-- A called time is as before.
time_same : (hand : HandTerms) → IsFirstStart hand.start → time_act hand ≡ old_time_act hand
unfolding time_act
time_same hand none =
    ap (λ (streets : Streets). record {
      name = unwrap_or (option_and_then (name_in_seat hand.start) (due_seat (street_now streets))) [];
      act = if nat_lt (facing_in (street_now streets) (unwrap_or (due_seat (street_now streets)) 0)).put
          (facing_in (street_now streets) (unwrap_or (due_seat (street_now streets)) 0)).level
          then Fold else Check;
      by_time = true;
    }) (streets_same hand none)

-- What was put in, and what is behind.
put_as : (hand : HandTerms) → IsFirstStart hand.start → (player : StartSeat)
    → put_in_hand hand player ≡ old_put_in_hand hand player
put_as hand none player =
    ap (λ (streets : Streets). put_from player.seat streets.last + sum_by (put_from player.seat) streets.before)
    (streets_same hand none)

behind_as : (hand : HandTerms) → IsFirstStart hand.start → (player : StartSeat)
    → behind hand player ≡ old_behind hand player
behind_as hand none player =
    ap (λ (chips : ℕ). chips - put_in_hand hand player) (playing_all hand.start none.ante player)
    ∙ ap (λ (put : ℕ). player.stack - put) (put_as hand none player)

live_as : (hand : HandTerms) → IsFirstStart hand.start → (player : StartSeat)
    → is_live hand player ≡ old_is_live hand player
live_as hand none player =
    ap (λ (streets : Streets). option_map_or (λ (other : Player). other.bettor.live)
    (player_in (street_now streets).players player.seat) false) (streets_same hand none)

-- The pots.
pot_as : (hand : HandTerms) → IsFirstStart hand.start → pot hand ≡ old_pot hand
pot_as hand none =
    let dead = dead_none hand.start none.ante in
    let puts = sum_each (put_in_hand hand) (old_put_in_hand hand) (put_as hand none) hand.start.seats in
    omega (arith, dead, puts)

put_at_as : (hand : HandTerms) → IsFirstStart hand.start → (player : Option StartSeat)
    → put_at hand player ≡ old_put_at hand player
put_at_as hand none None = refl
put_at_as hand none (Some player) =
    ap (λ (amount : ℕ). record { amount = amount; live = is_live hand player }) (put_as hand none player)
    ∙ ap (λ (live : Bool). record { amount = old_put_in_hand hand player; live = live }) (live_as hand none player)

with_none : (pots : List Pot) → with_dead 0 pots ≡ pots
with_none [] = refl
with_none (main ∷ more) =
    let same : main.amount + 0 ≡ main.amount = omega arith in
    ap (λ (amount : ℕ). record main { amount = amount } ∷ more) same

layers_none : (puts : List Put) (dead : ℕ) → dead ≡ 0 → layers puts dead ≡ height_pots puts
unfolding layers
layers_none puts dead none = ap (λ (dead : ℕ). with_dead dead (height_pots puts)) none ∙ with_none (height_pots puts)

pots_as : (hand : HandTerms) → IsFirstStart hand.start → pots_in_hand hand ≡ old_pots_in_hand hand
unfolding pots_in_hand puts_in_hand
pots_as hand none =
    layers_none (map (put_at hand) (players_by_seat hand.start)) (dead_chips hand.start)
    (dead_none hand.start none.ante)
    ∙ ap height_pots (map_each (put_at hand) (old_put_at hand) (put_at_as hand none) (players_by_seat hand.start))

-- The awards, and the stacks after a hand.
awards_as : (hand : HandTerms) → IsFirstStart hand.start → showdown_awards hand ≡ old_showdown_awards hand
unfolding showdown_awards live_in_hand
awards_as hand none =
    ap (λ (streets : Streets). awards_of (hands_of hand.start.game (board_of hand.start)
    (map (live_on hand.start (street_now streets)) (players_by_seat hand.start))) hand.start.blind.unit
    hand.start.marks.button hand.start.seat_count (pots_in_hand hand)) (streets_same hand none)
    ∙ ap (awards_of (hands_of hand.start.game (board_of hand.start) (map (live_on hand.start
    (street_now (old_streets_of hand))) (players_by_seat hand.start))) hand.start.blind.unit
    hand.start.marks.button hand.start.seat_count) (pots_as hand none)

award_as : (hand : HandTerms) → IsFirstStart hand.start → (player : StartSeat)
    → award hand player ≡ old_award hand player
award_as hand none player =
    ap (λ (streets : Streets). if is_one_live (street_now streets).players
    then (if is_live hand player then pot hand else 0)
    else slice_index_or (showdown_awards hand) (player.seat - 1) 0) (streets_same hand none)
    ∙ (ap (λ (live : Bool). if is_one_live (street_now (old_streets_of hand)).players
    then (if live then pot hand else 0)
    else slice_index_or (showdown_awards hand) (player.seat - 1) 0) (live_as hand none player)
    ∙ (ap (λ (pot : ℕ). if is_one_live (street_now (old_streets_of hand)).players
    then (if old_is_live hand player then pot else 0)
    else slice_index_or (showdown_awards hand) (player.seat - 1) 0) (pot_as hand none)
    ∙ ap (λ (awards : List ℕ). if is_one_live (street_now (old_streets_of hand)).players
    then (if old_is_live hand player then old_pot hand else 0)
    else slice_index_or awards (player.seat - 1) 0) (awards_as hand none)))

stack_as : (hand : HandTerms) → IsFirstStart hand.start → (player : StartSeat)
    → stack_after_hand hand player ≡ old_stack_after_hand hand player
stack_as hand none player =
    ap (λ (behind : ℕ). behind + award hand player) (behind_as hand none player)
    ∙ ap (λ (award : ℕ). old_behind hand player + award) (award_as hand none player)

-- All of a hand is as before.
pub hand_same : (hand : HandTerms) → IsFirstStart hand.start → IsAsBefore hand
hand_same hand none = record {
  antes = posted_none hand.start none.ante;
  playing = playing_all hand.start none.ante;
  dead = dead_none hand.start none.ante;
  limit = ap (λ (cap : ℕ). if cap == 0 then None
      else option_map (λ seat. record {
        bet = (streets_of hand).last.start.big;
        cap = hand.start.cap;
        wagers = wagers (streets_of hand).last.start (streets_of hand).last.acts;
      }) (due_seat (street_now (streets_of hand)))) none.cap;
  streets = streets_same hand none;
  over = ap (λ (streets : Streets). is_none (due_seat (street_now streets))) (streets_same hand none);
  checks = λ name act. checks_as hand name act none;
  done = λ name act. done_as hand name act none;
  time = ap (λ (streets : Streets). (HandOver, is_none (due_seat (street_now streets))) ∷ [])
      (streets_same hand none);
  time_act = time_same hand none;
  put = put_as hand none;
  behind = behind_as hand none;
  pot = pot_as hand none;
  pots = pots_as hand none;
  awards = awards_as hand none;
  stacks = stack_as hand none;
  players = map_each (λ player. with_stack player (stack_after_hand hand player))
      (λ player. with_stack player (old_stack_after_hand hand player))
      (λ player. ap (with_stack player) (stack_as hand none player)) hand.start.seats;
}
