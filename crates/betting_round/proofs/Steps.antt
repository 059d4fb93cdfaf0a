-- One act more: the street after it, from the street before it.
use Rattle.std.proofs.Common.{◌≡◌, ◌≢◌, ◌∙◌, ℕ, zero, suc, ◌+◌, ◌-◌, ◌≤◌, ◌<◌, ◌^◌, Bool, true, false, List, [], ◌∷◌, Some, None, refl, ap, sym, arith}
use Rattle.std.specs.Prelude.{Option, IsSome, ◌==◌, map, max, option_map, slice_index_or, slice_set, not, ◌&&◌, ◌||◌}
use Rattle.std.specs.Option.{is_some}
use Rattle.std.proofs.Math.Bool.{and-true}
use Rattle.std.proofs.lemmas.Bool.Decides.{nat_tests}
use Rattle.betting_round.specs.declared.act.Act.{Act}
use Rattle.betting_round.specs.declared.bettor.Bettor.{Bettor}
use Rattle.betting_round.specs.declared.bettor.Player.{Player}
use Rattle.betting_round.specs.declared.street.Street.{Street}
use Rattle.betting_round.specs.Acts.{amount, is_fold}
use Rattle.betting_round.specs.StreetActs.{StreetStart, SeatAct, AreSeated, IsStreetStart, chips_of, fresh, full_raise, greatest, has_folded, level, player_after, pot, put_by_acts, put_on_street, street_after, sum_over}
use Rattle.betting_round.specs.WhoIsDue.{player_at}
use Rattle.betting_round.specs.Running.{IsStreetKept, amount_of, moved, placed, stepped}

-- Who sits in later seats than this one is the same by two functions that differ at it alone.
later_same : {B : Type 0} (f g : Bettor → B) (seat from : ℕ) (bettors : List (Option Bettor))
    → ((other : Bettor) → other.seat ≢ seat → g other ≡ f other)
    → seat < from → AreSeated from bettors → map (option_map f) bettors ≡ map (option_map g) bettors
later_same f g seat from [] same less seated = refl
later_same f g seat from (None ∷ bettors) same less seated =
    ap (λ rest. None ∷ rest) (later_same f g seat (from + 1) bettors same (omega arith) seated)
later_same f g seat from (Some bettor ∷ bettors) same less seated =
    let here = same bettor (omega (arith, seated.0)) in
    let later = later_same f g seat (from + 1) bettors same (omega arith) seated.1 in cc

-- Where two functions differ at one player's seat alone, one more write makes one table of the other.
slots_set : {B : Type 0} (f g : Bettor → B) (bettor : Bettor) (from index : ℕ) (bettors : List (Option Bettor))
    → ((other : Bettor) → other.seat ≢ from + index → g other ≡ f other)
    → AreSeated from bettors → slice_index_or bettors index None ≡ Some bettor
    → slice_set (map (option_map f) bettors) index (Some (g bettor)) ≡ map (option_map g) bettors
slots_set f g bettor from index [] same seated there = absurd cc
slots_set f g bettor from zero (None ∷ bettors) same seated there = absurd cc
slots_set f g bettor from zero (Some other ∷ bettors) same seated there =
    let is : other ≡ bettor = cc in
    let later = later_same f g from (from + 1) bettors (λ who differs. same who (omega arith)) (omega arith) seated.1 in
    cc
slots_set f g bettor from (suc index) (None ∷ bettors) same seated there =
    ap (λ rest. None ∷ rest) (slots_set f g bettor (from + 1) index bettors
    (λ other differs. same other (omega arith)) seated there)
slots_set f g bettor from (suc index) (Some other ∷ bettors) same seated there =
    let here = same other (omega (arith, seated.0)) in
    let later = slots_set f g bettor (from + 1) index bettors
    (λ other differs. same other (omega arith)) seated.1 there in cc

-- The greatest number over a table, and over what the table is made from.
greatest_map : {A B : Type 0} (least : ℕ) (number : B → ℕ) (f : A → B) (slots : List (Option A))
    → greatest least number (map (option_map f) slots) ≡ greatest least (λ item. number (f item)) slots
greatest_map least number f [] = refl
greatest_map least number f (None ∷ slots) = greatest_map least number f slots
greatest_map least number f (Some item ∷ slots) = ap (max (number (f item))) (greatest_map least number f slots)

-- The greatest number over a table in which one has more.
greatest_set : {A : Type 0} (least index : ℕ) (number : A → ℕ) (before after : A) (slots : List (Option A))
    → slice_index_or slots index None ≡ Some before → number before ≤ number after
    → greatest least number (slice_set slots index (Some after)) ≡ max (greatest least number slots) (number after)
greatest_set least index number before after [] there more = absurd cc
greatest_set least zero number before after (None ∷ slots) there more = absurd cc
greatest_set least zero number before after (Some item ∷ slots) there more =
    let same : item ≡ before = cc in let is : number item ≡ number before = ap number same in omega arith
greatest_set least (suc index) number before after (None ∷ slots) there more =
    greatest_set least index number before after slots there more
greatest_set least (suc index) number before after (Some item ∷ slots) there more =
    let later = greatest_set least index number before after slots there more in omega arith

-- The sum over a table, and over what the table is made from.
pub sum_map : {A B : Type 0} (number : B → ℕ) (f : A → B) (slots : List (Option A))
    → sum_over number (map (option_map f) slots) ≡ sum_over (λ item. number (f item)) slots
sum_map number f [] = refl
sum_map number f (None ∷ slots) = sum_map number f slots
sum_map number f (Some item ∷ slots) = ap (λ n. number (f item) + n) (sum_map number f slots)

-- The sum over a table in which one has another number.
pub sum_set : {A : Type 0} (index : ℕ) (number : A → ℕ) (before after : A) (slots : List (Option A))
    → slice_index_or slots index None ≡ Some before
    → sum_over number (slice_set slots index (Some after)) + number before ≡ sum_over number slots + number after
sum_set index number before after [] there = absurd cc
sum_set zero number before after (None ∷ slots) there = absurd cc
sum_set zero number before after (Some item ∷ slots) there =
    let same : item ≡ before = cc in let is : number item ≡ number before = ap number same in omega arith
sum_set (suc index) number before after (None ∷ slots) there = sum_set index number before after slots there
sum_set (suc index) number before after (Some item ∷ slots) there =
    let later = sum_set index number before after slots there in omega arith

-- The number of one who is there is at most the sum.
pub sum_at : {A : Type 0} (index : ℕ) (number : A → ℕ) (item : A) (slots : List (Option A))
    → slice_index_or slots index None ≡ Some item → number item ≤ sum_over number slots
sum_at index number item [] there = absurd cc
sum_at zero number item (None ∷ slots) there = absurd cc
sum_at zero number item (Some other ∷ slots) there =
    let same : other ≡ item = cc in let is : number other ≡ number item = ap number same in omega arith
sum_at (suc index) number item (None ∷ slots) there = sum_at index number item slots there
sum_at (suc index) number item (Some other ∷ slots) there =
    let later = sum_at index number item slots there in omega arith

-- The sum of two numbers is the sum of the one and of the other.
pub sum_both : {A : Type 0} (one other : A → ℕ) (slots : List (Option A))
    → sum_over (λ item. one item + other item) slots ≡ sum_over one slots + sum_over other slots
sum_both one other [] = refl
sum_both one other (None ∷ slots) = sum_both one other slots
sum_both one other (Some item ∷ slots) = let later = sum_both one other slots in omega arith

-- A player sits in the seat of his place in the list.
seat_at : (bettor : Bettor) (from index : ℕ) (bettors : List (Option Bettor)) → AreSeated from bettors
    → slice_index_or bettors index None ≡ Some bettor → bettor.seat ≡ from + index
seat_at bettor from index [] seated there = absurd cc
seat_at bettor from zero (None ∷ bettors) seated there = absurd cc
seat_at bettor from zero (Some other ∷ bettors) seated there =
    let is : other ≡ bettor = cc in let seat : other.seat ≡ bettor.seat = ap (λ (b : Bettor). b.seat) is in
    omega (arith, seated.0)
seat_at bettor from (suc index) (None ∷ bettors) seated there =
    omega (arith, seat_at bettor (from + 1) index bettors seated there)
seat_at bettor from (suc index) (Some other ∷ bettors) seated there =
    omega (arith, seat_at bettor (from + 1) index bettors seated.1 there)

-- Who sits at an index of a table that is made from another.
pub map_at : {A B : Type 0} (f : A → B) (index : ℕ) (slots : List (Option A))
    → slice_index_or (map (option_map f) slots) index None ≡ option_map f (slice_index_or slots index None)
map_at f index [] = refl
map_at f zero (slot ∷ slots) = refl
map_at f (suc index) (slot ∷ slots) = map_at f index slots

-- Another's act changes nothing of a player.
other_after : (start : StreetStart) (acts : List SeatAct) (entry : SeatAct) (other : Bettor) → other.seat ≢ entry.seat
    → player_after start (entry ∷ acts) other ≡ player_after start acts other
unfolding put_by_acts
other_after start acts entry other differs =
    let no : (entry.seat == other.seat) ≡ false = grind (arith, nat_tests) in rw no

live_after : (live folded folds : Bool) → (live && not (folds || folded)) ≡ ((live && not folded) && not folds)
live_after false folded folds = refl
live_after true false false = refl
live_after true false true = refl
live_after true true false = refl
live_after true true true = refl

-- A player after an act of his own.
actor_after : (start : StreetStart) (acts : List SeatAct) (entry : SeatAct) (bettor : Bettor) → bettor.seat ≡ entry.seat
    → player_after start (entry ∷ acts) bettor ≡ moved
    (amount_of (level start acts) (player_after start acts bettor) entry.act)
    (player_after start acts bettor) entry.act
unfolding put_by_acts
actor_after start acts entry bettor same =
    let yes : (entry.seat == bettor.seat) ≡ true = grind (arith, nat_tests) in
    let sum = put_by_acts start acts bettor in
    let more = amount (level start acts) (bettor.put + sum) (bettor.behind - sum) entry.act in
    let put : bettor.put + (sum + more) ≡ (bettor.put + sum) + more = omega arith in
    let behind : bettor.behind - (sum + more) ≡ (bettor.behind - sum) - more = omega arith in
    let live = live_after bettor.live (has_folded acts bettor.seat) (is_fold entry.act) in
    rw (yes, put, behind, live)

-- The table after one act more.
players_after : (start : StreetStart) (acts : List SeatAct) (entry : SeatAct) (bettor : Bettor)
    → AreSeated 1 start.bettors → 1 ≤ entry.seat → slice_index_or start.bettors (entry.seat - 1) None ≡ Some bettor
    → map (option_map (player_after start (entry ∷ acts))) start.bettors
    ≡ slice_set (map (option_map (player_after start acts)) start.bettors) (entry.seat - 1)
    (Some (moved (amount_of (level start acts) (player_after start acts bettor) entry.act)
    (player_after start acts bettor) entry.act))
players_after start acts entry bettor seated low there =
    let seat = seat_at bettor 1 (entry.seat - 1) start.bettors seated there in
    let set = slots_set (player_after start acts) (player_after start (entry ∷ acts)) bettor 1
    (entry.seat - 1) start.bettors (λ other differs. other_after start acts entry other
    (omega arith)) seated there in
    let is = actor_after start acts entry bettor (omega arith) in
    cc

-- The table before the act has the player at his index.
player_before : (start : StreetStart) (acts : List SeatAct) (index : ℕ) (bettor : Bettor)
    → slice_index_or start.bettors index None ≡ Some bettor
    → slice_index_or (map (option_map (player_after start acts)) start.bettors) index None
    ≡ Some (player_after start acts bettor)
player_before start acts index bettor there = map_at (player_after start acts) index start.bettors
    ∙ ap (option_map (player_after start acts)) there

-- The bet level after one act more.
level_more : (start : StreetStart) (acts : List SeatAct) (entry : SeatAct) (bettor : Bettor) → AreSeated 1 start.bettors
    → 1 ≤ entry.seat → slice_index_or start.bettors (entry.seat - 1) None ≡ Some bettor
    → level start (entry ∷ acts) ≡ max (level start acts)
    (put_on_street start acts bettor + amount_of (level start acts) (player_after start acts bettor) entry.act)
level_more start acts entry bettor seated low there =
    let now = player_after start acts bettor in
    let after = moved (amount_of (level start acts) now entry.act) now entry.act in
    let put_of : Player → ℕ = λ player. player.bettor.put in
    let new = greatest_map start.opening put_of (player_after start (entry ∷ acts)) start.bettors in
    let old = greatest_map start.opening put_of (player_after start acts) start.bettors in
    let players = ap (greatest start.opening put_of) (players_after start acts entry bettor seated low there) in
    let at = player_before start acts (entry.seat - 1) bettor there in
    let set = greatest_set start.opening (entry.seat - 1) put_of now after
    (map (option_map (player_after start acts)) start.bettors) at (omega arith) in
    sym new ∙ players ∙ set ∙ ap (λ n. max n after.bettor.put) old

-- The pot after one act more.
pot_more : (start : StreetStart) (acts : List SeatAct) (entry : SeatAct) (bettor : Bettor) → AreSeated 1 start.bettors
    → 1 ≤ entry.seat → slice_index_or start.bettors (entry.seat - 1) None ≡ Some bettor
    → pot start (entry ∷ acts) ≡ pot start acts + amount_of (level start acts)
    (player_after start acts bettor) entry.act
pot_more start acts entry bettor seated low there =
    let now = player_after start acts bettor in
    let after = moved (amount_of (level start acts) now entry.act) now entry.act in
    let put_of : Player → ℕ = λ player. player.bettor.put in
    let new = sum_map put_of (player_after start (entry ∷ acts)) start.bettors in
    let old = sum_map put_of (player_after start acts) start.bettors in
    let players = ap (sum_over put_of) (players_after start acts entry bettor seated low there) in
    let at = player_before start acts (entry.seat - 1) bettor there in
    let set = sum_set (entry.seat - 1) put_of now after (map (option_map (player_after start acts)) start.bettors) at in
    omega arith

-- The street after one act more, by the player that the start has in the seat.
street_more : (start : StreetStart) (acts : List SeatAct) (entry : SeatAct) (bettor : Bettor)
    → AreSeated 1 start.bettors → 1 ≤ entry.seat → slice_index_or start.bettors (entry.seat - 1) None ≡ Some bettor
    → street_after start (entry ∷ acts) ≡ placed (street_after start acts) entry.seat
    (player_after start acts bettor) entry.act (amount_of (level start acts)
    (player_after start acts bettor) entry.act)
unfolding street_after
street_more start acts entry bettor seated low there =
    let players = players_after start acts entry bettor seated low there in
    let level_is = level_more start acts entry bettor seated low there in
    let pot_is = pot_more start acts entry bettor seated low there in
    let put = put_on_street start acts bettor + amount_of (level start acts)
    (player_after start acts bettor) entry.act in
    let full : max (full_raise start acts) (level start (entry ∷ acts) - level start acts)
    ≡ max (full_raise start acts) (put - level start acts) = rw level_is (omega arith) in
    rw (full, players, level_is, pot_is)

-- The street after one act more of a seat where somebody sits.
pub street_stepped : (start : StreetStart) (acts : List SeatAct) (entry : SeatAct) (now : Player)
    → AreSeated 1 start.bettors → 1 ≤ entry.seat → player_at (street_after start acts).players entry.seat ≡ Some now
    → street_after start (entry ∷ acts) ≡ stepped (street_after start acts) entry.seat entry.act
unfolding street_after
street_stepped start acts entry now seated low there = by_slot (slice_index_or start.bettors (entry.seat - 1) None) refl
  where
    by_slot : (slot : Option Bettor) → slice_index_or start.bettors (entry.seat - 1) None ≡ slot
        → street_after start (entry ∷ acts) ≡ stepped (street_after start acts) entry.seat entry.act
    by_slot None is = let at = map_at (player_after start acts) (entry.seat - 1) start.bettors in absurd cc
    by_slot (Some bettor) is =
        let at = map_at (player_after start acts) (entry.seat - 1) start.bettors in
        rw (at, is) (street_more start acts entry bettor seated low is)

-- The same for whatever start and acts a street stands for.
pub street_more_acts : (street : Street) (seat : ℕ) (act : Act) → 1 ≤ seat → IsSome (player_at street.players seat)
    → (start : StreetStart) (acts : List SeatAct) → IsStreetStart start → street ≡ street_after start acts
    → stepped street seat act ≡ street_after start (record { seat = seat; act = act } ∷ acts)
street_more_acts street seat act low sits start acts right is = by_slot (player_at street.players seat) refl
  where
    by_slot : (slot : Option Player) → player_at street.players seat ≡ slot
        → stepped street seat act ≡ street_after start (record { seat = seat; act = act } ∷ acts)
    by_slot None none = let no : is_some (player_at street.players seat) ≡ false = ap is_some none in absurd cc
    by_slot (Some now) some =
        let there : player_at (street_after start acts).players seat ≡ Some now =
        ap (λ (s : Street). player_at s.players seat) (sym is) ∙ some in
        ap (λ (s : Street). stepped s seat act) is ∙ sym
        (street_stepped start acts (record { seat = seat; act = act }) now right.seated low there)

-- A player before any act is as he began.
player_start : (start : StreetStart) (bettor : Bettor) → player_after start [] bettor ≡ fresh bettor
unfolding put_by_acts
player_start start bettor =
    let put : bettor.put + 0 ≡ bettor.put = omega arith in
    let behind : bettor.behind - 0 ≡ bettor.behind = omega arith in
    let live = and-true bettor.live in
    rw (put, behind, live)

-- A table before any act is as it began.
players_start : (start : StreetStart) (bettors : List (Option Bettor))
    → map (option_map (player_after start [])) bettors ≡ map (option_map fresh) bettors
players_start start [] = refl
players_start start (None ∷ bettors) = ap (λ rest. None ∷ rest) (players_start start bettors)
players_start start (Some bettor ∷ bettors) =
    let here = player_start start bettor in let later = players_start start bettors in cc

-- A street without acts.
pub street_start_is : (start : StreetStart)
    → street_after start [] ≡ record {
      players = map (option_map fresh) start.bettors;
      level = greatest start.opening (λ bettor. bettor.put) start.bettors;
      full = start.big;
      pot = start.counted + sum_over (λ bettor. bettor.put) start.bettors;
      unit = start.unit;
      after = start.after;
    }
unfolding street_after
street_start_is start =
    let put_of : Player → ℕ = λ player. player.bettor.put in
    let players = players_start start start.bettors in
    let level_is = sym (greatest_map start.opening put_of (player_after start []) start.bettors)
    ∙ ap (greatest start.opening put_of) players ∙ greatest_map start.opening put_of fresh start.bettors in
    let pot_is = sym (sum_map put_of (player_after start []) start.bettors) ∙ ap (sum_over put_of) players
    ∙ sum_map put_of fresh start.bettors in
    rw (← level_is, ← pot_is, players)

-- The greatest number is below a bound that the least and the sum are below.
greatest_below : {A : Type 0} (least most : ℕ) (number : A → ℕ) (slots : List (Option A)) → least < most
    → sum_over number slots < most → greatest least number slots < most
greatest_below least most number [] low few = low
greatest_below least most number (None ∷ slots) low few = greatest_below least most number slots low few
greatest_below least most number (Some item ∷ slots) low few =
    let later = greatest_below least most number slots low (omega arith) in omega arith

-- What all have put in is below the chips of all.
pub puts_below : (bettors : List (Option Bettor)) → sum_over (λ bettor. bettor.put) bettors ≤ sum_over chips_of bettors
puts_below bettors =
    let both = sum_both (λ (bettor : Bettor). bettor.put) (λ (bettor : Bettor). bettor.behind) bettors in omega arith

-- A street without acts is kept.
pub kept_start : (start : StreetStart) → IsStreetStart start
    → IsStreetKept (record {
      players = map (option_map fresh) start.bettors;
      level = greatest start.opening (λ bettor. bettor.put) start.bettors;
      full = start.big;
      pot = start.counted + sum_over (λ bettor. bettor.put) start.bettors;
      unit = start.unit;
      after = start.after;
    })
kept_start start right =
    let both = sum_both (λ (bettor : Bettor). bettor.put) (λ (bettor : Bettor). bettor.behind) start.bettors in
    let chips = sum_map (λ player. chips_of player.bettor) fresh start.bettors in
    let behind = sum_map (λ player. player.bettor.behind) fresh start.bettors in
    let few = right.chips in
    record {
      chips = omega arith;
      pot = omega arith;
      level = greatest_below start.opening (2 ^ 60) (λ (bettor : Bettor). bettor.put) start.bettors right.opening
          (omega arith);
      full = right.big;
      unit = right.unit;
    }

-- A street after an act of a player who has the chips for it is kept.
pub kept_placed : (street : Street) (seat : ℕ) (player : Player) (act : Act) (put_in : ℕ) → IsStreetKept street
    → player_at street.players seat ≡ Some player → put_in ≤ player.bettor.behind
    → IsStreetKept (placed street seat player act put_in)
kept_placed street seat player act put_in kept there held =
    let after = moved put_in player act in
    let chips = sum_set (seat - 1) (λ (p : Player). chips_of p.bettor) player after street.players there in
    let behind = sum_set (seat - 1) (λ (p : Player). p.bettor.behind) player after street.players there in
    let his = sum_at (seat - 1) (λ (p : Player). chips_of p.bettor) player street.players there in
    let few = kept.chips in
    let pot = kept.pot in
    let level = kept.level in
    let full = kept.full in
    record { chips = omega arith; pot = omega arith; level = omega arith; full = omega arith; unit = kept.unit }

-- An act of a player who has the chips for it keeps what he has put in from the end of its type.
pub few_put : (street : Street) (seat : ℕ) (player : Player) (put_in : ℕ) → IsStreetKept street
    → player_at street.players seat ≡ Some player → put_in ≤ player.bettor.behind
    → player.bettor.put + put_in < 2 ^ 60
few_put street seat player put_in kept there held =
    let his = sum_at (seat - 1) (λ (p : Player). chips_of p.bettor) player street.players there in
    let few = kept.chips in omega arith

-- An act of a player who has the chips for it keeps the pot from the end of its type.
pub few_in_pot : (street : Street) (seat : ℕ) (player : Player) (put_in : ℕ) → IsStreetKept street
    → player_at street.players seat ≡ Some player → put_in ≤ player.bettor.behind
    → street.pot + put_in < 2 ^ 60
few_in_pot street seat player put_in kept there held =
    let his = sum_at (seat - 1) (λ (p : Player). p.bettor.behind) player street.players there in
    let few = kept.pot in omega arith
