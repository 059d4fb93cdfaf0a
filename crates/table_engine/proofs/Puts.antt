-- The puts of a hand by its street as it stands, and what an act and the next street make of them.
use Rattle.std.proofs.Common.{◌≡◌, ◌∙◌, ℕ, zero, suc, ◌+◌, ◌-◌, ◌≤◌, Bool, true, false, cond, List, [], ◌∷◌, ◌++◌, length, map, Some, None, refl, ap, sym, inl, inr, arith}
use Rattle.std.specs.Prelude.{Option, ◌&&◌, not, option_map, slice_index_or, slice_set}
use Rattle.std.specs.Option.{is_some, option_map_or}
use Rattle.std.proofs.lemmas.Bool.{cases_Bool, cases_lt}
use Rattle.std.proofs.lemmas.List.Sums.{sum_by-cons}
use Rattle.betting_round.specs.declared.act.Act.{Act}
use Rattle.betting_round.specs.declared.bettor.Player.{Player}
use Rattle.betting_round.specs.declared.street.Street.{Street}
use Rattle.betting_round.specs.Acts.{is_fold}
use Rattle.betting_round.specs.ActChecks.{facing_in}
use Rattle.betting_round.specs.Running.{amount_of, moved, placed}
use Rattle.betting_round.specs.StreetActs.{SeatAct, at_next_street, fresh, sum_over}
use Rattle.betting_round.specs.WhoIsDue.{player_in}
use Rattle.betting_round.proofs.Acted.{Acts, who-acts}
use Rattle.betting_round.proofs.Steps.{street_start_is}
use Rattle.pot_layers.specs.declared.put.Put.{Put}
use Rattle.pot_layers.specs.Tallies.{total_put}
use Rattle.table_engine.specs.declared.record.ActOf.{ActOf}
use Rattle.table_engine.specs.declared.start.HandStart.{HandStart}
use Rattle.table_engine.specs.declared.start.StartSeat.{StartSeat}
use Rattle.table_engine.specs.Acts.{limits_on, refusal_in_seat, refusal_of_act, time_act}
use Rattle.table_engine.specs.Hands.{HandTerms, Streets, dead_chips, dealt_on, first_street, first_streets, has_ended, is_live, later_street, player_of, players_by_seat, playing, posted, put_in_hand, seat_of_name, seated, street_now, street_of, streets_of, with_act, with_next_street}
use Rattle.table_engine.specs.Plays.{IsLawfulPlay}
use Rattle.table_engine.specs.Results.{put_at, puts_in_hand}
use Rattle.table_engine.specs.Starts.{IsLawfulStart, chips_of}
use Rattle.table_engine.specs.Tellings.{first_put, told}
use Rattle.table_engine.proofs.BySeat.{along-at, along-past, found-within, player_in-there, some-at, sum-of_start}
use Rattle.table_engine.proofs.Chips.{playing-dead, stands}
use Rattle.table_engine.proofs.Plays.{lawful_play-more, lawful_play-none}
use Rattle.table_engine.proofs.Refusals.{refused-in_seat}
use Rattle.table_engine.proofs.Sound.{IsSound, placed-is, sound-play}
use Rattle.table_engine.proofs.Running.{streets-more, streets-none}
use Rattle.table_engine.proofs.Starts.{player_of-seat}

-- Nothing is put in where nobody is dealt in.
abbrev pub no_put : Put
no_put = record { amount = 0; live = false }

-- What a player of the start has put in who stands so on the street: what he no longer has behind.
abbrev pub put_between : HandStart → Option StartSeat → Option Player → Put
put_between start None slot = no_put
put_between start (Some player) None = no_put
put_between start (Some player) (Some now) =
    record { amount = playing start player - now.bettor.behind; live = now.bettor.live }

-- The puts of the players of the start who stand so on the street.
abbrev pub puts_of : HandStart → List (Option StartSeat) → List (Option Player) → List Put
puts_of start [] slots = []
puts_of start (player ∷ players) [] = []
puts_of start (player ∷ players) (slot ∷ slots) = put_between start player slot ∷ puts_of start players slots

-- One put more in front of puts that are the same.
also : (first : Put) (one other : List Put) → one ≡ other → first ∷ one ≡ first ∷ other
also first one other same = ap (λ puts. first ∷ puts) same

-- The next street changes nothing of what was put in.
pub puts-next : (start : HandStart) (players : List (Option StartSeat)) (slots : List (Option Player))
    → puts_of start players (map (option_map fresh) (map (option_map at_next_street) slots)) ≡ puts_of start players slots
puts-next start [] slots = refl
puts-next start (player ∷ players) [] = refl
puts-next start (None ∷ players) (slot ∷ slots) = also _ _ _ (puts-next start players slots)
puts-next start (Some player ∷ players) (None ∷ slots) = also _ _ _ (puts-next start players slots)
puts-next start (Some player ∷ players) (Some now ∷ slots) = also _ _ _ (puts-next start players slots)

-- What was put in before any act.
puts-seated : (start : HandStart) (players : List (Option StartSeat))
    → puts_of start players (map (option_map fresh) (map (option_map (seated start)) players)) ≡ map (first_put start) players
puts-seated start [] = refl
puts-seated start (None ∷ players) = also _ _ _ (puts-seated start players)
puts-seated start (Some player ∷ players) =
    let put : playing start player - (playing start player - posted start player) ≡ posted start player = omega arith in
    rw put (also _ _ _ (puts-seated start players))

-- Streets that begin change nothing of what was put in.
pub puts-dealt : (start : HandStart) (players : List (Option StartSeat)) (left : ℕ) (streets : Streets)
    → puts_of start players (street_now (dealt_on start left streets)).players ≡ puts_of start players (street_now streets).players
puts-dealt start players zero streets = refl
puts-dealt start players (suc left) streets =
    elim (cases_Bool (has_ended (street_now streets))) [
      | inl ended ↦
          rw ended
          (puts-dealt start players left (with_next_street start streets)
          ∙ ap (λ (s : Street). puts_of start players s.players) (street_start_is (later_street start streets))
          ∙ puts-next start players (street_now streets).players)
      | inr open_ ↦ rw open_ refl
    ]

-- The puts after an act, by the slots: where one player has another slot.
puts-told : (start : HandStart) (folds : Bool) (put_in index : ℕ) (now after : Player) (player : StartSeat)
    (players : List (Option StartSeat)) (slots : List (Option Player))
    → slice_index_or players index None ≡ Some player → slice_index_or slots index None ≡ Some now
    → playing start player - after.bettor.behind ≡ playing start player - now.bettor.behind + put_in
    → after.bettor.live ≡ cond folds false now.bettor.live
    → puts_of start players (slice_set slots index (Some after)) ≡ told (puts_of start players slots) index put_in folds
puts-told start folds put_in index now after player [] slots listed there amount live = absurd cc
puts-told start folds put_in index now after player (other ∷ players) [] listed there amount live = absurd cc
puts-told start true put_in zero now after player (other ∷ players) (slot ∷ slots) listed there amount live =
    rw (listed, there, amount, live) refl
puts-told start false put_in zero now after player (other ∷ players) (slot ∷ slots) listed there amount live =
    rw (listed, there, amount, live) refl
puts-told start true put_in (suc index) now after player (other ∷ players) (slot ∷ slots) listed there amount live =
    also _ _ _ (puts-told start true put_in index now after player players slots listed there amount live)
puts-told start false put_in (suc index) now after player (other ∷ players) (slot ∷ slots) listed there amount live =
    also _ _ _ (puts-told start false put_in index now after player players slots listed there amount live)

-- Nobody puts in more than he has to play with.
puts-few : (start : HandStart) (players : List (Option StartSeat)) (slots : List (Option Player))
    → total_put (puts_of start players slots) ≤ sum_over (playing start) players
puts-few start [] slots = omega arith
puts-few start (None ∷ players) [] = omega arith
puts-few start (Some player ∷ players) [] = omega arith
puts-few start (None ∷ players) (slot ∷ slots) =
    let later = puts-few start players slots in
    let all = sum_by-cons (λ (put : Put). put.amount) no_put (puts_of start players slots) in omega arith
puts-few start (Some player ∷ players) (None ∷ slots) =
    let later = puts-few start players slots in
    let all = sum_by-cons (λ (put : Put). put.amount) no_put (puts_of start players slots) in omega arith
puts-few start (Some player ∷ players) (Some now ∷ slots) =
    let later = puts-few start players slots in
    let all = sum_by-cons (λ (put : Put). put.amount) (put_between start (Some player) (Some now)) (puts_of start players slots) in
    omega arith

-- There is room for what a player puts in who has it behind.
puts-room : (start : HandStart) (put_in index : ℕ) (now : Player) (player : StartSeat) (players : List (Option StartSeat))
    (slots : List (Option Player))
    → slice_index_or players index None ≡ Some player → slice_index_or slots index None ≡ Some now
    → put_in ≤ now.bettor.behind → now.bettor.behind ≤ playing start player
    → total_put (puts_of start players slots) + put_in ≤ sum_over (playing start) players
puts-room start put_in index now player [] slots listed there held within = absurd cc
puts-room start put_in index now player (other ∷ players) [] listed there held within = absurd cc
puts-room start put_in zero now player (other ∷ players) (slot ∷ slots) listed there held within =
    let later = puts-few start players slots in
    let all = sum_by-cons (λ (put : Put). put.amount) (put_between start (Some player) (Some now)) (puts_of start players slots) in
    rw (listed, there) (omega arith)
puts-room start put_in (suc index) now player (None ∷ players) (slot ∷ slots) listed there held within =
    let later = puts-room start put_in index now player players slots listed there held within in
    let all = sum_by-cons (λ (put : Put). put.amount) no_put (puts_of start players slots) in omega arith
puts-room start put_in (suc index) now player (Some other ∷ players) (None ∷ slots) listed there held within =
    let later = puts-room start put_in index now player players slots listed there held within in
    let all = sum_by-cons (λ (put : Put). put.amount) no_put (puts_of start players slots) in omega arith
puts-room start put_in (suc index) now player (Some other ∷ players) (Some slot ∷ slots) listed there held within =
    let later = puts-room start put_in index now player players slots listed there held within in
    let all = sum_by-cons (λ (put : Put). put.amount) (put_between start (Some other) (Some slot)) (puts_of start players slots) in
    omega arith

-- The puts of a list of players, where each is what he no longer has behind.
same-puts : (hand : HandTerms) (players : List (Option StartSeat)) (slots : List (Option Player))
    → map is_some slots ≡ map is_some players
    → ((index : ℕ) (player : StartSeat) (now : Player) → slice_index_or players index None ≡ Some player
    → slice_index_or slots index None ≡ Some now
    → put_at hand (Some player) ≡ put_between hand.start (Some player) (Some now))
    → map (put_at hand) players ≡ puts_of hand.start players slots
same-puts hand [] slots there each = refl
same-puts hand (player ∷ players) [] there each = absurd cc
same-puts hand (None ∷ players) (None ∷ slots) there each =
    let rest : map is_some slots ≡ map is_some players = cc in
    also _ _ _ (same-puts hand players slots rest (λ index. each (suc index)))
same-puts hand (None ∷ players) (Some now ∷ slots) there each = absurd cc
same-puts hand (Some player ∷ players) (None ∷ slots) there each = absurd cc
same-puts hand (Some player ∷ players) (Some now ∷ slots) there each =
    let rest : map is_some slots ≡ map is_some players = cc in
    let here = each 0 player now refl refl in
    let later = same-puts hand players slots rest (λ index. each (suc index)) in
    ap (λ (put : Put). put ∷ map (put_at hand) players) here ∙ also _ _ _ later

-- Who is listed at an index is found at the seat after it, and sits there.
pub listed-found : (start : HandStart) (index : ℕ) (player : StartSeat)
    → slice_index_or (players_by_seat start) index None ≡ Some player
    → (player.seat ≡ index + 1) × (player_of start player.seat ≡ Some player)
listed-found start index player listed =
    elim (cases_lt index 10) [
      | inl within ↦
          let back : 0 + index + 1 ≡ index + 1 = omega arith in
          let found : player_of start (index + 1) ≡ Some player =
          ap (player_of start) (sym back) ∙ sym (along-at (player_of start) 10 0 index within) ∙ listed in
          let sits = player_of-seat start (index + 1) player found in
          (sits, ap (player_of start) sits ∙ found)
      | inr past ↦
          let none = along-past (player_of start) 10 0 index past in let never : None ≡ Some player = sym none
          ∙ listed in absurd cc
    ]

-- Who stands at an index of a street was dealt in there.
pub dealt-there : (start : HandStart) (slots : List (Option Player)) (index : ℕ) (now : Player)
    → map is_some slots ≡ map is_some (players_by_seat start)
    → slice_index_or slots index None ≡ Some now → (player : StartSeat) ×
    (slice_index_or (players_by_seat start) index None ≡ Some player)
dealt-there start slots index now there sits = by_slot (slice_index_or (players_by_seat start) index None) refl
  where
    some : is_some (slice_index_or (players_by_seat start) index None) ≡ true
    some =
        sym (some-at (players_by_seat start) index) ∙ ap (λ tests. slice_index_or tests index false) (sym there)
        ∙ some-at slots index ∙ ap is_some sits

    by_slot : (slot : Option StartSeat) → slice_index_or (players_by_seat start) index None ≡ slot
        → (player : StartSeat) × (slice_index_or (players_by_seat start) index None ≡ Some player)
    by_slot None is = let none : is_some (slice_index_or (players_by_seat start) index None) ≡ false =
        ap is_some is in let both = some in absurd cc
    by_slot (Some player) is = (player, is)

-- The puts of a hand, by its street as it stands.
pub puts-hand : (hand : HandTerms) → IsLawfulStart hand.start → IsLawfulPlay hand
    → puts_in_hand hand ≡ puts_of hand.start (players_by_seat hand.start) (street_of hand).players
unfolding puts_in_hand
puts-hand hand lawful play =
    let sound = sound-play hand lawful play in
    same-puts hand (players_by_seat hand.start) (street_of hand).players sound.there
    (λ index player now listed there.
    let found = listed-found hand.start index player listed in
    let his = stands hand player lawful sound found.1 in
    let sits = found.0 in
    let low : 1 ≤ player.seat = omega arith in
    let back : player.seat - 1 ≡ index = omega arith in
    let at : player_in (street_of hand).players player.seat ≡ Some now =
    player_in-there (street_of hand).players player.seat low
    ∙ ap (λ (n : ℕ). slice_index_or (street_of hand).players n None) back ∙ there in
    let same : Some his.0 ≡ Some now = sym his.1.there ∙ at in
    let him : his.0 ≡ now = cc in
    let behind = ap (λ (p : Player). p.bettor.behind) him in
    let stack = his.1.stack in
    let amount : put_in_hand hand player ≡ playing hand.start player - now.bettor.behind = omega arith in
    let live : is_live hand player ≡ now.bettor.live =
    ap (λ (slot : Option Player). option_map_or (λ (other : Player). other.bettor.live) slot false) at in
    rw (amount, live) refl)

-- Before any act what was put in is what was posted.
pub puts-begun : (start : HandStart) → IsLawfulStart start
    → puts_in_hand (record { start = start; acts = [] }) ≡ map (first_put start) (players_by_seat start)
puts-begun start lawful =
    puts-hand (record { start = start; acts = [] }) lawful (lawful_play-none start)
    ∙ ap (λ (streets : Streets). puts_of start (players_by_seat start) (street_now streets).players) (streets-none start)
    ∙ puts-dealt start (players_by_seat start) 3 (first_streets start)
    ∙ ap (λ (s : Street). puts_of start (players_by_seat start) s.players) (street_start_is (first_street start))
    ∙ puts-seated start (players_by_seat start)

-- What was put in before any act and the antes are within the stacks.
pub begun-few : (start : HandStart) → IsLawfulStart start
    → total_put (map (first_put start) (players_by_seat start)) + dead_chips start ≤ chips_of start.seats
begun-few start lawful =
    let puts = ap total_put (puts-seated start (players_by_seat start)) in
    let few = puts-few start (players_by_seat start) (map (option_map fresh)
    (map (option_map (seated start)) (players_by_seat start))) in
    let all = sum-of_start start (playing start) lawful in
    let stacks = playing-dead start in
    omega arith

-- All that was put in and the antes are within the stacks.
pub hand-few : (hand : HandTerms) → IsLawfulStart hand.start → IsLawfulPlay hand
    → total_put (puts_in_hand hand) + dead_chips hand.start ≤ chips_of hand.start.seats
hand-few hand lawful play =
    let puts = ap total_put (puts-hand hand lawful play) in
    let few = puts-few hand.start (players_by_seat hand.start) (street_of hand).players in
    let all = sum-of_start hand.start (playing hand.start) lawful in
    let stacks = playing-dead hand.start in
    omega arith

-- What an act tells the tally: how much was put in at the seat, and the puts once it is told.
pub record Tells (hand : HandTerms) (seat : ℕ) (act : Act) (put_in : ℕ) : Type 0 where
  pub low : 1 ≤ seat
  pub high : seat ≤ 10
  pub put : (facing_in (street_now (with_act (streets_of hand) (record { seat = seat; act = act }))) seat).put ≡
      (facing_in (street_of hand) seat).put + put_in
  pub room : total_put (puts_in_hand hand) + dead_chips hand.start + put_in ≤ chips_of hand.start.seats
  pub puts : puts_of hand.start (players_by_seat hand.start) (street_now
      (with_act (streets_of hand) (record { seat = seat; act = act }))).players
      ≡ told (puts_in_hand hand) (seat - 1) put_in (is_fold act)

-- Who is put into a slot where somebody is, is there.
set-there : (slots : List (Option Player)) (index : ℕ) (was now : Player) → slice_index_or slots index None ≡ Some was
    → slice_index_or (slice_set slots index (Some now)) index None ≡ Some now
set-there [] index was now there = absurd cc
set-there (slot ∷ slots) zero was now there = refl
set-there (slot ∷ slots) (suc index) was now there = set-there slots index was now there

folds-live : (live folds : Bool) → (live && not folds) ≡ cond folds false live
folds-live true true = refl
folds-live true false = refl
folds-live false true = refl
folds-live false false = refl

-- The puts after an act that is not refused, by the streets.
pub puts-moved : (start : HandStart) (streets : Streets) (acts seat : ℕ) (act : Act) (now : Player)
    → IsSound start streets acts
    → Acts (limits_on start streets) (street_now streets) seat act now
    → puts_of start (players_by_seat start) (placed (street_now streets) seat now act
    (amount_of (street_now streets).level now act)).players
    ≡ told (puts_of start (players_by_seat start) (street_now streets).players) (seat - 1)
    (amount_of (street_now streets).level now act) (is_fold act)
puts-moved start streets acts seat act now sound acted =
    let street = street_now streets in
    let put_in = amount_of street.level now act in
    let dealt = dealt-there start street.players (seat - 1) now sound.there acted.sits in
    let player = dealt.0 in
    let found = listed-found start (seat - 1) player dealt.1 in
    let low = acted.low in
    let covered = acted.covered in
    let sits = found.0 in
    let same_seat : player.seat ≡ seat = omega arith in
    let his = sound.each seat now low acted.sits in
    let stack = his.stack player (ap (player_of start) (sym same_seat) ∙ found.1) in
    let few : now.bettor.behind ≤ playing start player = omega arith in
    let amount : playing start player - (now.bettor.behind - put_in) ≡ playing start player - now.bettor.behind + put_in =
    omega arith in
    puts-told start (is_fold act) put_in (seat - 1) now (moved put_in now act) player (players_by_seat start) street.players
    dealt.1 acted.sits amount
    (folds-live now.bettor.live (is_fold act))

-- What an act that is not refused tells.
pub act-tells : (hand : HandTerms) (seat : ℕ) (act : Act) → IsLawfulStart hand.start → IsLawfulPlay hand
    → refusal_in_seat hand act seat ≡ None
    → (put_in : ℕ) × Tells hand seat act put_in
act-tells hand seat act lawful play free =
    let sound = sound-play hand lawful play in
    let street = street_of hand in
    let streets = streets_of hand in
    let entry : SeatAct = record { seat = seat; act = act } in
    let acting = who-acts (limits_on hand.start (streets_of hand)) street seat act free in
    let now = acting.0 in
    let acted = acting.1 in
    let put_in = amount_of street.level now act in
    let after = moved put_in now act in
    let limits = limits_on hand.start (streets_of hand) in
    let is = placed-is limits streets.last.start streets.last.acts entry now sound.right acted in
    let dealt = dealt-there hand.start street.players (seat - 1) now sound.there acted.sits in
    let player = dealt.0 in
    let found = listed-found hand.start (seat - 1) player dealt.1 in
    let low = acted.low in
    let covered = acted.covered in
    let sits = found.0 in
    let within = found-within hand.start player.seat player lawful found.1 in
    let his = stands hand player lawful sound found.1 in
    let same_seat : player.seat ≡ seat = omega arith in
    let at : player_in street.players player.seat ≡ Some now =
    ap (player_in street.players) same_seat ∙ player_in-there street.players seat low ∙ acted.sits in
    let same : Some his.0 ≡ Some now = sym his.1.there ∙ at in
    let him : his.0 ≡ now = cc in
    let behind = ap (λ (p : Player). p.bettor.behind) him in
    let stack = his.1.stack in
    let few : now.bettor.behind ≤ playing hand.start player = omega arith in
    let puts = puts-hand hand lawful play in
    let total = ap total_put puts in
    let room = puts-room hand.start put_in (seat - 1) now player (players_by_seat hand.start) street.players dealt.1 acted.sits
    covered few in
    let all = sum-of_start hand.start (playing hand.start) lawful in
    let stacks = playing-dead hand.start in
    let before : player_in street.players seat ≡ Some now = player_in-there street.players seat low ∙ acted.sits in
    let later : player_in (placed street seat now act put_in).players seat ≡ Some after =
    player_in-there (placed street seat now act put_in).players seat low
    ∙ set-there street.players (seat - 1) now after acted.sits in
    let high = within.2 in (
      put_in,
      record {
        low = low;
        high = omega arith;
        put =
            ap (λ (s : Street). (facing_in s seat).put) is
            ∙ ap (λ (slot : Option Player). option_map_or (λ (p : Player). p.bettor.put) slot 0) later
            ∙ ap (λ (slot : Option Player). option_map_or (λ (p : Player). p.bettor.put) slot 0 + put_in) (sym before);
        room = omega arith;
        puts =
            ap (λ (s : Street). puts_of hand.start (players_by_seat hand.start) s.players) is
            ∙ puts-moved hand.start streets (length hand.acts) seat act now sound acted
            ∙ ap (λ (all_puts : List Put). told all_puts (seat - 1) put_in (is_fold act)) (sym puts);
      },
    )

-- The puts after one more act that is not refused.
pub puts-more : (hand : HandTerms) (act : ActOf) (seat : ℕ) → IsLawfulStart hand.start → IsLawfulPlay hand
    → seat_of_name hand.start act.name ≡ Some seat
    → refusal_in_seat hand act.act seat ≡ None → (act.by_time ≡ true → act ≡ time_act hand)
    → puts_in_hand (record { start = hand.start; acts = hand.acts ++ act ∷ [] })
    ≡ puts_of hand.start (players_by_seat hand.start) (street_now
    (with_act (streets_of hand) (record { seat = seat; act = act.act }))).players
puts-more hand act seat lawful play found free called =
    let refused : refusal_of_act hand act.name act.act ≡ None = refused-in_seat hand act.name act.act seat found
    ∙ free in
    let more = lawful_play-more hand act play refused called in
    let streets = with_act (streets_of hand) (record { seat = seat; act = act.act }) in
    puts-hand (record { start = hand.start; acts = hand.acts ++ act ∷ [] }) lawful more
    ∙ ap (λ (all : Streets). puts_of hand.start (players_by_seat hand.start) (street_now all).players)
    (streets-more hand.start hand.acts act seat found)
    ∙ puts-dealt hand.start (players_by_seat hand.start) streets.left streets
