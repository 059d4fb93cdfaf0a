-- The betting of a hand after each step: where the next street begins, and after an act.
use Rattle.std.proofs.Common.{Bool, cond, ◌*◌, ◌≡◌, ◌≢◌, ◌∙◌, ℕ, zero, suc, ◌+◌, ◌-◌, ◌≤◌, true, false, List, [], ◌∷◌, ◌++◌, map, Some, None, refl, ap, sym, arith, ◌<◌, ◌^◌}
use Rattle.std.specs.Prelude.{Option, ◌==◌, nat_le, option_map, reverse}
use Rattle.std.specs.Option.{is_some}
use Rattle.std.proofs.lemmas.Bool.{and_parts, leb-true}
use Rattle.std.proofs.lemmas.List.Sums.{sum_by-cons}
use Rattle.betting_round.specs.declared.bettor.Bettor.{Bettor}
use Rattle.betting_round.specs.declared.bettor.Player.{Player}
use Rattle.betting_round.specs.declared.street.Street.{Street}
use Rattle.betting_round.specs.StreetActs.{AreSeated, IsStreetStart, SeatAct, StreetStart, at_next_street, chips_of, chips_on, fresh, next_bettors, player_after, put_by_all, street_after, street_start, sum_over}
use Rattle.betting_round.specs.declared.act.Act.{Act}
use Rattle.betting_round.specs.ActChecks.{act_refusal}
use Rattle.betting_round.specs.Limits.{Limits}
use Rattle.betting_round.proofs.Steps.{street_start_is, sum_both, sum_map}
use Rattle.betting_round.proofs.Turns.{chips-kept}
use Rattle.limit_betting.specs.Wagers.{is_wager, wagers}
use Rattle.limit_betting.proofs.Bounded.{level-of, wagers-few}
use Rattle.std.proofs.lemmas.List.{map-append, reverse-append}
use Rattle.rulebook.proofs.Found.{somes-made}
use Rattle.table_engine.specs.declared.record.ActOf.{ActOf}
use Rattle.table_engine.specs.declared.start.HandStart.{HandStart}
use Rattle.table_engine.specs.declared.betting.Betting.{Betting}
use Rattle.table_engine.specs.Starts.{IsLawfulStart}
use Rattle.table_engine.specs.Hands.{Streets, all_dealt_on, bet_with, by_seat, dealt_on, first_streets, has_ended, later_street, put_on, put_so_far, seat_of_name, street_now, streets_after, streets_of, with_act, with_next_street}
use Rattle.table_engine.specs.Running.{IsAt, IsReady}

-- Where a street has not ended no other begins.
pub dealt_on-open : (start : HandStart) (left : ℕ) (streets : Streets) → has_ended (street_now streets) ≡ false
    → dealt_on start left streets ≡ streets
dealt_on-open start zero streets open_ = refl
dealt_on-open start (suc left) streets open_ = rw open_

-- Where a street has ended and others may begin, the next one begins.
pub dealt_on-ended : (start : HandStart) (left : ℕ) (streets : Streets) → 1 ≤ left
    → has_ended (street_now streets) ≡ true → dealt_on start left streets
    ≡ dealt_on start (left - 1) (with_next_street start streets)
dealt_on-ended start zero streets some ended = absurd (omega arith)
dealt_on-ended start (suc left) streets some ended = let one : suc left - 1 ≡ left = omega arith in rw (ended, one)

-- Somebody is in each slot of a street where one began it.
pub somes-street : (start : StreetStart) (acts : List SeatAct)
    → map is_some (street_after start acts).players ≡ map is_some start.bettors
unfolding street_after
somes-street start acts = somes-made (player_after start acts) start.bettors

-- Players keep their seats in a table that is made of one that is made of theirs.
seated-made : (f : Bettor → Player) (from : ℕ) (bettors : List (Option Bettor))
    → ((bettor : Bettor) → (f bettor).bettor.seat ≡ bettor.seat) → AreSeated from bettors
    → AreSeated from (map (option_map at_next_street) (map (option_map f) bettors))
seated-made f from [] keeps seats = tt
seated-made f from (None ∷ bettors) keeps seats = seated-made f (from + 1) bettors keeps seats
seated-made f from (Some bettor ∷ bettors) keeps seats =
    (keeps bettor ∙ seats.0, seated-made f (from + 1) bettors keeps seats.1)

-- The players of a street sit in their seats when the next one begins.
pub seated-next : (start : StreetStart) (acts : List SeatAct) → AreSeated 1 start.bettors
    → AreSeated 1 (next_bettors (street_after start acts))
unfolding street_after
seated-next start acts seats = seated-made (player_after start acts) 1 start.bettors (λ bettor. refl) seats

-- The chips of a street without acts are those of its players.
pub chips-start : (start : StreetStart) → chips_on (street_after start []) ≡ sum_over chips_of start.bettors
chips-start start =
    ap chips_on (street_start_is start) ∙ sum_map (λ (player : Player). chips_of player.bettor) fresh start.bettors

-- The chips of a street are what was put in and what is behind.
chips-parts : (street : Street) → chips_on street ≡ put_by_all street + sum_over chips_of (next_bettors street)
chips-parts street =
    let both = sum_both (λ (player : Player). player.bettor.put)
    (λ (player : Player). player.bettor.behind) street.players in
    let next = sum_map chips_of at_next_street street.players in
    let none = behind-only street.players in
    both ∙ omega arith
  where
    behind-only : (players : List (Option Player)) → sum_over
        (λ (player : Player). chips_of (at_next_street player)) players
        ≡ sum_over (λ (player : Player). player.bettor.behind) players
    behind-only [] = refl
    behind-only (None ∷ players) = behind-only players
    behind-only (Some player ∷ players) = let later = behind-only players in omega arith

-- The blinds and the unit of a lawful start.
lawful-tests : (start : HandStart) → IsLawfulStart start
    → (nat_le 1 start.blind.unit ≡ true) × (nat_le 1 start.blind.small ≡ true) ×
    (nat_le start.blind.small start.blind.big ≡ true) ×
    (nat_le start.blind.big 1000000000 ≡ true)
lawful-tests start lawful =
    let unit = and_parts (nat_le 1 start.blind.unit) _ lawful.blinds in
    let small = and_parts (nat_le 1 start.blind.small) _ unit.1 in
    let order = and_parts (nat_le start.blind.small start.blind.big) _ small.1 in
    let big = and_parts (nat_le start.blind.big 1000000000) _ order.1 in
    (unit.0, small.0, order.0, big.0)

-- The big blind of a lawful start is at most 1000000000 chips.
pub lawful-big : (start : HandStart) → IsLawfulStart start → start.blind.big ≤ 1000000000
lawful-big start lawful = leb-true start.blind.big 1000000000 (lawful-tests start lawful).3

-- The small blind of a lawful start is at most the big blind.
pub lawful-small : (start : HandStart) → IsLawfulStart start → start.blind.small ≤ start.blind.big
lawful-small start lawful = leb-true start.blind.small start.blind.big (lawful-tests start lawful).2

-- The big blind of a lawful start is above 0.
pub lawful-some : (start : HandStart) → IsLawfulStart start → 0 < start.blind.big
lawful-some start lawful =
    let small = leb-true 1 start.blind.small (lawful-tests start lawful).1 in
    let order = lawful-small start lawful in
    omega arith

-- The unit of a lawful start is at least one chip.
pub lawful-unit : (start : HandStart) → IsLawfulStart start → 1 ≤ start.blind.unit
lawful-unit start lawful = leb-true 1 start.blind.unit (lawful-tests start lawful).0

-- A bet of a street of a lawful start is above 0 and at most twice the greatest big blind.
pub lawful-bet : (start : HandStart) (left : ℕ) → IsLawfulStart start
    → (0 < bet_with start left) × (bet_with start left ≤ 2000000000)
lawful-bet start left lawful =
    let big = lawful-big start lawful in
    let some = lawful-some start lawful in
    by_cap (start.cap == 0) (nat_le (3 - left) 1) big some
  where
    by_cap : (none low : Bool) → start.blind.big ≤ 1000000000 → 0 < start.blind.big
        → (0 < cond none start.blind.big (cond low start.blind.big (2 * start.blind.big)))
        × (cond none start.blind.big (cond low start.blind.big (2 * start.blind.big)) ≤ 2000000000)
    by_cap true low big some = (omega arith, omega arith)
    by_cap false true big some = (omega arith, omega arith)
    by_cap false false big some = (omega arith, omega arith)

-- The next street may begin where the hand is ready for it.
pub right-next : (start : HandStart) (betting : Betting) (counted left : ℕ) → IsLawfulStart start → IsReady betting
    → counted ≡ betting.before + put_by_all betting.round
    → IsStreetStart (street_start (next_bettors betting.round) start.marks.button 0 (bet_with start left)
    start.blind.unit counted)
right-next start betting counted left lawful ready is =
    let parts = chips-parts betting.round in
    let few = ready.chips in
    let big = (lawful-bet start left lawful).1 in
    let unit = lawful-unit start lawful in
    record { seated = ready.seated; chips = omega arith; opening = omega arith; big = omega arith; unit = omega arith }

-- A hand on a street that has just begun is ready for the next.
pub ready-start : (start : StreetStart) (betting : Betting) → IsStreetStart start
    → betting.round ≡ street_after start [] → betting.before + sum_over chips_of start.bettors < 2 ^ 60
    → betting.bet ≡ start.big → 0 < start.big → betting.wagers ≡ wagers start [] → IsReady betting
ready-start start betting right is few bet some count =
    let chips = ap chips_on is ∙ chips-start start in
    let big = right.big in
    let wagers_so = wagers-few start [] some in
    let level = ap (λ (s : Street). s.level) is in
    record {
      seated = rw is (seated-next start [] right.seated);
      chips = omega arith;
      some_bet = omega arith;
      few_bet = omega arith;
      few_wagers = omega arith;
    }

-- The hand stands on its streets and the next.
pub at-next : (start : HandStart) (streets : Streets) (betting after : Betting) → IsLawfulStart start
    → IsReady betting → 1 ≤ betting.left → IsAt start streets betting
    → after.round ≡ street_after (street_start (next_bettors betting.round) start.marks.button 0
    (bet_with start (betting.left - 1)) start.blind.unit
    (betting.before + put_by_all betting.round)) []
    → after.before ≡ betting.before + put_by_all betting.round → after.left ≡ betting.left - 1
    → after.bet ≡ bet_with start (betting.left - 1) → after.wagers ≡ 0
    → IsAt start (with_next_street start streets) after
at-next start streets betting after lawful ready some at round before left bet count =
    let put : put_by_all betting.round ≡ put_on streets.last = ap put_by_all at.round in
    let all = sum_by-cons put_on streets.last streets.before in
    let counted : betting.before + put_by_all betting.round ≡ put_so_far start streets = let was = at.before in
    omega arith in
    let bettors = ap next_bettors at.round in
    let same_bet : bet_with start (betting.left - 1) ≡ bet_with start (streets.left - 1) =
    ap (λ (n : ℕ). bet_with start (n - 1)) at.left in
    let same : street_start (next_bettors betting.round) start.marks.button 0 (bet_with start (betting.left - 1))
    start.blind.unit (betting.before + put_by_all betting.round) ≡ later_street start streets =
    rw (bettors, counted, same_bet) in
    record {
      round = round ∙ ap (λ (s : StreetStart). street_after s []) same;
      before = before ∙ counted ∙ omega arith;
      left = left ∙ ap (λ (n : ℕ). n - 1) at.left;
      bet = bet ∙ same_bet;
      wagers = count;
      right = rw (← same) (right-next start betting (betting.before + put_by_all betting.round) (betting.left - 1)
          lawful ready refl);
    }

-- The hand stands on its streets after an act that is not refused.
pub at-act : (start : HandStart) (streets : Streets) (betting after : Betting) (seat : ℕ) (act : Act)
    → IsAt start streets betting
    → after.round ≡ street_after streets.last.start (record { seat = seat; act = act } ∷ streets.last.acts)
    → after.before ≡ betting.before → after.left ≡ betting.left → after.bet ≡ betting.bet
    → after.wagers ≡ betting.wagers
    + cond (is_wager betting.bet betting.round.level after.round.level) 1 0
    → IsAt start (with_act streets (record { seat = seat; act = act })) after
at-act start streets betting after seat act at round before left bet count =
    let entry : SeatAct = record { seat = seat; act = act } in
    let was = ap (λ (s : Street). s.level) at.round ∙ level-of streets.last.start streets.last.acts in
    let now = ap (λ (s : Street). s.level) round ∙ level-of streets.last.start (entry ∷ streets.last.acts) in
    record {
      round = round;
      before = before ∙ at.before;
      left = left ∙ at.left;
      bet = bet ∙ at.bet;
      wagers = count ∙ rw (at.wagers, at.bet, was, now) refl;
      right = at.right;
    }

-- The hand is ready for the next street after an act that is not refused.
pub ready-act : (start : HandStart) (limits : Limits) (streets : Streets) (betting after : Betting) (seat : ℕ) (act : Act)
    → IsAt start streets betting → IsReady betting → act_refusal limits betting.round seat act ≡ None
    → after.round ≡ street_after streets.last.start (record { seat = seat; act = act } ∷ streets.last.acts)
    → after.before ≡ betting.before → after.bet ≡ betting.bet
    → after.wagers ≡ wagers streets.last.start (record { seat = seat; act = act } ∷ streets.last.acts) → IsReady after
ready-act start limits streets betting after seat act at ready accepted round before bet count =
    let entry : SeatAct = record { seat = seat; act = act } in
    let free : act_refusal limits (street_now streets) seat act ≡ None = rw (← at.round) accepted in
    let kept = chips-kept limits streets.last.start streets.last.acts entry at.right free in
    let was = ap chips_on at.round in
    let now = ap chips_on round in
    let few = ready.chips in
    let some_so = ready.some_bet in
    let few_so = ready.few_bet in
    let same = at.bet in
    let wagers_so = wagers-few streets.last.start (entry ∷ streets.last.acts) (omega arith) in
    let level = ap (λ (s : Street). s.level) round in
    record {
      seated = rw round (seated-next streets.last.start (entry ∷ streets.last.acts) at.right.seated);
      chips = omega arith;
      some_bet = omega arith;
      few_bet = omega arith;
      few_wagers = omega arith;
    }

-- Somebody is in each slot after an act where one was before it.
pub there-act : (start : HandStart) (streets : Streets) (betting : Betting) (after : Street) (seat : ℕ) (act : Act)
    → IsAt start streets betting
    → after ≡ street_after streets.last.start (record { seat = seat; act = act } ∷ streets.last.acts)
    → map is_some after.players ≡ map is_some betting.round.players
there-act start streets betting after seat act at round =
    ap (λ (s : Street). map is_some s.players) round
    ∙ somes-street streets.last.start (record { seat = seat; act = act } ∷ streets.last.acts)
    ∙ sym (somes-street streets.last.start streets.last.acts)
    ∙ sym (ap (λ (s : Street). map is_some s.players) at.round)

-- The streets of a hand before any act.
pub streets-none : (start : HandStart) → streets_after start [] ≡ dealt_on start 3 (first_streets start)
unfolding streets_after
streets-none start = refl

-- The streets of a hand after one more act.
pub streets-more : (start : HandStart) (acts : List ActOf) (act : ActOf) (seat : ℕ)
    → seat_of_name start act.name ≡ Some seat
    → streets_of (record { start = start; acts = acts ++ act ∷ [] })
    ≡ all_dealt_on start (with_act (streets_of (record { start = start; acts = acts }))
    (record { seat = seat; act = act.act }))
unfolding streets_after
streets-more start acts act seat found =
    let made = map-append (by_seat start) acts (act ∷ []) in
    let turned = reverse-append (map (by_seat start) acts) (by_seat start act ∷ []) in
    let entry : by_seat start act ≡ record { seat = seat; act = act.act } = rw found in
    let list : reverse (map (by_seat start) (acts ++ act ∷ []))
    ≡ record { seat = seat; act = act.act } ∷ reverse (map (by_seat start) acts) = ap reverse made ∙ turned
    ∙ ap (λ e. e ∷ reverse (map (by_seat start) acts)) entry in
    ap (streets_after start) list

-- A hand whose street has not ended stands on the same streets.
pub at-open : (start : HandStart) (streets : Streets) (betting : Betting) → has_ended betting.round ≡ false
    → IsAt start streets betting → IsAt start (dealt_on start betting.left streets) betting
at-open start streets betting open_ at =
    let same = dealt_on-open start betting.left streets (ap has_ended (sym at.round) ∙ open_) in rw same at

-- A hand whose street has ended stands on the streets that begin after the next.
pub at-ended : (start : HandStart) (streets : Streets) (betting next after : Betting) → betting.left ≢ 0
    → has_ended betting.round ≡ true → next.left + 1 ≡ betting.left → IsAt start streets betting
    → IsAt start (dealt_on start next.left (with_next_street start streets)) after
    → IsAt start (dealt_on start betting.left streets) after
at-ended start streets betting next after some ended left at rest =
    let same = dealt_on-ended start betting.left streets (omega arith) (ap has_ended (sym at.round) ∙ ended) in
    let one : betting.left - 1 ≡ next.left = omega arith in
    rw (same, one) rest
