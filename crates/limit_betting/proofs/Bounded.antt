-- On a street of fixed limit the bet level is bounded: each wager raises it by one bet at most, there are no more wagers
-- than the cap says, and each raise that is no wager is of a player who has nothing behind afterwards.
use Rattle.std.proofs.Common.{◌≡◌, ◌∙◌, ℕ, zero, suc, ◌+◌, ◌-◌, ◌*◌, ◌≤◌, ◌<◌, Bool, true, false, cond, List, [], ◌∷◌, length, map, Some, None, refl, ap, sym, inl, inr, arith}
use Rattle.std.specs.Prelude.{Option, ◌==◌, ◌&&◌, max, nat_lt, option_map, slice_index_or}
use Rattle.std.specs.Option.{option_map_or}
use Rattle.std.proofs.Math.Nat.{add-mul, mul-le-mul_right}
use Rattle.std.proofs.lemmas.Bool.{cases_Bool, eq-eqb, leb-false, leb-true, ltb-true, ne_eqb}
use Rattle.std.proofs.lemmas.Bool.Decides.{nat_tests}
use Rattle.std.proofs.lemmas.List.{length-map}
use Rattle.betting_round.specs.declared.bettor.Bettor.{Bettor}
use Rattle.betting_round.specs.declared.bettor.Player.{Player}
use Rattle.betting_round.specs.declared.street.Street.{Street}
use Rattle.betting_round.specs.ActChecks.{act_refusal}
use Rattle.betting_round.specs.Running.{amount_of, moved, placed}
use Rattle.betting_round.specs.StreetActs.{SeatAct, StreetStart, full_raise, greatest, level, player_after, put_on_street, street_after, sum_over}
use Rattle.betting_round.specs.WhoIsDue.{player_at}
use Rattle.betting_round.proofs.Acted.{Acts, who-acts}
use Rattle.betting_round.proofs.Steps.{street_stepped, sum_set}
use Rattle.betting_round.proofs.Turns.{level-grows}
use Rattle.limit_betting.specs.FixedLimits.{LimitTerms}
use Rattle.limit_betting.specs.Wagers.{AreLimited, IsLimitStart, is_wager, leaves_chips, limits_after, raises, wagers}
use Rattle.limit_betting.proofs.Rises.{rises}

-- Who has nothing behind counts as one.
broke : Player → ℕ
broke player = cond (player.bettor.behind == 0) 1 0

-- How many have nothing behind.
all_broke : Street → ℕ
all_broke street = sum_over broke street.players

-- The street's own level and full raise are those of its acts.
pub level-of : (start : StreetStart) (acts : List SeatAct) → (street_after start acts).level ≡ level start acts
unfolding street_after
level-of start acts = refl

full-of : (start : StreetStart) (acts : List SeatAct) → (street_after start acts).full ≡ full_raise start acts
unfolding street_after
full-of start acts = refl

-- A number of one in a slot is at most the greatest of the numbers of those that they are made of.
within-greatest : (least : ℕ) (number : Bettor → ℕ) (f : Bettor → Player) (slots : List (Option Bettor)) (index : ℕ)
    (now : Player) → ((bettor : Bettor) → (f bettor).bettor.put ≡ number bettor)
    → slice_index_or (map (option_map f) slots) index None ≡ Some now → now.bettor.put ≤ greatest least number slots
within-greatest least number f [] index now each there = absurd cc
within-greatest least number f (None ∷ slots) zero now each there = absurd cc
within-greatest least number f (None ∷ slots) (suc index) now each there =
    within-greatest least number f slots index now each there
within-greatest least number f (Some bettor ∷ slots) zero now each there =
    let same : f bettor ≡ now = cc in
    let put = ap (λ (p : Player). p.bettor.put) same in
    let his = each bettor in
    omega arith
within-greatest least number f (Some bettor ∷ slots) (suc index) now each there =
    let later = within-greatest least number f slots index now each there in omega arith

-- Nobody has put in more than the bet level.
pub met-level : (start : StreetStart) (acts : List SeatAct) (seat : ℕ) (now : Player)
    → player_at (street_after start acts).players seat ≡ Some now → now.bettor.put ≤ level start acts
unfolding street_after
met-level start acts seat now there =
    within-greatest start.opening (put_on_street start acts) (player_after start acts) start.bettors (seat - 1) now
    (λ bettor. refl) there

-- As many have nothing behind at most as there are slots.
few-broke : (slots : List (Option Player)) → sum_over broke slots ≤ length slots
unfolding broke
few-broke [] = omega arith
few-broke (None ∷ slots) = let later = few-broke slots in omega arith
few-broke (Some player ∷ slots) = let later = few-broke slots in by_test (player.bettor.behind == 0) later
  where
    by_test : (none : Bool) → sum_over broke slots ≤ length slots
        → cond none 1 0 + sum_over broke slots ≤ suc (length slots)
    by_test true later = omega arith
    by_test false later = omega arith

-- The greatest number is at least the least.
least-greatest : (least : ℕ) (number : Bettor → ℕ) (slots : List (Option Bettor)) → least ≤ greatest least number slots
least-greatest least number [] = omega arith
least-greatest least number (None ∷ slots) = least-greatest least number slots
least-greatest least number (Some bettor ∷ slots) = let later = least-greatest least number slots in omega arith

-- There are no more wagers than the chips of the bet level: each raises it by a chip at least.
wagers-level : (start : StreetStart) (acts : List SeatAct) → 0 < start.big → wagers start acts ≤ level start acts
wagers-level start [] some =
    let least = least-greatest start.opening (put_on_street start []) start.bettors in
    elim (cases_Bool (nat_lt 0 start.opening)) [
      | inl opens ↦
          let blind = ltb-true 0 start.opening opens in
          let one : wagers start [] ≡ 1 = rw opens refl in
          omega arith
      | inr none ↦ let zero_so : wagers start [] ≡ 0 = rw none refl in omega arith
    ]
wagers-level start (entry ∷ acts) some =
    let before = wagers-level start acts some in
    let grows = level-grows start entry acts in
    elim (cases_Bool (is_wager start.big (level start acts) (level start (entry ∷ acts)))) [
      | inl wager ↦
          let risen = leb-true start.big (2 * (level start (entry ∷ acts) - level start acts)) wager in
          let one_more : wagers start (entry ∷ acts) ≡ wagers start acts + 1 = rw wager refl in
          omega arith
      | inr short ↦
          let same : wagers start (entry ∷ acts) ≡ wagers start acts + 0 = rw short refl in omega arith
    ]

-- The same of the street as it stands.
pub wagers-few : (start : StreetStart) (acts : List SeatAct) → 0 < start.big
    → wagers start acts ≤ (street_after start acts).level
wagers-few start acts some =
    let few = wagers-level start acts some in let is = level-of start acts in omega arith

-- What holds of a street of fixed limit after each act.
record IsWithin (cap : ℕ) (start : StreetStart) (acts : List SeatAct) : Type 0 where
  few : wagers start acts ≤ cap
  one_bet : (street_after start acts).full ≡ start.big
  bound : 2 * level start acts ≤ 2 * (wagers start acts * start.big) + all_broke (street_after start acts) * start.big

-- Before any act.
within-none : (cap : ℕ) (start : StreetStart) → 1 ≤ cap → IsLimitStart start → IsWithin cap start []
unfolding street_after
within-none cap start some is =
    elim is.opens [
      | inl none ↦
          let low = is.level in
          let count : wagers start [] ≡ 0 = rw none refl in
          record { few = omega arith; one_bet = refl; bound = omega arith }
      | inr blind ↦
          let low = is.level in
          let bet = is.bet in
          let opens : nat_lt 0 start.opening ≡ true = grind (arith, nat_tests) in
          let count : wagers start [] ≡ 1 = rw opens refl in
          let once : 1 * start.big ≡ start.big = omega arith in
          let product = ap (λ (n : ℕ). n * start.big) count ∙ once in
          record { few = omega arith; one_bet = refl; bound = omega arith }
    ]

-- The street after an act that is not refused.
placed-is : (cap : ℕ) (start : StreetStart) (acts : List SeatAct) (entry : SeatAct) (now : Player) → IsLimitStart start
    → Acts (limits_after cap start acts) (street_after start acts) entry.seat entry.act now
    → street_after start (entry ∷ acts) ≡ placed (street_after start acts) entry.seat now entry.act
    (amount_of (street_after start acts).level now entry.act)
placed-is cap start acts entry now right acted =
    let street = street_after start acts in
    street_stepped start acts entry now right.right.seated acted.low acted.sits
    ∙ ap (λ (slot : Option Player). option_map_or (λ player. placed street entry.seat player entry.act
    (amount_of street.level player entry.act)) slot street) acted.sits

-- One act more.
within-more : (cap : ℕ) (start : StreetStart) (acts : List SeatAct) (entry : SeatAct) → IsLimitStart start
    → IsWithin cap start acts
    → act_refusal (limits_after cap start acts) (street_after start acts) entry.seat entry.act ≡ None
    → IsWithin cap start (entry ∷ acts)
unfolding broke all_broke
within-more cap start acts entry right within free =
    let street = street_after start acts in
    let bet = start.big in
    let terms : LimitTerms = record { bet = bet; cap = cap; wagers = wagers start acts } in
    let acting = who-acts (limits_after cap start acts) street entry.seat entry.act free in
    let now = acting.0 in
    let acted = acting.1 in
    let put_in = amount_of street.level now entry.act in
    let after = moved put_in now entry.act in
    let is = placed-is cap start acts entry now right acted in
    let was = level-of start acts in
    let met = met-level start acts entry.seat now acted.sits in
    let old_full = within.one_bet in
    let top : level start (entry ∷ acts) ≡ max street.level (now.bettor.put + put_in) =
    sym (level-of start (entry ∷ acts)) ∙ ap (λ (s : Street). s.level) is in
    let full : (street_after start (entry ∷ acts)).full ≡ max street.full (now.bettor.put + put_in - street.level) =
    ap (λ (s : Street). s.full) is in
    let sums = sum_set (entry.seat - 1) broke now after street.players acted.sits in
    let count = ap (λ (s : Street). sum_over broke s.players) is in
    let more = acted.more in
    let rich : (now.bettor.behind == 0) ≡ false = ne_eqb now.bettor.behind 0 (λ none. omega (arith, more, none)) in
    let none : broke now ≡ 0 = rw rich refl in
    let positive = right.bet in
    let old = within.bound in
    let few = within.few in
    let k = sum_over broke street.players in
    let grown : k ≤ sum_over broke (street_after start (entry ∷ acts)).players = omega arith in
    let grown_bets = mul-le-mul_right bet grown in
    elim (rises terms street entry.seat entry.act now acted (omega arith)) [
      | inl stays ↦
          let same : level start (entry ∷ acts) ≡ level start acts = omega arith in
          let small : is_wager bet (level start acts) (level start (entry ∷ acts)) ≡ false = grind (arith, nat_tests) in
          let same_count : wagers start (entry ∷ acts) ≡ wagers start acts + 0 = rw small refl in
          let plus_none : wagers start acts + 0 ≡ wagers start acts = omega arith in
          let products = ap (λ (n : ℕ). n * bet) (same_count ∙ plus_none) in
          record { few = omega arith; one_bet = omega arith; bound = omega arith }
      | inr raise ↦
          let above = raise.above in
          let most = raise.most in
          let room = raise.room in
          elim (cases_Bool (is_wager bet (level start acts) (level start (entry ∷ acts)))) [
            | inl wager ↦
                let one_more : wagers start (entry ∷ acts) ≡ wagers start acts + 1 = rw wager refl in
                let product = ap (λ (n : ℕ). n * bet) one_more ∙ add-mul (wagers start acts) 1 bet in
                let once : 1 * bet ≡ bet = omega arith in
                record { few = omega arith; one_bet = omega arith; bound = omega arith }
            | inr short ↦
                let less = leb-false bet (2 * (level start (entry ∷ acts) - level start acts)) short in
                let same_count : wagers start (entry ∷ acts) ≡ wagers start acts + 0 = rw short refl in
                let plus_none : wagers start acts + 0 ≡ wagers start acts = omega arith in
                let products = ap (λ (n : ℕ). n * bet) (same_count ∙ plus_none) in
                elim raise.large [
                  | inl large ↦ absurd (omega arith)
                  | inr whole ↦
                      let nothing_left : now.bettor.behind - put_in ≡ 0 = omega arith in
                      let poor : (now.bettor.behind - put_in == 0) ≡ true = eq-eqb _ 0 nothing_left in
                      let one : broke after ≡ 1 = rw poor refl in
                      let one_more : sum_over broke (street_after start (entry ∷ acts)).players ≡ k + 1 = omega arith in
                      let product = ap (λ (n : ℕ). n * bet) one_more ∙ add-mul k 1 bet in
                      let once : 1 * bet ≡ bet = omega arith in
                      record { few = omega arith; one_bet = omega arith; bound = omega arith }
                ]
          ]
    ]

-- After all acts that are not refused.
within-all : (cap : ℕ) (start : StreetStart) (acts : List SeatAct) → 1 ≤ cap → IsLimitStart start
    → AreLimited cap start acts → IsWithin cap start acts
within-all cap start [] some right limited = within-none cap start some right
within-all cap start (entry ∷ acts) some right limited =
    within-more cap start acts entry right (within-all cap start acts some right limited.1) limited.0

-- There are as many slots as the street began with.
length-slots : (start : StreetStart) (acts : List SeatAct)
    → length (street_after start acts).players ≡ length start.bettors
unfolding street_after
length-slots start acts = length-map start.bettors (option_map (player_after start acts))

-- The bet level is at most as many bets as the cap says and five.
pub level-bound : (cap : ℕ) (start : StreetStart) (acts : List SeatAct) → 1 ≤ cap → IsLimitStart start
    → AreLimited cap start acts → level start acts ≤ (cap + 5) * start.big
unfolding all_broke
level-bound cap start acts some right limited =
    let within = within-all cap start acts some right limited in
    let bet = start.big in
    let few = few-broke (street_after start acts).players in
    let slots = length-slots start acts in
    let seats = right.seats in
    let ten : sum_over broke (street_after start acts).players ≤ 10 = omega arith in
    let wagered = mul-le-mul_right bet within.few in
    let poor = mul-le-mul_right bet ten in
    let all = add-mul cap 5 bet in
    let old = within.bound in
    omega arith

-- Nobody puts in more.
pub put-bound : (cap : ℕ) (start : StreetStart) (acts : List SeatAct) (seat : ℕ) (player : Player) → 1 ≤ cap
    → IsLimitStart start → AreLimited cap start acts → 1 ≤ seat
    → player_at (street_after start acts).players seat ≡ Some player → player.bettor.put ≤ (cap + 5) * start.big
put-bound cap start acts seat player some right limited low there =
    let met = met-level start acts seat player there in
    let bound = level-bound cap start acts some right limited in
    omega arith

-- There are no more wagers than the cap says.
pub wagers-bound : (cap : ℕ) (start : StreetStart) (acts : List SeatAct) → 1 ≤ cap → IsLimitStart start
    → AreLimited cap start acts → wagers start acts ≤ cap
wagers-bound cap start acts some right limited = (within-all cap start acts some right limited).few

-- The full raise is the bet.
pub full-bound : (cap : ℕ) (start : StreetStart) (acts : List SeatAct) → 1 ≤ cap → IsLimitStart start
    → AreLimited cap start acts → full_raise start acts ≡ start.big
full-bound cap start acts some right limited =
    sym (full-of start acts) ∙ (within-all cap start acts some right limited).one_bet

-- One is no more than one, whatever is asked.
one-at_most : (asked : Bool) → cond asked 1 0 ≤ 1
one-at_most true = omega arith
one-at_most false = omega arith

-- What both hold of holds not where the second does not.
not-both : (one : Bool) → one && false ≡ false
not-both true = refl
not-both false = refl

-- An act that raises the bet level and is no all-in is a wager.
raise-wager : (cap : ℕ) (start : StreetStart) (acts : List SeatAct) (entry : SeatAct) → IsLimitStart start
    → IsWithin cap start acts
    → act_refusal (limits_after cap start acts) (street_after start acts) entry.seat entry.act ≡ None
    → cond (nat_lt (level start acts) (level start (entry ∷ acts)) && leaves_chips start acts entry) 1 0
    ≤ cond (is_wager start.big (level start acts) (level start (entry ∷ acts))) 1 0
raise-wager cap start acts entry right within free =
    let street = street_after start acts in
    let bet = start.big in
    let terms : LimitTerms = record { bet = bet; cap = cap; wagers = wagers start acts } in
    let acting = who-acts (limits_after cap start acts) street entry.seat entry.act free in
    let now = acting.0 in
    let acted = acting.1 in
    let put_in = amount_of street.level now entry.act in
    let is = placed-is cap start acts entry now right acted in
    let was = level-of start acts in
    let met = met-level start acts entry.seat now acted.sits in
    let old_full = within.one_bet in
    let top : level start (entry ∷ acts) ≡ max street.level (now.bettor.put + put_in) =
    sym (level-of start (entry ∷ acts)) ∙ ap (λ (s : Street). s.level) is in
    elim (cases_Bool (is_wager bet (level start acts) (level start (entry ∷ acts)))) [
      | inl wager ↦
          let most = one-at_most (nat_lt (level start acts) (level start (entry ∷ acts)) && leaves_chips start acts entry) in
          rw wager most
      | inr short ↦
          let less = leb-false bet (2 * (level start (entry ∷ acts) - level start acts)) short in
          elim (cases_Bool (nat_lt (level start acts) (level start (entry ∷ acts)))) [
            | inr level_stays ↦ rw (short, level_stays) (omega arith)
            | inl risen ↦
                let above = ltb-true (level start acts) (level start (entry ∷ acts)) risen in
                elim (rises terms street entry.seat entry.act now acted (omega arith)) [
                  | inl stays ↦ absurd (omega arith)
                  | inr raise ↦ elim raise.large [
                    | inl large ↦ absurd (omega arith)
                    | inr whole ↦
                        let all : (put_in == now.bettor.behind) ≡ true = eq-eqb put_in now.bettor.behind whole in
                        let none : leaves_chips start acts entry ≡ false = rw (acted.sits, all) refl in
                        let both = not-both (nat_lt (level start acts) (level start (entry ∷ acts))) in
                        rw (short, none, both) (omega arith)
                  ]
                ]
          ]
    ]

-- Acts that raise the bet level and are no all-in are no more than the wagers.
raises-wagers : (cap : ℕ) (start : StreetStart) (acts : List SeatAct) → 1 ≤ cap → IsLimitStart start
    → AreLimited cap start acts → raises start acts ≤ wagers start acts
raises-wagers cap start [] some right limited = omega arith
raises-wagers cap start (entry ∷ acts) some right limited =
    let before = raises-wagers cap start acts some right limited.1 in
    let one_more = raise-wager cap start acts entry right (within-all cap start acts some right limited.1) limited.0 in
    omega arith

-- So there are no more of them than the cap says.
pub raises-bound : (cap : ℕ) (start : StreetStart) (acts : List SeatAct) → 1 ≤ cap → IsLimitStart start
    → AreLimited cap start acts → raises start acts ≤ cap
raises-bound cap start acts some right limited =
    let few = wagers-bound cap start acts some right limited in
    let fewer = raises-wagers cap start acts some right limited in
    omega arith
