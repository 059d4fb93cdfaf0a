-- What an act that is not refused tells of who acts, and how much less he can still do afterwards.
use Rattle.std.proofs.Common.{◌≡◌, ◌∙◌, ℕ, ◌+◌, ◌-◌, ◌≤◌, ◌<◌, Bool, true, false, cond, Some, None, inl, inr, arith}
use Rattle.std.specs.Prelude.{◌==◌, ◌&&◌, ◌||◌, min, not, nat_lt}
use Rattle.std.proofs.lemmas.Bool.{and_parts, cases_Bool, eqb-true, not-true}
use Rattle.std.proofs.lemmas.Bool.Decides.{nat_tests}
use Rattle.rulebook.specs.Checks.{first_that_holds}
use Rattle.rulebook.proofs.Checks.{none_holds, none_holds-both}
use Rattle.betting_round.specs.declared.act.Act.{Act}
use Rattle.betting_round.specs.declared.act.Act.TheVariants.{Fold, Check, Call, AllIn, Bet, Raise}
use Rattle.betting_round.specs.declared.bettor.Player.{Player}
use Rattle.betting_round.specs.declared.facing.Facing.{Facing}
use Rattle.betting_round.specs.declared.street.Street.{Street}
use Rattle.betting_round.specs.ActChecks.{act_checks, act_refusal, facing_in, turn_checks}
use Rattle.betting_round.specs.Limits.{Limits}
use Rattle.betting_round.specs.StreetActs.{level}
use Rattle.betting_round.specs.WhoIsDue.{can_act, may_be_due, player_at, player_in}
use Rattle.betting_round.specs.Running.{amount_of, moved}
use Rattle.betting_round.proofs.ActRefusals.{player_in-at}
use Rattle.betting_round.proofs.Turns.{accepted-covered, accepted-due, due-low, due-may, slot-there}

-- What a player faces on a street.
abbrev pub facing_of : Street → Player → Facing
facing_of street now = record {
  level = street.level;
  full = street.full;
  put = now.bettor.put;
  behind = now.bettor.behind;
  pot = street.pot;
  acted = now.acted;
}

-- This player acts in this seat, and is not refused.
pub record Acts (limits : Limits) (street : Street) (seat : ℕ) (act : Act) (now : Player) : Type 0 where
  pub low : 1 ≤ seat
  pub sits : player_at street.players seat ≡ Some now
  pub live : now.bettor.live ≡ true
  pub more : 0 < now.bettor.behind
  pub turn : (not now.acted || nat_lt now.bettor.put street.level) ≡ true
  pub checked : first_that_holds (act_checks limits street.unit (facing_of street now) act) ≡ None
  pub covered : amount_of street.level now act ≤ now.bettor.behind

-- An act that is not refused is of a player who is there.
pub who-acts : (limits : Limits) (street : Street) (seat : ℕ) (act : Act) → act_refusal limits street seat act ≡ None
    → (now : Player) × Acts limits street seat act now
unfolding act_refusal
who-acts limits street seat act accepted =
    let due = accepted-due limits street seat act accepted in
    let low = due-low street seat due in
    let may = due-may street seat due in
    let there = slot-there (may_be_due street.level) (player_at street.players seat) may in
    let now = there.0 in
    let his : may_be_due street.level now ≡ true = rw there.1 at may in
    let parts = and_parts (can_act now) (not now.acted || nat_lt now.bettor.put street.level) his in
    let can = and_parts now.bettor.live (nat_lt 0 now.bettor.behind) parts.0 in
    let none = (none_holds-both (turn_checks street seat)
    (act_checks limits street.unit (facing_in street seat) act) accepted).1 in
    let slot : player_in street.players seat ≡ Some now = player_in-at street.players seat low ∙ there.1 in
    let covered = accepted-covered limits street seat act accepted in
    let more : 0 < now.bettor.behind = grind (arith, nat_tests) in (
      now,
      record {
        low = low;
        sits = there.1;
        live = can.0;
        more = more;
        turn = parts.1;
        checked = rw slot at none;
        covered = rw there.1 at covered;
      },
    )

-- What a player can still do on a street and later ones, in chips and acts: put in what he has behind, fold, and check.
abbrev pub still : Player → ℕ
still player = player.bettor.behind + cond player.bettor.live 1 0 + cond player.acted 0 1

-- A player who folds, checks or puts chips in can do less afterwards.
less-fold : (behind : ℕ) (live acted : Bool) → live ≡ true
    → behind - 0 + cond (live && not true) 1 0 + cond true 0 1 < behind + cond live 1 0 + cond acted 0 1
less-fold behind true true is = omega arith
less-fold behind true false is = omega arith
less-fold behind false acted is = absurd cc

less-check : (behind put level : ℕ) (live acted : Bool) → nat_lt put level ≡ false
    → (not acted || nat_lt put level) ≡ true
    → behind - 0 + cond (live && not false) 1 0 + cond true 0 1 < behind + cond live 1 0 + cond acted 0 1
less-check behind put level live true met turn = absurd cc
less-check behind put level true false met turn = omega arith
less-check behind put level false false met turn = omega arith

less-chips : (behind put_in : ℕ) (live acted : Bool) → 0 < put_in → put_in ≤ behind
    → behind - put_in + cond (live && not false) 1 0 + cond true 0 1 < behind + cond live 1 0 + cond acted 0 1
less-chips behind put_in true true some held = omega arith
less-chips behind put_in true false some held = omega arith
less-chips behind put_in false true some held = omega arith
less-chips behind put_in false false some held = omega arith

-- A bet or a raise that is no less than the least, or is all that he has, is not too small.
not-small : (n least : ℕ) (all : Bool) → not (nat_lt n least && not all) ≡ true → all ≡ false → least ≤ n
not-small n least all passes partly =
    let small : not (nat_lt n least && not false) ≡ true = rw partly at passes in
    elim (cases_Bool (nat_lt n least)) [
      | inl less ↦ let never : false ≡ true = rw less at small in absurd cc
      | inr more ↦ grind (arith, nat_tests)
    ]

-- A bet that is not refused is above 0.
bet-above : (limits : Limits) (unit : ℕ) (facing : Facing) (n : ℕ)
    → first_that_holds (act_checks limits unit facing (Bet n)) ≡ None → limits.least facing ≡ facing.level + facing.full
    → 0 < facing.full → 0 < facing.behind → 0 < n
bet-above limits unit facing n none least full more =
    let all = none_holds (act_checks limits unit facing (Bet n)) none in
    let large : not (nat_lt n (limits.least facing) && not (n == facing.behind)) ≡ true =
    (and_parts _ _ (and_parts _ _ all).1).0 in
    elim (cases_Bool (n == facing.behind)) [
      | inl is ↦ let same = eqb-true n facing.behind is in omega arith
      | inr other ↦ let above = not-small n (limits.least facing) (n == facing.behind) large other in omega arith
    ]

-- A raise that is not refused is above the bet level.
raise-above : (limits : Limits) (unit : ℕ) (facing : Facing) (n : ℕ)
    → first_that_holds (act_checks limits unit facing (Raise n)) ≡ None
    → limits.least facing ≡ facing.level + facing.full → 0 < facing.full → facing.level < n
raise-above limits unit facing n none least full =
    let all = none_holds (act_checks limits unit facing (Raise n)) none in
    let large : not (nat_lt n (limits.least facing) && not (n == facing.put + facing.behind && nat_lt facing.level n))
    ≡ true =
    (and_parts _ _ (and_parts _ _ all).1).0 in
    elim (cases_Bool (n == facing.put + facing.behind && nat_lt facing.level n)) [
      | inl is ↦ let above = (and_parts (n == facing.put + facing.behind) (nat_lt facing.level n) is).1 in
          grind (arith, nat_tests)
      | inr other ↦
          let above = not-small n (limits.least facing)
          (n == facing.put + facing.behind && nat_lt facing.level n) large other in
          omega arith
    ]

-- A call of a player who has put in less than the bet level puts something in.
call-above : (put level behind : ℕ) → not (put == level) ≡ true → put ≤ level → 0 < behind
    → 0 < min behind (level - put)
call-above put level behind short met more =
    let differs = not-true (put == level) short in grind (arith, nat_tests)

-- Who acts can do less afterwards.
pub still-falls : (limits : Limits) (street : Street) (seat : ℕ) (act : Act) (now : Player)
    → Acts limits street seat act now
    → limits.least (facing_of street now) ≡ street.level + street.full → 0 < street.full → now.bettor.put ≤ street.level
    → still (moved (amount_of street.level now act) now act) < still now
still-falls limits street seat Fold now acts least full met =
    less-fold now.bettor.behind now.bettor.live now.acted acts.live
still-falls limits street seat Check now acts least full met =
    let all = none_holds (act_checks limits street.unit (facing_of street now) Check) acts.checked in
    let free = not-true (nat_lt now.bettor.put street.level) (and_parts _ _ all).0 in
    less-check now.bettor.behind now.bettor.put street.level now.bettor.live now.acted free acts.turn
still-falls limits street seat Call now acts least full met =
    let all = none_holds (act_checks limits street.unit (facing_of street now) Call) acts.checked in
    let some = call-above now.bettor.put street.level now.bettor.behind (and_parts _ _ all).0 met acts.more in
    less-chips now.bettor.behind (min now.bettor.behind
    (street.level - now.bettor.put)) now.bettor.live now.acted some acts.covered
still-falls limits street seat AllIn now acts least full met =
    less-chips now.bettor.behind now.bettor.behind now.bettor.live now.acted acts.more acts.covered
still-falls limits street seat (Bet n) now acts least full met =
    let some = bet-above limits street.unit (facing_of street now) n acts.checked least full acts.more in
    less-chips now.bettor.behind n now.bettor.live now.acted some acts.covered
still-falls limits street seat (Raise n) now acts least full met =
    let above = raise-above limits street.unit (facing_of street now) n acts.checked least full in
    less-chips now.bettor.behind (n - now.bettor.put) now.bettor.live now.acted (omega arith) acts.covered
