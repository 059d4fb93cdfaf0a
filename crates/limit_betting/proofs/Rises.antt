-- By how much an act of fixed limit raises the bet level.
use Rattle.std.proofs.Common.{◌≡◌, ℕ, ◌+◌, ◌-◌, ◌≤◌, ◌<◌, Bool, true, false, cond, inl, inr, refl, arith}
use Rattle.std.specs.Prelude.{◌==◌, ◌&&◌, ◌⊎◌, not, nat_lt}
use Rattle.std.proofs.lemmas.Bool.{and_parts, cases_Bool, cases_lt, eqb-true, lt-ltb, ltb-false, ltb-true, not-true}
use Rattle.rulebook.proofs.Checks.{none_holds}
use Rattle.betting_round.specs.declared.act.Act.{Act}
use Rattle.betting_round.specs.declared.act.Act.TheVariants.{Fold, Check, Call, AllIn, Bet, Raise}
use Rattle.betting_round.specs.declared.bettor.Player.{Player}
use Rattle.betting_round.specs.declared.street.Street.{Street}
use Rattle.betting_round.specs.ActChecks.{act_checks}
use Rattle.betting_round.specs.Running.{amount_of}
use Rattle.betting_round.proofs.Acted.{Acts, facing_of}
use Rattle.limit_betting.specs.FixedLimits.{LimitTerms, fixed_limit}

-- An act that raises the bet level of a street: by no more than the bet, where there may be one more wager, and by a
-- full raise at least, or all that the player has is put in.
pub record Raises (limit : LimitTerms) (street : Street) (act : Act) (now : Player) : Type 0 where
  pub above : street.level < now.bettor.put + amount_of street.level now act
  pub most : now.bettor.put + amount_of street.level now act ≤ street.level + limit.bet
  pub room : limit.wagers < limit.cap
  pub large : (street.level + street.full ≤ now.bettor.put + amount_of street.level now act)
      ⊎ (amount_of street.level now act ≡ now.bettor.behind)

-- What is above the level and no more than the most is within one bet, and there may be one more wager.
room-of : (wagers cap level bet n : ℕ) → level < n → n ≤ cond (nat_lt wagers cap) (level + bet) level
    → (wagers < cap) × (n ≤ level + bet)
room-of wagers cap level bet n above within =
    elim (cases_Bool (nat_lt wagers cap)) [
      | inl is ↦ let most : n ≤ level + bet = rw is at within in (ltb-true wagers cap is, most)
      | inr not_so ↦ let none : n ≤ level = rw not_so at within in absurd (omega arith)
    ]

-- Where not both hold and one does, the other does not.
other-fails : (one other : Bool) → not (one && other) ≡ true → one ≡ true → other ≡ false
other-fails true true both is = absurd cc
other-fails true false both is = refl
other-fails false other both is = absurd cc

-- What is not too small is no less than the least, or is all that there is.
large-or_all : (n least : ℕ) (all : Bool) → not (nat_lt n least && not all) ≡ true → (least ≤ n) ⊎ (all ≡ true)
large-or_all n least true passes = inr refl
large-or_all n least false passes =
    elim (cases_Bool (nat_lt n least)) [
      | inl less ↦ let never : false ≡ true = rw less at passes in absurd cc
      | inr more ↦ inl (ltb-false n least more)
    ]

-- An act that is not refused leaves the bet level, or raises it so.
pub rises : (limit : LimitTerms) (street : Street) (seat : ℕ) (act : Act) (now : Player)
    → Acts (fixed_limit limit) street seat act now → now.bettor.put ≤ street.level
    → (now.bettor.put + amount_of street.level now act ≤ street.level) ⊎ Raises limit street act now
rises limit street seat Fold now acts met = inl (omega arith)
rises limit street seat Check now acts met = inl (omega arith)
rises limit street seat Call now acts met = inl (omega arith)
rises limit street seat AllIn now acts met =
    let stack = now.bettor.put + now.bettor.behind in
    let all = none_holds (act_checks (fixed_limit limit) street.unit (facing_of street now) AllIn) acts.checked in
    elim (cases_lt street.level stack) [
      | inl above ↦
          let most = cond (nat_lt limit.wagers limit.cap) (street.level + limit.bet) street.level in
          let past = other-fails (nat_lt street.level stack) (nat_lt most stack) (and_parts _ _ all).0
          (lt-ltb street.level stack above) in
          let room = room-of limit.wagers limit.cap street.level limit.bet stack above (ltb-false most stack past) in
          inr (record { above = above; most = room.1; room = room.0; large = inr refl })
      | inr within ↦ inl within
    ]
rises limit street seat (Bet n) now acts met =
    let all = none_holds (act_checks (fixed_limit limit) street.unit (facing_of street now) (Bet n)) acts.checked in
    let later = and_parts _ _ all in
    let none = ltb-false 0 street.level (not-true (nat_lt 0 street.level) later.0) in
    let small = and_parts _ _ later.1 in
    let more = and_parts _ _ (and_parts _ _ small.1).1 in
    let most = cond (nat_lt limit.wagers limit.cap) (street.level + limit.bet) street.level in
    let within = ltb-false most n (not-true (nat_lt most n) more.0) in
    elim (cases_lt street.level (now.bettor.put + n)) [
      | inl above ↦
          let over : street.level < n = omega arith in
          let room = room-of limit.wagers limit.cap street.level limit.bet n over within in
          let top = room.1 in
          inr (record {
            above = above;
            most = omega arith;
            room = room.0;
            large =
                elim (large-or_all n (street.level + street.full) (n == now.bettor.behind) small.0) [
                  | inl large ↦ inl (omega arith)
                  | inr whole ↦ inr (eqb-true n now.bettor.behind whole)
                ];
          })
      | inr within ↦ inl within
    ]
rises limit street seat (Raise n) now acts met =
    let stack = now.bettor.put + now.bettor.behind in
    let all = none_holds (act_checks (fixed_limit limit) street.unit (facing_of street now) (Raise n)) acts.checked in
    let later = and_parts _ _ all in
    let small = and_parts _ _ later.1 in
    let more = and_parts _ _ (and_parts _ _ small.1).1 in
    let most = cond (nat_lt limit.wagers limit.cap) (street.level + limit.bet) street.level in
    let within = ltb-false most n (not-true (nat_lt most n) more.0) in
    elim (cases_lt street.level (now.bettor.put + (n - now.bettor.put))) [
      | inl above ↦
          let over : street.level < n = omega arith in
          let room = room-of limit.wagers limit.cap street.level limit.bet n over within in
          let top = room.1 in
          inr (record {
            above = above;
            most = omega arith;
            room = room.0;
            large =
                elim (large-or_all n (street.level + street.full) (n == stack && nat_lt street.level n) small.0) [
                  | inl large ↦ inl (omega arith)
                  | inr whole ↦
                      let same = eqb-true n stack (and_parts (n == stack) (nat_lt street.level n) whole).0 in
                      inr (omega arith)
                ];
          })
      | inr within ↦ inl within
    ]
