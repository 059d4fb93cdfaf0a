-- What is put in and what is behind are multiples of the unit.
use Rattle.std.proofs.Common.{◌≡◌, ℕ, ◌+◌, ◌-◌, ◌%◌, ◌≤◌, ◌<◌, Bool, true, false, Some, refl, inl, inr, arith}
use Rattle.std.specs.Prelude.{◌==◌, ◌&&◌, nat_le, nat_lt, not}
use Rattle.std.proofs.Math.Nat.{zero-mod}
use Rattle.std.proofs.lemmas.Bool.{and_parts, cases_Bool, cases_lt}
use Rattle.std.proofs.lemmas.Bool.Decides.{nat_tests}
use Rattle.rulebook.proofs.Checks.{none_holds}
use Rattle.rulebook.proofs.Tests.{find-all}
use Rattle.rulebook.proofs.Multiples.{multiple-min, multiple-sub}
use Rattle.betting_round.specs.declared.act.Act.{Act}
use Rattle.betting_round.specs.declared.act.Act.TheVariants.{Fold, Check, Call, AllIn, Bet, Raise}
use Rattle.betting_round.specs.declared.bettor.Player.{Player}
use Rattle.betting_round.specs.declared.street.Street.{Street}
use Rattle.betting_round.specs.ActChecks.{act_checks}
use Rattle.betting_round.specs.Limits.{Limits}
use Rattle.betting_round.specs.Running.{amount_of}
use Rattle.betting_round.proofs.Acted.{Acts, facing_of}
use Rattle.level_plan.specs.Limits.{greatest_amount}
use Rattle.table_engine.specs.declared.start.HandStart.{HandStart}
use Rattle.table_engine.specs.declared.start.StartSeat.{StartSeat}
use Rattle.table_engine.specs.Starts.{IsLawfulStart, is_playable_stack}
use Rattle.table_engine.specs.Hands.{ante_of, ante_posted, blind_of, player_of, playing, posted}

is-whole : (n unit : ℕ) → not (not (n % unit == 0)) ≡ true → n % unit ≡ 0
is-whole n unit so = grind (arith, nat_tests)

-- Of tests that all hold the fifth holds.
fifth-holds : (one two three four five rest : Bool) → (one && (two && (three && (four && (five && rest))))) ≡ true
    → five ≡ true
fifth-holds false two three four five rest all = absurd cc
fifth-holds true false three four five rest all = absurd cc
fifth-holds true true false four five rest all = absurd cc
fifth-holds true true true false five rest all = absurd cc
fifth-holds true true true true false rest all = absurd cc
fifth-holds true true true true true rest all = refl

-- What an act that is not refused puts in is a multiple of the unit where all else is.
pub amount-whole : (limits : Limits) (street : Street) (seat : ℕ) (act : Act) (now : Player)
    → Acts limits street seat act now
    → street.level % street.unit ≡ 0 → now.bettor.put % street.unit ≡ 0 → now.bettor.behind % street.unit ≡ 0
    → now.bettor.put ≤ street.level → amount_of street.level now act % street.unit ≡ 0
amount-whole limits street seat Fold now acts level put behind met = zero-mod street.unit
amount-whole limits street seat Check now acts level put behind met = zero-mod street.unit
amount-whole limits street seat Call now acts level put behind met =
    multiple-min street.unit now.bettor.behind (street.level - now.bettor.put) behind
    (multiple-sub street.unit street.level now.bettor.put met level put)
amount-whole limits street seat AllIn now acts level put behind met = behind
amount-whole limits street seat (Bet n) now acts level put behind met =
    let all = none_holds (act_checks limits street.unit (facing_of street now) (Bet n)) acts.checked in
    is-whole n street.unit
    (fifth-holds (not (nat_lt 0 street.level))
    (not (nat_lt n (limits.least (facing_of street now)) && not (n == now.bettor.behind)))
    (not (nat_lt now.bettor.behind n))
    (not (nat_lt (limits.most (facing_of street now)) n))
    (not (not (n % street.unit == 0))) true all)
amount-whole limits street seat (Raise n) now acts level put behind met =
    let all = none_holds (act_checks limits street.unit (facing_of street now) (Raise n)) acts.checked in
    let stack = now.bettor.put + now.bettor.behind in
    let later = and_parts (not (street.level == 0)) _ all in
    let whole : not (not (n % street.unit == 0)) ≡ true =
    fifth-holds (not (nat_lt n (limits.least (facing_of street now)) && not (n == stack && nat_lt street.level n)))
    (not (nat_lt stack n)) (not (nat_lt (limits.most (facing_of street now)) n))
    (not (not (limits.reopened (facing_of street now))))
    (not (not (n % street.unit == 0))) true later.1 in
    elim (cases_lt n now.bettor.put) [
      | inl less ↦ let none : n - now.bettor.put ≡ 0 = omega arith in rw none (zero-mod street.unit)
      | inr more ↦ multiple-sub street.unit n now.bettor.put more (is-whole n street.unit whole) put
    ]

-- Lawful blinds are above 0 and multiples of a unit above 0.
pub record AreBlinds (start : HandStart) : Type 0 where
  pub unit : 0 < start.blind.unit
  pub small : start.blind.small % start.blind.unit ≡ 0
  pub big : start.blind.big % start.blind.unit ≡ 0
  pub ante : start.blind.ante % start.blind.unit ≡ 0
  pub some : 0 < start.blind.big

-- The blinds of a lawful start are multiples of a unit above 0, and the big blind is above 0.
pub blinds-lawful : (start : HandStart) → IsLawfulStart start → AreBlinds start
blinds-lawful start lawful =
    let a = and_parts (nat_le 1 start.blind.unit) _ lawful.blinds in
    let b = and_parts (nat_le 1 start.blind.small) _ a.1 in
    let c = and_parts (nat_le start.blind.small start.blind.big) _ b.1 in
    let d = and_parts (nat_le start.blind.big greatest_amount) _ c.1 in
    let e = and_parts (start.blind.small % start.blind.unit == 0) _ d.1 in
    let f = and_parts (start.blind.big % start.blind.unit == 0) _ e.1 in
    let g = and_parts (nat_le start.blind.ante greatest_amount) (start.blind.ante % start.blind.unit == 0) f.1 in
    let unit : 0 < start.blind.unit = grind (arith, nat_tests) in
    let some : 0 < start.blind.big = grind (arith, nat_tests) in
    let small : start.blind.small % start.blind.unit ≡ 0 = grind (arith, nat_tests) in
    let big : start.blind.big % start.blind.unit ≡ 0 = grind (arith, nat_tests) in
    let ante : start.blind.ante % start.blind.unit ≡ 0 = grind (arith, nat_tests) in
    record { unit = unit; small = small; big = big; ante = ante; some = some }

-- A stack that can be played with is above 0 and a multiple of the unit.
pub playable-parts : (unit stack : ℕ) → is_playable_stack unit stack ≡ true → (0 < stack) × (stack % unit ≡ 0)
playable-parts unit stack playable =
    let parts = and_parts (nat_lt 0 stack) (stack % unit == 0) playable in
    let above : 0 < stack = grind (arith, nat_tests) in
    let whole : stack % unit ≡ 0 = grind (arith, nat_tests) in
    (above, whole)

-- The stack of who is found at a seat of a lawful start can be played with.
pub found-playable : (start : HandStart) (seat : ℕ) (player : StartSeat) → IsLawfulStart start
    → player_of start seat ≡ Some player
    → (0 < player.stack) × (player.stack % start.blind.unit ≡ 0)
found-playable start seat player lawful found =
    playable-parts start.blind.unit player.stack
    (find-all (λ (other : StartSeat). other.seat == seat)
    (λ (other : StartSeat). is_playable_stack start.blind.unit other.stack)
    start.seats player found lawful.stacks)

-- A blind is a multiple of the unit.
blind-whole : (start : HandStart) (seat : ℕ) → AreBlinds start → blind_of start seat % start.blind.unit ≡ 0
blind-whole start seat blinds =
    elim (cases_Bool (seat == start.marks.big)) [
      | inl is ↦ rw is blinds.big
      | inr other ↦
          elim (cases_Bool (seat == start.marks.small)) [
            | inl is ↦ rw (other, is) blinds.small
            | inr none ↦ rw (other, none) (zero-mod start.blind.unit)
          ]
    ]

-- What a player posts is a multiple of the unit where his stack is.
pub posted-whole : (start : HandStart) (player : StartSeat) → AreBlinds start → player.stack % start.blind.unit ≡ 0
    → posted start player % start.blind.unit ≡ 0
posted-whole start player blinds whole =
    multiple-min start.blind.unit player.stack (blind_of start player.seat) whole (blind-whole start player.seat blinds)

-- An ante is a multiple of the unit.
ante_of-whole : (start : HandStart) (seat : ℕ) → AreBlinds start → ante_of start seat % start.blind.unit ≡ 0
ante_of-whole start seat blinds =
    elim (cases_Bool (seat == start.marks.big)) [
      | inl is ↦ rw is blinds.ante
      | inr other ↦ rw other (zero-mod start.blind.unit)
    ]

-- What a player posts as the ante is a multiple of the unit where his stack is.
pub ante-whole : (start : HandStart) (player : StartSeat) → AreBlinds start → player.stack % start.blind.unit ≡ 0
    → ante_posted start player % start.blind.unit ≡ 0
ante-whole start player blinds whole =
    multiple-min start.blind.unit (player.stack - posted start player) (ante_of start player.seat)
    (multiple-sub start.blind.unit player.stack (posted start player) (omega arith) whole
    (posted-whole start player blinds whole))
    (ante_of-whole start player.seat blinds)

-- What a player has to play with is a multiple of the unit where his stack is.
pub playing-whole : (start : HandStart) (player : StartSeat) → AreBlinds start → player.stack % start.blind.unit ≡ 0
    → playing start player % start.blind.unit ≡ 0
playing-whole start player blinds whole =
    multiple-sub start.blind.unit player.stack (ante_posted start player) (omega arith) whole
    (ante-whole start player blinds whole)

-- A player of a lawful start has something to play with: who owes an ante has posted a blind.
pub playing-some : (start : HandStart) (player : StartSeat) → AreBlinds start → 0 < player.stack
    → 0 < playing start player
playing-some start player blinds some =
    let big = blinds.some in
    elim (cases_Bool (player.seat == start.marks.big)) [
      | inl is ↦ rw is (omega arith)
      | inr other ↦ rw other (omega arith)
    ]
