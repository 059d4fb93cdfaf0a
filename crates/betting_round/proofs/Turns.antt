-- Whose turn it is, and what an act that is not refused puts in.
use Rattle.std.proofs.Common.{◌-◌, ◌≡◌, ◌∙◌, ℕ, ◌+◌, ◌≤◌, Bool, true, false, cond, List, [], ◌∷◌, Some, None, refl, ap, inl, inr, arith}
use Rattle.std.specs.Prelude.{Option, IfSome, IsSome, ◌==◌, find, nat_lt}
use Rattle.std.specs.Option.{option_map_or}
use Rattle.std.proofs.lemmas.Bool.{and_parts, cases_Bool, cases_eq, ltb-false, not-true}
use Rattle.std.proofs.lemmas.Bool.Decides.{nat_tests}
use Rattle.rulebook.specs.Checks.{first_that_holds}
use Rattle.rulebook.proofs.Checks.{first_that_holds-later, none_holds, none_holds-both}
use Rattle.rulebook.proofs.OccupiedSeats.{found-within}
use Rattle.rulebook.proofs.Tests.{find-passes}
use Rattle.rulebook.specs.Seats.{clockwise_after}
use Rattle.betting_round.specs.declared.act.Act.{Act}
use Rattle.betting_round.specs.declared.act.Act.TheVariants.{Fold, Check, Call, AllIn, Bet, Raise}
use Rattle.betting_round.specs.declared.bettor.Bettor.{Bettor}
use Rattle.betting_round.specs.declared.bettor.Player.{Player}
use Rattle.betting_round.specs.declared.facing.Facing.{Facing}
use Rattle.betting_round.specs.declared.street.Street.{Street}
use Rattle.betting_round.specs.Acts.{amount}
use Rattle.betting_round.specs.ActChecks.{IsAllowed, act_checks, act_refusal, facing_in, turn_checks}
use Rattle.betting_round.specs.Limits.{Limits}
use Rattle.betting_round.specs.StreetActs.{IsStreetStart, SeatAct, StreetStart, chips_of, chips_on, greatest, level, put_by_acts, put_on_street, street_after}
use Rattle.betting_round.specs.WhoIsDue.{can_act, due_seat, is_closed, is_there, may_be_due, player_at}
use Rattle.betting_round.specs.Running.{amount_of, moved, placed}
use Rattle.betting_round.proofs.ActRefusals.{held_facing}
use Rattle.betting_round.proofs.Steps.{street_stepped, sum_set}

-- Who may be due can act.
can_act-due : (level : ℕ) (slot : Option Player) → is_there (may_be_due level) slot ≡ true
    → is_there can_act slot ≡ true
can_act-due level None due = absurd cc
can_act-due level (Some player) due = elim (cases_Bool (can_act player)) [ inl is ↦ is | inr cannot ↦ absurd cc ]

-- What a search gives that is made only where the street is not closed.
found-open : (closed : Bool) (found : Option ℕ) (seat : ℕ) → cond closed None found ≡ Some seat → found ≡ Some seat
found-open true found seat due = absurd cc
found-open false found seat due = due

-- Who is due is the first that may be, clockwise.
due-found : (street : Street) (seat : ℕ) → due_seat street ≡ Some seat
    → find (λ s. is_there (may_be_due street.level) (player_at street.players s)) (clockwise_after 10 street.after)
    ≡ Some seat
unfolding due_seat
due-found street seat due = found-open (is_closed street.players)
    (find (λ s. is_there (may_be_due street.level) (player_at street.players s))
    (clockwise_after 10 street.after)) seat due

-- The player who is due may be.
pub due-may : (street : Street) (seat : ℕ) → due_seat street ≡ Some seat
    → is_there (may_be_due street.level) (player_at street.players seat) ≡ true
due-may street seat due =
    find-passes (λ s. is_there (may_be_due street.level) (player_at street.players s)) (clockwise_after 10 street.after)
    seat (due-found street seat due)

-- The player who is due can act.
pub due-can_act : (street : Street) (seat : ℕ) → due_seat street ≡ Some seat
    → is_there can_act (player_at street.players seat) ≡ true
due-can_act street seat due =
    can_act-due street.level (player_at street.players seat) (due-may street seat due)

-- Who is due sits in one of ten seats.
due-within : (street : Street) (seat : ℕ) → due_seat street ≡ Some seat → (1 ≤ seat) × (seat ≤ 10)
due-within street seat due =
    found-within (λ s. is_there (may_be_due street.level) (player_at street.players s)) 10 10 street.after seat
    (omega arith) (due-found street seat due)

-- Who is due sits in a seat from 1 on.
pub due-low : (street : Street) (seat : ℕ) → due_seat street ≡ Some seat → 1 ≤ seat
due-low street seat due = (due-within street seat due).0

-- Who is due sits in a seat up to 10.
pub due-high : (street : Street) (seat : ℕ) → due_seat street ≡ Some seat → seat ≤ 10
due-high street seat due = (due-within street seat due).1

-- Where it is a seat's turn no check of the turn holds.
pub turn-none : (street : Street) (seat : ℕ) → due_seat street ≡ Some seat
    → first_that_holds (turn_checks street seat) ≡ None
turn-none street seat due = let same : (seat == seat) ≡ true = grind (arith, nat_tests) in rw (due, same)

-- Where no check of the turn holds it is the seat's turn.
pub turn-due : (street : Street) (seat : ℕ) → first_that_holds (turn_checks street seat) ≡ None
    → due_seat street ≡ Some seat
turn-due street seat none = by_due (due_seat street) refl
  where
    by_due : (due : Option ℕ) → due_seat street ≡ due → due_seat street ≡ Some seat
    by_due None is = let held = rw is at none in absurd cc
    by_due (Some due) is =
        elim (cases_eq due seat) [
          | inl same ↦ is ∙ ap (λ (s : ℕ). Some s) same
          | inr other ↦ let differs : (due == seat) ≡ false = grind (arith, nat_tests) in
              let held = rw (is, differs) at none in absurd cc
        ]

-- The player who is due may fold.
pub due-may_fold : (limits : Limits) (street : Street) (seat : ℕ) → due_seat street ≡ Some seat
    → act_refusal limits street seat Fold ≡ None
unfolding act_refusal
due-may_fold limits street seat due = turn-none street seat due

-- The player who is due may check where he has put in no less than the bet level.
pub due-may_check : (limits : Limits) (street : Street) (seat : ℕ) → due_seat street ≡ Some seat
    → nat_lt (facing_in street seat).put (facing_in street seat).level ≡ false
    → act_refusal limits street seat Check ≡ None
unfolding act_refusal
due-may_check limits street seat due met =
    first_that_holds-later (turn_checks street seat) (act_checks limits street.unit (facing_in street seat) Check)
    (turn-none street seat due) ∙ rw met

-- An act that is not refused is of the player who is due.
pub accepted-due : (limits : Limits) (street : Street) (seat : ℕ) (act : Act)
    → act_refusal limits street seat act ≡ None → due_seat street ≡ Some seat
unfolding act_refusal
accepted-due limits street seat act accepted =
    turn-due street seat (none_holds-both (turn_checks street seat)
    (act_checks limits street.unit (facing_in street seat) act) accepted).0

-- A raise that no check of the act refuses is within the player's stack.
not_past : (limits : Limits) (unit : ℕ) (facing : Facing) (n : ℕ)
    → first_that_holds (act_checks limits unit facing (Raise n)) ≡ None → nat_lt (facing.put + facing.behind) n ≡ false
not_past limits unit facing n none =
    let all = none_holds (act_checks limits unit facing (Raise n)) none in
    not-true _ (and_parts _ _ (and_parts _ _ (and_parts _ _ all).1).1).0

-- A player has the chips for an act that no check of the act refuses.
checked-covered : (limits : Limits) (unit : ℕ) (facing : Facing) (act : Act)
    → first_that_holds (act_checks limits unit facing act) ≡ None
    → amount facing.level facing.put facing.behind act ≤ facing.behind
checked-covered limits unit facing Fold none = omega arith
checked-covered limits unit facing Check none = omega arith
checked-covered limits unit facing Call none = omega arith
checked-covered limits unit facing AllIn none = omega arith
checked-covered limits unit facing (Bet n) none =
    let all = none_holds (act_checks limits unit facing (Bet n)) none in
    let within = not-true _ (and_parts _ _ (and_parts _ _ (and_parts _ _ all).1).1).0 in
    ltb-false facing.behind n within
checked-covered limits unit facing (Raise n) none =
    omega (arith, ltb-false (facing.put + facing.behind) n (not_past limits unit facing n none))

-- A player has the chips for an act that is not refused.
pub accepted-covered : (limits : Limits) (street : Street) (seat : ℕ) (act : Act)
    → act_refusal limits street seat act ≡ None
    → IfSome (player_at street.players seat) (λ player. amount_of street.level player act ≤ player.bettor.behind)
unfolding act_refusal
accepted-covered limits street seat act accepted =
    let none = (none_holds-both (turn_checks street seat)
    (act_checks limits street.unit (facing_in street seat) act) accepted).1 in
    held_facing street seat act (due-low street seat (accepted-due limits street seat act accepted))
    (checked-covered limits street.unit (facing_in street seat) act none)

-- What a player has put in only grows.
put_by_acts-grows : (start : StreetStart) (entry : SeatAct) (acts : List SeatAct) (bettor : Bettor)
    → put_by_acts start acts bettor ≤ put_by_acts start (entry ∷ acts) bettor
unfolding put_by_acts
put_by_acts-grows start entry acts bettor = elim (cases_Bool (entry.seat == bettor.seat)) [
  | inl is ↦
      rw is (omega arith)
  | inr other ↦ rw other (omega arith)
]

-- Where each number is no less, the greatest is no less.
greatest-grows : {A : Type 0} (least : ℕ) (one other : A → ℕ) (slots : List (Option A))
    → ((item : A) → one item ≤ other item) → greatest least one slots ≤ greatest least other slots
greatest-grows least one other [] less = omega arith
greatest-grows least one other (None ∷ slots) less = greatest-grows least one other slots less
greatest-grows least one other (Some item ∷ slots) less =
    let here = less item in let later = greatest-grows least one other slots less in omega arith

-- The bet level only grows.
pub level-grows : (start : StreetStart) (entry : SeatAct) (acts : List SeatAct)
    → level start acts ≤ level start (entry ∷ acts)
level-grows start entry acts =
    greatest-grows start.opening (put_on_street start acts) (put_on_street start (entry ∷ acts)) start.bettors
    (λ bettor. let grows = put_by_acts-grows start entry acts bettor in omega arith)

-- Where a slot passes a test somebody is there.
pub slot-there : (test : Player → Bool) (slot : Option Player) → is_there test slot ≡ true
    → (player : Player) × (slot ≡ Some player)
slot-there test None passes = absurd cc
slot-there test (Some player) passes = (player, refl)

-- Who is due sits there.
pub due-sits : (street : Street) (seat : ℕ) → due_seat street ≡ Some seat → IsSome (player_at street.players seat)
due-sits street seat due =
    let there = slot-there can_act (player_at street.players seat) (due-can_act street seat due) in rw there.1 refl

-- It is the turn of a seat of whom an act is allowed.
pub allowed-due : (street : Street) (seat : ℕ) (act : Act) → IsAllowed street seat act → due_seat street ≡ Some seat
allowed-due street seat act allowed = accepted-due allowed.limits street seat act allowed.free

-- A player of whom an act is allowed has the chips for it.
pub allowed-covered : (street : Street) (seat : ℕ) (act : Act) → IsAllowed street seat act
    → IfSome (player_at street.players seat) (λ player. amount_of street.level player act ≤ player.bettor.behind)
allowed-covered street seat act allowed = accepted-covered allowed.limits street seat act allowed.free

-- An act of a player who has the chips for it keeps the chips of the street.
chips-placed : (street : Street) (seat : ℕ) (player : Player) (act : Act) (put_in : ℕ)
    → player_at street.players seat ≡ Some player → put_in ≤ player.bettor.behind
    → chips_on (placed street seat player act put_in) ≡ chips_on street
chips-placed street seat player act put_in there held =
    let set = sum_set (seat - 1) (λ (p : Player). chips_of p.bettor) player
    (moved put_in player act) street.players there in omega arith

-- An act that is not refused keeps the chips of the street.
pub chips-kept : (limits : Limits) (start : StreetStart) (acts : List SeatAct) (entry : SeatAct) → IsStreetStart start
    → act_refusal limits (street_after start acts) entry.seat entry.act ≡ None
    → chips_on (street_after start (entry ∷ acts)) ≡ chips_on (street_after start acts)
chips-kept limits start acts entry right accepted =
    let street = street_after start acts in
    let due = accepted-due limits street entry.seat entry.act accepted in
    let low = due-low street entry.seat due in
    let there = slot-there can_act (player_at street.players entry.seat) (due-can_act street entry.seat due) in
    let covered = rw there.1 at (accepted-covered limits street entry.seat entry.act accepted) in
    let step = street_stepped start acts entry there.0 right.seated low there.1 in
    let placed_is = ap (λ slot. chips_on (option_map_or
    (λ player. placed street entry.seat player entry.act
    (amount_of street.level player entry.act)) slot street)) there.1 in
    ap chips_on step ∙ placed_is ∙ chips-placed street entry.seat there.0 entry.act
    (amount_of street.level there.0 entry.act) there.1 covered
