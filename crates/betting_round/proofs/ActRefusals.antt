-- Why an act is refused, from the checks of the turn and then of the act.
use Rattle.std.proofs.Common.{◌≡◌, ◌∙◌, ◌-◌, ◌≤◌, ℕ, zero, suc, lit<, false, Some, None, refl, arith}
use Rattle.std.specs.Prelude.{Option, IfSome, ◌==◌}
use Rattle.std.proofs.lemmas.Bool.Decides.{nat_tests}
use Rattle.floor_text.specs.declared.refusal.Refusal.{Refusal}
use Rattle.rulebook.specs.Checks.{first_that_holds}
use Rattle.rulebook.proofs.Checks.{first_that_holds-later, first_that_holds-sooner}
use Rattle.betting_round.specs.declared.act.Act.{Act}
use Rattle.betting_round.specs.declared.bettor.Player.{Player}
use Rattle.betting_round.specs.declared.street.Street.{Street}
use Rattle.betting_round.specs.Acts.{amount}
use Rattle.betting_round.specs.ActChecks.{act_checks, act_refusal, facing_in, turn_checks}
use Rattle.betting_round.specs.Limits.{AreFewChips, Limits}
use Rattle.betting_round.specs.StreetActs.{chips_of}
use Rattle.betting_round.specs.WhoIsDue.{player_at, player_in}
use Rattle.betting_round.specs.Running.{IsStreetKept, amount_of}
use Rattle.betting_round.proofs.Steps.{sum_at}

-- An act of whom it is not the turn is refused so.
pub refused_turn : (limits : Limits) (street : Street) (seat : ℕ) (act : Act) (refusal : Refusal)
    → first_that_holds (turn_checks street seat) ≡ Some refusal → act_refusal limits street seat act ≡ Some refusal
unfolding act_refusal
refused_turn limits street seat act refusal turn =
    first_that_holds-sooner (turn_checks street seat)
    (act_checks limits street.unit (facing_in street seat) act) refusal turn

-- An act of whom it is the turn is answered by the checks of the act.
pub refusal_act : (limits : Limits) (street : Street) (seat : ℕ) (act : Act)
    → first_that_holds (turn_checks street seat) ≡ None
    → act_refusal limits street seat act ≡ first_that_holds (act_checks limits street.unit (facing_in street seat) act)
unfolding act_refusal
refusal_act limits street seat act turn =
    first_that_holds-later (turn_checks street seat) (act_checks limits street.unit (facing_in street seat) act) turn

-- A seat from 1 on is the index before it.
pub player_in-at : (players : _) (seat : ℕ) → 1 ≤ seat → player_in players seat ≡ player_at players seat
player_in-at players seat low = let no : (seat == 0) ≡ false = grind (arith, nat_tests) in rw no

-- What a player faces on a street that is kept is few chips.
pub few_facing : (street : Street) (seat : ℕ) → IsStreetKept street → AreFewChips (facing_in street seat)
few_facing street zero kept =
    let pot = kept.pot in
    record { level = kept.level; full = kept.full; pot = omega arith; stack = lit< tt }
few_facing street (suc below) kept = by_slot (player_at street.players seat) refl
  where
    seat : ℕ
    seat = suc below

    low : 1 ≤ seat
    low = omega arith

    by_slot : (slot : Option Player) → player_at street.players seat ≡ slot → AreFewChips (facing_in street seat)
    by_slot None none =
        let there = player_in-at street.players seat low ∙ none in
        let pot = kept.pot in
        record { level = kept.level; full = kept.full; pot = omega arith; stack = rw there (omega arith) }
    by_slot (Some player) some =
        let there = player_in-at street.players seat low ∙ some in
        let his = sum_at (seat - 1) (λ (p : Player). chips_of p.bettor) player street.players some in
        let few = kept.chips in
        let pot = kept.pot in
        record { level = kept.level; full = kept.full; pot = omega arith; stack = rw there (omega arith) }

-- A player who has the chips for an act by what he faces has them.
pub held_facing : (street : Street) (seat : ℕ) (act : Act) → 1 ≤ seat
    → amount street.level (facing_in street seat).put (facing_in street seat).behind act ≤
    (facing_in street seat).behind
    → IfSome (player_at street.players seat) (λ player. amount_of street.level player act ≤ player.bettor.behind)
held_facing street seat act low held = by_slot (player_at street.players seat) refl
  where
    by_slot : (slot : Option Player) → player_at street.players seat ≡ slot
        → IfSome slot (λ player. amount_of street.level player act ≤ player.bettor.behind)
    by_slot None none = tt
    by_slot (Some player) some =
        let there = player_in-at street.players seat low ∙ some in
        rw there at held

-- An act that the checks of the act refuse is refused so, where it is this seat's turn.
pub refused_act : (limits : Limits) (street : Street) (seat : ℕ) (act : Act) (refusal : Refusal)
    → first_that_holds (turn_checks street seat) ≡ None
    → first_that_holds (act_checks limits street.unit (facing_in street seat) act) ≡ Some refusal
    → act_refusal limits street seat act ≡ Some refusal
refused_act limits street seat act refusal turn refused = refusal_act limits street seat act turn ∙ refused

-- An act that no check refuses is not refused.
pub accepted_act : (limits : Limits) (street : Street) (seat : ℕ) (act : Act)
    → first_that_holds (turn_checks street seat) ≡ None
    → first_that_holds (act_checks limits street.unit (facing_in street seat) act) ≡ None
    → act_refusal limits street seat act ≡ None
accepted_act limits street seat act turn accepted = refusal_act limits street seat act turn ∙ accepted
