use Rattle.std.proofs.Common.{◌≡◌, ◌∙◌, sym, ap, ℕ, Some}
use Rattle.std.specs.Prelude.{Option}
use Rattle.betting_round.proofs.Turns.{due-low, due-high, due-sits}
use Rattle.betting_round.proofs.street.Street.check_turn.Goals as goal

its_turn : (found due : Option ℕ) (at seat : ℕ) → due ≡ found → due ≡ Some at → at ≡ seat → found ≡ Some seat
its_turn found due at seat kept is same = sym kept ∙ is ∙ ap Some same

pub returns-else-due-seat-clause-first : goal.returns-else-due-seat-clause-first
returns-else-due-seat-clause-first c =
    due-low c.args.self.now c.args.seat (its_turn _ _ _ _ c.requires c.in-Some.is c.if-due-seat.false)

pub returns-else-due-seat-clause-last : goal.returns-else-due-seat-clause-last
returns-else-due-seat-clause-last c =
    due-high c.args.self.now c.args.seat (its_turn _ _ _ _ c.requires c.in-Some.is c.if-due-seat.false)

pub returns-else-due-seat-clause-sits : goal.returns-else-due-seat-clause-sits
returns-else-due-seat-clause-sits c =
    due-sits c.args.self.now c.args.seat (its_turn _ _ _ _ c.requires c.in-Some.is c.if-due-seat.false)
