use Rattle.std.proofs.Common.{◌≡◌, ◌∙◌, ◌-◌, refl, sym, false, arith}
use Rattle.std.specs.Prelude.{not}
use Rattle.rulebook.specs.Seats.{seat_after}
use Rattle.rulebook.proofs.Walks.{find_passed}
use Rattle.button_blinds.specs.SeatSets.{has_seat}
use Rattle.balance_rule.proofs.FreeSeats.{walk-free}
use Rattle.balance_rule.proofs.empty_seats.empty_seat_after.Goals as goal

pub loop-step-preserved : goal.loop-step-preserved
loop-step-preserved c =
    let taken : not (has_seat c.args.taken (seat_after c.args.seats c.loop-step.next)) ≡ false = cc in
    let left = find_passed (λ other. not (has_seat c.args.taken other)) (seat_after c.args.seats) c.args.seats
    c.loop-step._step c.loop-step.next c.loop-step-test.true taken in
    rw c.seat_after-next.ensures.next (sym left ∙ c.loop-step.invariant)

-- The walk is over only where every seat of the table is taken.
pub returns-clause-next : goal.returns-clause-next
returns-clause-next c =
    let over : c.args.seats - c.loop-step._step ≡ 0 = omega (arith, c.loop-step-test.false) in
    absurd (walk-free c.args.taken c.args.seats c.args.seat c.requires.within c.requires.room (sym c.loop-step.invariant
    ∙ rw over refl))

pub returns-clause-first : goal.returns-clause-first
returns-clause-first c =
    let over : c.args.seats - c.loop-step._step ≡ 0 = omega (arith, c.loop-step-test.false) in
    absurd (walk-free c.args.taken c.args.seats c.args.seat c.requires.within c.requires.room (sym c.loop-step.invariant
    ∙ rw over refl))
