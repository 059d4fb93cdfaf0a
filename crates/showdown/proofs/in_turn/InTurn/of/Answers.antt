use Rattle.std.proofs.Common.{rules, ◌≡◌, ◌∙◌, ◌-◌, ◌++◌, List, [], ℕ, true, false, subst, sym, append-nil, arith}
use Rattle.std.specs.List.{list_all}
use Rattle.std.proofs.lemmas.List.{length-append}
use Rattle.rulebook.specs.Seats.{seat_after}
use Rattle.button_blinds.specs.SeatSets.{has_seat}
use Rattle.showdown.specs.Awards.{is_seat, in_turn}
use Rattle.showdown.proofs.Turns.{turn-yes, turn-no, in_turn-seats}
use Rattle.showdown.proofs.in_turn.InTurn.of.Goals.{then-has, else-has}
use Rattle.showdown.proofs.in_turn.InTurn.of.Goals as goal

pub loop-step-preserved : goal.loop-step-preserved
loop-step-preserved c = elim c.if-has.branch [
  | then-has w ↦
      let sits : has_seat c.args.set (seat_after c.args.seats c.loop-step.seat) ≡ true =
      cc (c.has.ensures, w.if-has.true, c.seat_after-seat.ensures.next) in
      record {
        all = rw (w.order-is, w.push.ensures, c.seat_after-seat.ensures.next)
            (turn-yes c.args.set c.args.seats c.args.seats c.loop-step._step c.loop-step.seat c.loop-step.order
            c.loop-step-test.true sits ∙ c.loop-step.invariant.all);
        few = rw (w.order-is, w.push.ensures, length-append) (omega (arith, c.loop-step.invariant.few));
      }
  | else-has w ↦
      let nobody : has_seat c.args.set (seat_after c.args.seats c.loop-step.seat) ≡ false =
      cc (c.has.ensures, w.if-has.false, c.seat_after-seat.ensures.next) in
      record {
        all = rw (w.order-is, c.seat_after-seat.ensures.next)
            (turn-no c.args.set c.args.seats c.args.seats c.loop-step._step c.loop-step.seat c.loop-step.order
            c.loop-step-test.true nobody ∙ c.loop-step.invariant.all);
        few = rw w.order-is (omega (arith, c.loop-step.invariant.few));
      }
]

pub returns-clause-within : goal.returns-clause-within
returns-clause-within c =
    let over : c.args.seats - c.loop-step._step ≡ 0 = omega arith in
    let all : c.loop-step.order ++ [] ≡ in_turn c.args.seats c.args.button c.args.set =
    rw over at c.loop-step.invariant.all in
    subst (λ (order : List ℕ). list_all is_seat order ≡ true) (sym all ∙ append-nil c.loop-step.order)
    (in_turn-seats c.args.set c.args.seats c.args.button c.requires.some c.requires.most)

pub loop-step-init : goal.loop-step-init
loop-step-init c = search rules
