use Rattle.std.proofs.Common.{arith, ◌∙◌, ◌++◌, List, ℕ, ap, sym}
use Rattle.std.proofs.lemmas.Grind.{common_steps}
use Rattle.std.proofs.lemmas.Result.{on_ok_weaker}
use Rattle.player_view.proofs.HandTexts.{text-own}
use Rattle.player_view.proofs.opening.push_own.Goals as goal

pub returns-in-Some-seat_of-clause-ok : goal.returns-in-Some-seat_of-clause-ok
returns-in-Some-seat_of-clause-ok c =
    on_ok_weaker c.push_hole_cards.result
    (λ then. then ∙ ap (λ (text : List ℕ). c.args.out.now.items ++ text)
    (text-own c.args.table c.args.who c.args.start.now c.in-Some.name c.in-Some-seat_of.seat c.in-Some.is
    (sym c.in-Some-seat_of.ensures)))
    c.push_hole_cards.ensures.ok

pub returns-in-None-clause-kept : goal.returns-in-None-clause-kept
returns-in-None-clause-kept c = grind (arith, common_steps)

pub returns-in_default-clause-kept : goal.returns-in_default-clause-kept
returns-in_default-clause-kept c = grind (arith, common_steps)
