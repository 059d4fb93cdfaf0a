use Rattle.std.proofs.Common.{arith, ◌∙◌, ◌++◌, List, ℕ, ap}
use Rattle.std.proofs.lemmas.Grind.{common_steps}
use Rattle.std.proofs.lemmas.Result.{on_ok_weaker}
use Rattle.player_view.proofs.HandTexts.{text-streets}
use Rattle.player_view.proofs.Texts.{written-three}
use Rattle.player_view.proofs.streets.push_streets.Goals as goal

pub returns-clause-ok : goal.returns-clause-ok
returns-clause-ok c =
    let old = c.args.out.now.items in
    on_ok_weaker c.push_river.result
    (λ then. written-three old _ _ _ _ _ _ c.in_ok-push_flop.ensures.ok c.in_ok-push_turn.ensures.ok then
    ∙ ap (λ (text : List ℕ). old ++ text)
    (text-streets c.args.table c.args.start.now c.args.left_before c.args.left c.requires.before c.requires.left))
    c.push_river.ensures.ok

pub returns-clause-kept : goal.returns-clause-kept
returns-clause-kept c = grind (arith, common_steps)

pub returns-in_err-push_turn-clause-kept : goal.returns-in_err-push_turn-clause-kept
returns-in_err-push_turn-clause-kept c = grind (arith, common_steps)
