use Rattle.std.proofs.Common.{◌∙◌, ◌++◌, ap}
use Rattle.std.proofs.lemmas.Result.{on_ok_weaker}
use Rattle.view_rules.specs.Spelling.{SettleLine, Floor, StackIs, line_text}
use Rattle.player_view.proofs.FloorTexts.{text-floor}
use Rattle.player_view.proofs.Texts.{written-both}
use Rattle.player_view.proofs.floor.push_settled.Goals as goal

pub returns-clause-ok : goal.returns-clause-ok
returns-clause-ok c =
    let old = c.args.out.now.items in
    on_ok_weaker c.push_stacks.result
    (λ then. written-both old _ _ _ _ c.in_ok-push_settle.ensures.ok then
    ∙ ap (λ text. old ++ (line_text (Floor (SettleLine c.args.table)) ++ text)) (text-floor StackIs c.args.stacks.now))
    c.push_stacks.ensures.ok
