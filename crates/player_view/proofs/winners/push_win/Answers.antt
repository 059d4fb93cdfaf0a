use Rattle.std.proofs.Common.{◌∙◌, ◌++◌, List, ℕ, ap}
use Rattle.std.proofs.lemmas.Result.{on_ok_weaker}
use Rattle.player_view.proofs.HandTexts.{text-win}
use Rattle.player_view.proofs.winners.push_win.Goals as goal

pub returns-clause-ok : goal.returns-clause-ok
returns-clause-ok c =
    on_ok_weaker c.push_table_line.result
    (λ then. then ∙ ap (λ (text : List ℕ). c.args.out.now.items ++ text)
    (text-win c.args.table c.args.hand.now c.args.player.now c.args.awards.now c.is_live.result c.award_in-won.result
    c.requires.awards c.is_live.ensures c.award_in-won.ensures c.if-won-eq0.false))
    (rw c.bytes.ensures.same at c.push_table_line.ensures.ok)
