use Rattle.std.proofs.Common.{◌∙◌, ◌++◌, List, ℕ, ap, sym, append_assoc}
use Rattle.std.proofs.lemmas.Result.{on_ok_weaker}
use Rattle.player_view.specs.Each.{table_text}
use Rattle.view_rules.specs.Lines.{ante_lines}
use Rattle.player_view.proofs.HandTexts.{text-post}
use Rattle.player_view.proofs.opening.push_post.Goals as goal

pub returns-clause-ok : goal.returns-clause-ok
returns-clause-ok c =
    let start = c.args.start.now in
    let ante = table_text c.args.table (ante_lines start c.in-Some.player) in
    let posted = (rw (c.bytes.ensures.same, c.posted.ensures.posted) at c.in_ok-push_table_line.ensures.ok) in
    on_ok_weaker c.push_ante.result
    (λ then. then ∙ ap (λ (text : List ℕ). text ++ ante) posted
    ∙ append_assoc c.args.out.now.items _ ante
    ∙ ap (λ (text : List ℕ). c.args.out.now.items ++ text)
    (text-post c.args.table start c.args.seat c.in-Some.player (sym c.in-Some.ensures)))
    c.push_ante.ensures.ok
