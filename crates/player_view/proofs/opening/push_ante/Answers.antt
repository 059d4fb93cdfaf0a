use Rattle.std.proofs.Common.{◌≡◌, ◌∙◌, ◌++◌, List, ℕ, false, ap, sym, append-nil}
use Rattle.std.specs.Prelude.{◌==◌}
use Rattle.std.proofs.lemmas.Bool.{ne_eqb}
use Rattle.std.proofs.lemmas.Result.{on_ok_weaker}
use Rattle.table_engine.specs.Hands.{ante_posted}
use Rattle.player_view.proofs.HandTexts.{text-ante, text-no_ante}
use Rattle.player_view.proofs.opening.push_ante.Goals as goal

pub returns-then-ante-eq0-clause-ok : goal.returns-then-ante-eq0-clause-ok
returns-then-ante-eq0-clause-ok c =
    sym (append-nil c.args.out.now.items)
    ∙ ap (λ (text : List ℕ). c.args.out.now.items ++ text)
    (text-no_ante c.args.table c.args.start.now c.args.player.now
    (sym c.ante_posted-ante.ensures.posted ∙ c.if-ante-eq0.true))

pub returns-clause-ok : goal.returns-clause-ok
returns-clause-ok c =
    let some : (ante_posted c.args.start.now c.args.player.now == 0) ≡ false =
    ap (λ (n : ℕ). n == 0) (sym c.ante_posted-ante.ensures.posted) ∙ ne_eqb _ 0 c.if-ante-eq0.false in
    on_ok_weaker c.push_table_line.result
    (λ then. then ∙ ap (λ (text : List ℕ). c.args.out.now.items ++ text)
    (text-ante c.args.table c.args.start.now c.args.player.now some))
    (rw (c.bytes.ensures.same, c.ante_posted-ante.ensures.posted) at c.push_table_line.ensures.ok)
