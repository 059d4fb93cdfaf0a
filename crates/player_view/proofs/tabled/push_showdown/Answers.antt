use Rattle.std.proofs.Common.{arith, ◌∙◌, ◌++◌, List, ℕ, ap, sym}
use Rattle.std.proofs.lemmas.Grind.{common_steps}
use Rattle.std.proofs.lemmas.Result.{on_ok_weaker}
use Rattle.player_view.proofs.HandTexts.{text-hidden, text-tabled}
use Rattle.player_view.proofs.Texts.{nothing-more, written-both}
use Rattle.player_view.proofs.tabled.push_showdown.Goals as goal

pub returns-then-not-is_shown_down-clause-ok : goal.returns-then-not-is_shown_down-clause-ok
returns-then-not-is_shown_down-clause-ok c =
    let hidden = sym c.is_shown_down.ensures ∙ c.if-not-is_shown_down.true in
    nothing-more c.args.out.now.items _ (text-hidden c.args.table c.args.hand.now hidden)

pub returns-clause-ok : goal.returns-clause-ok
returns-clause-ok c =
    let hand = c.args.hand.now in
    let old = c.args.out.now.items in
    let shown = sym c.is_shown_down.ensures ∙ c.if-not-is_shown_down.false in
    let whole = rw c.start.ensures.same at c.in_turn-players.ensures.turn in
    on_ok_weaker c.push_tabled-2.result
    (λ then. written-both old _ _ _ _ c.in_ok-push_tabled.ensures.ok then
    ∙ ap (λ (text : List ℕ). old ++ text)
    (text-tabled c.args.table hand c.in_turn-players.result.first.now c.in_turn-players.result.last.now whole shown))
    c.push_tabled-2.ensures.ok

pub returns-clause-kept : goal.returns-clause-kept
returns-clause-kept c = grind (arith, common_steps)

pub returns-then-not-is_shown_down-clause-kept : goal.returns-then-not-is_shown_down-clause-kept
returns-then-not-is_shown_down-clause-kept c = grind (arith, common_steps)
