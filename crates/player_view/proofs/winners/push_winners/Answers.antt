use Rattle.std.proofs.Common.{arith, ◌∙◌, ◌++◌, List, ℕ, ap, sym}
use Rattle.std.proofs.lemmas.Grind.{common_steps}
use Rattle.std.proofs.lemmas.Result.{on_ok_weaker}
use Rattle.player_view.proofs.HandTexts.{text-unwon, text-won}
use Rattle.player_view.proofs.Texts.{nothing-more, written-both}
use Rattle.player_view.proofs.winners.push_winners.Goals as goal

pub returns-then-not-is_over-clause-ok : goal.returns-then-not-is_over-clause-ok
returns-then-not-is_over-clause-ok c =
    let open_ = sym c.is_over.ensures ∙ c.if-not-is_over.true in
    nothing-more c.args.out.now.items _ (text-unwon c.args.table c.args.hand.now open_)

pub returns-clause-ok : goal.returns-clause-ok
returns-clause-ok c =
    let hand = c.args.hand.now in
    let old = c.args.out.now.items in
    let over = sym c.is_over.ensures ∙ c.if-not-is_over.false in
    let whole = rw c.start.ensures.same at c.in_turn-players.ensures.turn in
    on_ok_weaker c.push_won-2.result
    (λ then. written-both old _ _ _ _ c.in_ok-push_won.ensures.ok then
    ∙ ap (λ (text : List ℕ). old ++ text)
    (text-won c.args.table hand c.in_turn-players.result.first.now c.in_turn-players.result.last.now whole over))
    c.push_won-2.ensures.ok

pub returns-clause-kept : goal.returns-clause-kept
returns-clause-kept c = grind (arith, common_steps)

pub returns-then-not-is_over-clause-kept : goal.returns-then-not-is_over-clause-kept
returns-then-not-is_over-clause-kept c = grind (arith, common_steps)
