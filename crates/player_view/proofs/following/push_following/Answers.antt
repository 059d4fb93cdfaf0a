use Rattle.std.proofs.Common.{arith, ◌∙◌, ◌++◌, List, ℕ, ap, sym}
use Rattle.std.proofs.lemmas.Grind.{common_steps}
use Rattle.std.proofs.lemmas.Result.{on_ok_weaker}
use Rattle.player_view.proofs.HandTexts.{text-following, text-nothing}
use Rattle.player_view.proofs.Texts.{nothing-more, written-three}
use Rattle.player_view.proofs.following.push_following.Goals as goal

pub returns-clause-ok : goal.returns-clause-ok
returns-clause-ok c =
    let old = c.args.out.now.items in
    let hand = c.args.hand.now in
    let streets = rw (c.start-start.ensures.same, c.streets_left-left.ensures) at c.in_ok-push_streets.ensures.ok in
    on_ok_weaker c.push_winners.result
    (λ then who. written-three old _ _ _ _ _ _ c.in_ok-push_showdown.ensures.ok streets then
    ∙ ap (λ (text : List ℕ). old ++ text)
    (text-following c.args.table c.args.left_before who hand c.start-start.ensures.lawful c.start-start.ensures.played))
    c.push_winners.ensures.ok

pub returns-then-not-is_over-clause-ok : goal.returns-then-not-is_over-clause-ok
returns-then-not-is_over-clause-ok c =
    let same = sym c.streets_left-left.ensures ∙ c.if-left-left_before.true in
    let goes_on = sym c.is_over.ensures ∙ c.if-not-is_over.true in
    λ who. nothing-more c.args.out.now.items _
    (text-nothing c.args.table c.args.left_before who c.args.hand.now c.start-start.ensures.lawful
    c.start-start.ensures.played same goes_on)

pub returns-clause-kept : goal.returns-clause-kept
returns-clause-kept c = grind (arith, common_steps)

pub returns-in_err-push_streets-clause-kept : goal.returns-in_err-push_streets-clause-kept
returns-in_err-push_streets-clause-kept c = grind (arith, common_steps)

pub returns-then-not-is_over-clause-kept : goal.returns-then-not-is_over-clause-kept
returns-then-not-is_over-clause-kept c = grind (arith, common_steps)
