use Rattle.std.proofs.Common.{arith, ◌∙◌, ◌++◌, List, ℕ, ap, subst}
use Rattle.std.proofs.lemmas.Grind.{common_steps}
use Rattle.std.proofs.lemmas.Result.{on_ok_weaker}
use Rattle.table_engine.specs.Hands.{HandTerms}
use Rattle.table_engine.specs.Plays.{IsLawfulPlay}
use Rattle.table_engine.specs.Starts.{IsLawfulStart}
use Rattle.player_view.proofs.Taking.{front-play}
use Rattle.player_view.proofs.HandTexts.{text-act}
use Rattle.player_view.proofs.Texts.{written-both}
use Rattle.player_view.proofs.act.push_act.Goals as goal

pub returns-clause-ok : goal.returns-clause-ok
returns-clause-ok c =
    let old = c.args.out.now.items in
    on_ok_weaker c.push_following.result
    (λ then who before act is left done name.
    let lawful = subst (λ (hand : HandTerms). IsLawfulStart hand.start) is c.push_following.ensures.lawful in
    let play = subst (λ (hand : HandTerms). IsLawfulPlay hand) is c.push_following.ensures.played in
    written-both old _ _ _ _ c.in_ok-push_done.ensures.ok (then who)
    ∙ ap (λ (text : List ℕ). old ++ text)
    (text-act c.args.table c.args.left_before who before c.args.hand.now act c.args.name.now c.args.done lawful
    (front-play before act play) left done name))
    c.push_following.ensures.ok

pub returns-clause-kept : goal.returns-clause-kept
returns-clause-kept c = grind (arith, common_steps)
