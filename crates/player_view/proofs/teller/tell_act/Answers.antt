use Rattle.std.proofs.Common.{arith, ◌∙◌, ◌++◌, ℕ, List, ap, refl, sym}
use Rattle.std.proofs.lemmas.Grind.{common_steps}
use Rattle.std.proofs.lemmas.Result.{on_ok_weaker}
use Rattle.player_view.specs.Tellers.{hand_of}
use Rattle.player_view.proofs.Left.{left-falls, left-three}
use Rattle.player_view.proofs.Telling.{played-some, text-acted}
use Rattle.player_view.proofs.teller.tell_act.Goals as goal

pub push_act-written-requires-clause-before : goal.push_act-written-requires-clause-before
push_act-written-requires-clause-before c = rw c.streets_left-left_before.ensures (left-three c.in-Played.hand)

pub push_act-written-requires-clause-left : goal.push_act-written-requires-clause-left
push_act-written-requires-clause-left c =
    rw (c.in-Ok.ensures.state, c.streets_left-left_before.ensures) (left-falls c.in-Played.hand c.args.act.now)

pub returns-else-is_err-clause-ok : goal.returns-else-is_err-clause-ok
returns-else-is_err-clause-ok c =
    let hand = c.in-Played.hand in
    let told = played-some (hand_of c.args.told.now) hand (sym c.in_ok-resume.ensures.ok ∙ c.in-Played.is) in
    on_ok_weaker c.push_act-written.result
    (λ written who caller.
    written who hand c.args.act.now c.in-Ok.ensures.state (sym c.streets_left-left_before.ensures)
    (sym c.in-Ok.ensures.done) refl
    ∙ ap (λ (text : List ℕ). c.args.out.now.items ++ text)
    (text-acted c.args.table who (hand_of c.args.told.now) hand c.play.new.hand caller c.args.act.now told
    c.in-Ok.ensures.state))
    c.push_act-written.ensures.ok

pub returns-in_default-play-clause-extends : goal.returns-in_default-play-clause-extends
returns-in_default-play-clause-extends c = grind (arith, common_steps)

pub returns-in_err-resume-clause-extends : goal.returns-in_err-resume-clause-extends
returns-in_err-resume-clause-extends c = grind (arith, common_steps)

pub returns-then-is_err-clause-err : goal.returns-then-is_err-clause-err
returns-then-is_err-clause-err c = grind (arith, common_steps)
