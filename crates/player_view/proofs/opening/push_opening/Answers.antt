use Rattle.std.proofs.Common.{arith, ◌∙◌, ◌++◌, List, ℕ, ap}
use Rattle.std.proofs.lemmas.Grind.{common_steps}
use Rattle.std.proofs.lemmas.Result.{on_ok_weaker}
use Rattle.player_view.proofs.Left.{left-three}
use Rattle.player_view.proofs.HandTexts.{text-opening}
use Rattle.player_view.proofs.Texts.{written-three}
use Rattle.player_view.proofs.opening.push_opening.Goals as goal

pub push_following-requires-clause-left : goal.push_following-requires-clause-left
push_following-requires-clause-left c = left-three c.args.hand.now

pub returns-clause-ok : goal.returns-clause-ok
returns-clause-ok c =
    let old = c.args.out.now.items in
    let same = c.start-start.ensures.same in
    let heading = rw same at c.in_ok-push_hand.ensures.ok in
    let seats = rw (c.items.ensures, same) at c.in_ok-push_seats.ensures.ok in
    let posts = rw same at c.in_ok-push_posts.ensures.ok in
    let own = rw same at c.in_ok-push_own.ensures.ok in
    on_ok_weaker c.push_following.result
    (λ then. written-three old _ _ _ _ _ _ heading seats (written-three _ _ _ _ _ _ _ posts own (then c.args.who))
    ∙ ap (λ (text : List ℕ). old ++ text) (text-opening c.args.table c.args.who c.args.hand.now))
    c.push_following.ensures.ok

pub returns-clause-kept : goal.returns-clause-kept
returns-clause-kept c = grind (arith, common_steps)

pub returns-in_err-push_own-clause-kept : goal.returns-in_err-push_own-clause-kept
returns-in_err-push_own-clause-kept c = grind (arith, common_steps)

pub returns-in_err-push_posts-clause-kept : goal.returns-in_err-push_posts-clause-kept
returns-in_err-push_posts-clause-kept c = grind (arith, common_steps)

pub returns-in_err-push_seats-clause-kept : goal.returns-in_err-push_seats-clause-kept
returns-in_err-push_seats-clause-kept c = grind (arith, common_steps)
