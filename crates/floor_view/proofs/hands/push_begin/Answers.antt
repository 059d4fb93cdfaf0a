use Rattle.std.proofs.Common.{arith, sym}
use Rattle.std.proofs.lemmas.Grind.{common_steps}
use Rattle.std.proofs.lemmas.Result.{on_ok_weaker}
use Rattle.floor_view.proofs.Begun.{written-nothing, written-opened}
use Rattle.floor_view.proofs.hands.push_begin.Goals as goal

pub returns-in_ok-push_floor_lines-in-Some-clause-told : goal.returns-in_ok-push_floor_lines-in-Some-clause-told
returns-in_ok-push_floor_lines-in-Some-clause-told c =
    on_ok_weaker c.push_opening.result
    (λ then before. written-opened c.args.who before c.args.tournament.now c.args.table c.args.event.now
    c.in-Some.hand.now c.start-start.result.now c.args.text.now.items c.push_floor_lines.new.out.items
    c.push_opening.new.out.items c.requires (sym c.in-Some.ensures.hand) c.in-Some.ensures.here
    c.start-start.ensures.same c.in_ok-push_floor_lines-in-Some.ensures.ok then)
    c.push_opening.ensures.ok

pub returns-in-None-clause-told : goal.returns-in-None-clause-told
returns-in-None-clause-told c =
    on_ok_weaker c.push_floor_lines-in-None.result
    (λ then before. written-nothing c.args.who before c.args.tournament.now c.args.table c.args.event.now
    c.args.text.now.items c.push_floor_lines-in-None.new.out.items c.requires (sym c.in-None.ensures.hand) then)
    c.push_floor_lines-in-None.ensures.ok

pub returns-in_ok-push_floor_lines-in-Some-clause-kept : goal.returns-in_ok-push_floor_lines-in-Some-clause-kept
returns-in_ok-push_floor_lines-in-Some-clause-kept c = grind (arith, common_steps)
