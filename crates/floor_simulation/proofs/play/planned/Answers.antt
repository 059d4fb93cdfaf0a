use Rattle.std.proofs.Common.{◌≡◌, ◌∙◌, [], arith, rules}
use Rattle.std.specs.Vec.Iter.{into_iter_items}
use Rattle.std.proofs.lemmas.List.{nil_from_length}
use Rattle.floor_simulation.proofs.PlanLines.{planning-ends, planning-next, planning-room, planning-starts}
use Rattle.floor_simulation.proofs.play.planned.Goals as goal

pub loop-line-init : goal.loop-line-init
loop-line-init c =
    let lines : into_iter_items c.into_iter-line-iterator.result ≡ c.in_ok-line-items.line-items.items = search rules in
    rw c.in_ok-tournament.ensures (planning-starts c.args.plan.now
    (into_iter_items c.into_iter-line-iterator.result) c.requires (lines ∙ c.in_ok-line-items.ensures.lines))

pub take_line-requires : goal.take_line-requires
take_line-requires c =
    planning-room c.args.plan.now c.loop-line.tournament (into_iter_items c.loop-line.line-iterator)
    c.loop-line.invariant

pub loop-line-preserved : goal.loop-line-preserved
loop-line-preserved c =
    planning-next c.args.plan.now c.loop-line.tournament c.take_line.new.tournament c.in-Some.line
    (into_iter_items c.loop-line.line-iterator) (into_iter_items c.next.new.self) c.in-Some.ensures.steps.0
    c.in_ok-take_line.ensures c.loop-line.invariant

pub apply-requires : goal.apply-requires
apply-requires c =
    planning-room c.args.plan.now c.loop-line.tournament (into_iter_items c.loop-line.line-iterator)
    c.loop-line.invariant

pub returns : goal.returns
returns c =
    let left = into_iter_items c.loop-line.line-iterator in
    let size = c.loop-line.line-iterator.rest.ok.0 in
    let none : left ≡ [] = nil_from_length left (omega (arith, size, c.in-None.ensures.steps.0)) in
    planning-ends c.args.plan.now c.loop-line.tournament c.apply.new.self left none c.in_ok-apply.ensures.state
    c.loop-line.invariant
