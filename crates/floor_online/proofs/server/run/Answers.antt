use Rattle.std.proofs.Common.{◌≡◌, ℕ, subst, rules, Some, None, Vec, Global}
use Rattle.std.proofs.lemmas.Result.{IfErr-at_err, IfOk-weaker}
use Rattle.command_lines.specs.declared.fault.Fault.TheVariants as faults
use Rattle.command_lines.specs.Commands.{service_of}
use Rattle.command_lines.specs.declared.service.Service.{Service}
use Rattle.floor_online.specs.Served.{HasServed, IsOfServing}
use Rattle.floor_online.proofs.EvenDoors.{even-still}
use Rattle.floor_online.proofs.Fronts.{held-at-ok}
use Rattle.floor_online.proofs.server.run.Goals as goal

pub returns-in_err-asked-clause-doors : goal.returns-in_err-asked-clause-doors
returns-in_err-asked-clause-doors g c = even-still (g.H.Hall.told c.args.hall.now)

pub returns-in_err-plan-clause-doors : goal.returns-in_err-plan-clause-doors
returns-in_err-plan-clause-doors g c = even-still (g.H.Hall.told c.args.hall.now)

-- two services that the same words are are one
one_service : (one other : Service) → Some one ≡ Some other → one ≡ other
one_service one other same = cc

-- and words that are one are not none
some_service : {X : Type 0} (one : Service) → Some one ≡ None → X
some_service one same = cc

pub returns-clause-end : goal.returns-clause-end
returns-clause-end g c = held-at-ok c.serve_plan.result c.in_ok-plan.ensures.end

pub returns-clause-within : goal.returns-clause-within
returns-clause-within g c = held-at-ok c.serve_plan.result c.in_ok-plan.ensures.within

pub returns-clause-served : goal.returns-clause-served
returns-clause-served g c =
    let read = c.read.ensures.read in
    IfOk-weaker c.serve_plan.result _ _ (λ lines has asked is.
    subst (λ (one : Service). HasServed g.H.D.Door.told g.H.D.Door.faults g.H.D.L.Link.told g.H.D.L.Link.faults
    (g.I.Source.left c.args.input.now) c.args.seed one.desks lines.items
    (record { written = g.O.Sink.written c.args.out.now; hall = g.H.Hall.told c.args.hall.now })
    (record { written = g.O.Sink.written c.serve_plan.new.out; hall = g.H.Hall.told c.serve_plan.new.hall }))
    (one_service c.in_ok-asked.asked asked (search (rules, read, is))) has)
    (c.serve_plan.ensures.served (g.I.Source.left c.args.input.now) c.in_ok-plan.ensures.file)

pub returns-clause-front : goal.returns-clause-front
returns-clause-front g c = c.serve_plan.ensures.front (g.I.Source.left c.args.input.now) c.in_ok-plan.ensures.file

pub returns-clause-words : goal.returns-clause-words
returns-clause-words g c = (
  λ usage. absurd (IfErr-at_err IsOfServing usage c.serve_plan.ensures.others),
  λ none. some_service c.in_ok-asked.asked (search (rules, c.read.ensures.read, none)),
)

pub returns-clause-unasked : goal.returns-clause-unasked
returns-clause-unasked g c = λ usage. absurd (IfErr-at_err IsOfServing usage c.serve_plan.ensures.others)

pub returns-clause-plan : goal.returns-clause-plan
returns-clause-plan g c = λ item wrong. absurd (IfErr-at_err IsOfServing wrong c.serve_plan.ensures.others)

pub returns-clause-read : goal.returns-clause-read
returns-clause-read g c = λ read. absurd (IfErr-at_err IsOfServing read c.serve_plan.ensures.others)

pub returns-clause-too_long : goal.returns-clause-too_long
returns-clause-too_long g c = λ more. absurd (IfErr-at_err IsOfServing more c.serve_plan.ensures.others)
