use Rattle.std.proofs.Common.{◌≡◌, ◌∙◌, ℕ, ap, Err, Vec, Global}
use Rattle.std.specs.Prelude.{◌⊎◌}
use Rattle.std.proofs.lemmas.Result.{IfErr-at_err, on_err_weaker}
use Rattle.book_dock.specs.Ends.{journal_of}
use Rattle.command_lines.specs.declared.fault.Fault.{Fault}
use Rattle.command_lines.specs.declared.fault.Fault.TheVariants as faults
use Rattle.command_lines.specs.Endings.{IsOfWriting}
use Rattle.floor_online.specs.Doors.{failed_text}
use Rattle.floor_online.specs.Served.{HasFront, HasServed, IsOfServing, MayHavePut}
use Rattle.floor_online.proofs.EvenDoors.{even-still}
use Rattle.floor_online.proofs.Fronts.{both-at-ok, fault-weaker, front-may, handed-cause, handed-on, of-holding, of-writing, writing-untouched}
use Rattle.floor_online.proofs.server.serve_plan.Goals as goal

pub returns-in_err-room-clause-doors : goal.returns-in_err-room-clause-doors
returns-in_err-room-clause-doors g c = even-still (g.H.Hall.told c.args.hall.now)

pub returns-in_err-end-clause-hall : goal.returns-in_err-end-clause-hall
returns-in_err-end-clause-hall g c =
    handed-cause faults.Hall c.from_residual-in_err-end.result c.in_err-end.field-0.0
    c.from_residual-in_err-end.ensures.1 (λ hall. c.in_err-end.ensures.hall (ap Err hall))

pub returns-in_err-end-clause-others : goal.returns-in_err-end-clause-others
returns-in_err-end-clause-others g c =
    handed-on IsOfServing c.from_residual-in_err-end.result c.in_err-end.field-0.0 c.from_residual-in_err-end.ensures.1
    (of-holding c.in_err-end.field-0.0 c.in_err-end.ensures.others)

pub returns-clause-served : goal.returns-clause-served
returns-clause-served g c = λ left read.
    both-at-ok c.write_held.result (λ (lines : Vec ℕ Global). lines.items ≡ failed_text 1 c.deref.result.now)
    (λ (lines : Vec ℕ Global). HasServed g.H.D.Door.told g.H.D.Door.faults g.H.D.L.Link.told g.H.D.L.Link.faults left
    c.args.seed c.args.asked.desks lines.items
    (record { written = g.O.Sink.written c.args.out.now; hall = g.H.Hall.told c.args.hall.now })
    (record { written = g.O.Sink.written c.write_held.new.out; hall = g.H.Hall.told c.hold_plan.new.hall }))
    (λ lines is put. record {
      plan = c.args.plan;
      words = c.args.words.now;
      read = read;
      journal = journal_of c.in_ok-end.end;
      failed = c.in_ok-end.failed.items;
      held = c.in_ok-end.ensures.held;
      put = put;
      lines_are = is ∙ ap (failed_text 1) c.deref.ensures.value;
    }) c.write_held.ensures.lines c.write_held.ensures.put

pub returns-clause-front : goal.returns-clause-front
returns-clause-front g c = λ left read.
    let journal = journal_of c.in_ok-end.end in
    let before = g.O.Sink.written c.args.out.now in
    let after = g.O.Sink.written c.write_held.new.out in
    let may : HasFront journal before after → MayHavePut left c.args.seed before after =
    front-may left c.args.seed before after c.args.plan c.args.words.now journal read
    c.in_ok-end.ensures.held.held.whole in
    on_err_weaker c.write_held.result may c.write_held.ensures.front

pub returns-clause-untouched : goal.returns-clause-untouched
returns-clause-untouched g c =
    let now = c.write_held.new.out in
    fault-weaker c.write_held.result IsOfWriting
    (λ (f : Fault). (f ≡ faults.Write) ⊎ ((f ≡ faults.NoMemory) ⊎ (now ≡ c.args.out.now)))
    (writing-untouched c.args.out.now now) c.write_held.ensures.others

pub returns-clause-hall : goal.returns-clause-hall
returns-clause-hall g c = λ is. absurd (IfErr-at_err IsOfWriting is c.write_held.ensures.others)

pub returns-clause-others : goal.returns-clause-others
returns-clause-others g c =
    fault-weaker c.write_held.result IsOfWriting IsOfServing of-writing c.write_held.ensures.others
