use Rattle.std.proofs.Common.{◌≡◌, ◌∷◌, [], ℕ, ◌<◌, arith, length, subst, sym}
use Rattle.std.specs.Prelude.{true, vec_len, if◌then◌else◌}
use Rattle.floor_text.specs.declared.refusal.Refusal.TheVariants.{NoTable}
use Rattle.level_plan.specs.Items.{is_between}
use Rattle.dock_rules.specs.Tables.{act_refusal_at}
use Rattle.session_lines.specs.declared.reply.Reply.TheVariants.{No, NoMemory}
use Rattle.session_desk.specs.Answers.{act_asked}
use Rattle.session_desk.specs.Asking.{IsDoneAt}
use Rattle.session_desk.proofs.Carried.{act-answered, carried-refused, carried-there, number-at, pass-at}
use Rattle.session_desk.proofs.DeskMoves.{IsSame}
use Rattle.session_desk.proofs.desk.Desk.act_at.Goals as goal

pub act-requires-clause-pass : goal.act-requires-clause-pass
act-requires-clause-pass g c =
    let within : c.in-Ok.index < length c.args.docks.now.items =
    omega (arith, c.in-Ok.ensures.index.0, c.len.ensures, c.args.docks.now.ok.0) in
    let same : c.ready_at.new.self.tables ≡ c.args.self.tables = c.in-Ok.ensures.same.1 in
    rw same (pass-at c.args.docks.now.items c.args.self c.in-Ok.index c.index.result.now c.requires.passes within
    c.index.ensures)

pub act-requires-clause-table : goal.act-requires-clause-table
act-requires-clause-table g c =
    let within : c.in-Ok.index < length c.args.docks.now.items =
    omega (arith, c.in-Ok.ensures.index.0, c.len.ensures, c.args.docks.now.ok.0) in
    number-at c.args.docks.now.items c.in-Ok.index c.index.result.now c.requires.docks within c.index.ensures

pub returns-in-Ok : goal.returns-in-Ok
returns-in-Ok g c =
    let same : IsSame c.args.self c.ready_at.new.self =
    record { book = c.in-Ok.ensures.same.0; tables = c.in-Ok.ensures.same.1; asked = c.in-Ok.ensures.items } in
    let there = subst (λ (n : ℕ). is_between 1 n c.args.table ≡ true) c.len.ensures c.in-Ok.ensures.between in
    act-answered (vec_len c.args.docks.now) c.args.table c.args.name c.args.act c.args.self c.act.result.0
    c.act.result.1
    (carried-there (vec_len c.args.docks.now) c.args.table (λ at. act_refusal_at at c.args.name c.args.act)
    (λ at. act_asked c.args.table c.args.name c.args.act ∷ [])
    c.args.self c.ready_at.new.self c.act.result.0 c.act.result.1 there same
    (subst (λ (t : ℕ). IsDoneAt t (λ at. act_refusal_at at c.args.name c.args.act)
    (λ at. act_asked t c.args.name c.args.act ∷ []) c.ready_at.new.self c.act.result.0
    c.act.result.1) (sym c.in-Ok.ensures.index.1) c.act.ensures.done))

pub returns-in-Err : goal.returns-in-Err
returns-in-Err g c =
    let same : IsSame c.args.self c.ready_at.new.self =
    record { book = c.in-Err.ensures.same.0; tables = c.in-Err.ensures.same.1; asked = c.in-Err.ensures.items } in
    act-answered (vec_len c.args.docks.now) c.args.table c.args.name c.args.act c.args.self c.ready_at.new.self
    c.in-Err.reply
    (carried-refused (vec_len c.args.docks.now) c.args.table (λ at. act_refusal_at at c.args.name c.args.act)
    (λ at. act_asked c.args.table c.args.name c.args.act ∷ [])
    c.args.self c.ready_at.new.self c.in-Err.reply same
    (subst (λ (n : ℕ). c.in-Err.reply ≡ (if is_between 1 n c.args.table then NoMemory else No NoTable)) c.len.ensures
    c.in-Err.ensures.refused))
