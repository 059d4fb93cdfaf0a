use Rattle.std.proofs.Common.{◌≡◌, ◌∙◌, ℕ, ◌+◌, None, ◌<◌, arith, length, ap, subst, refl}
use Rattle.std.proofs.lemmas.Grind.{common_steps}
use Rattle.std.specs.List.{insert}
use Rattle.dock_rules.specs.Tables.{time_refusal_at}
use Rattle.history_lock.specs.Passes.{pass_number}
use Rattle.session_desk.specs.declared.desk.Desk.{Desk}
use Rattle.session_desk.specs.Answers.{times_asked}
use Rattle.session_desk.specs.Asking.{IsNoted}
use Rattle.session_desk.proofs.AtTables.{done-at, time-came}
use Rattle.session_desk.proofs.desk.Desk.call_time.Goals as goal

pub returns : goal.returns
returns g c =
    let after : Desk = record {
      book = c.args.self.book;
      tables = c.put_back.new.tables;
      asked = c.note-reply.new.asked;
    } in
    let stands = c.call_time-pass.ensures.stands in
    let came = time-came (pass_number c.take_out-pass.result) (c.args.index + 1) stands.at stands.added
    c.call_time-pass.result.1 stands.is.1.0 stands.is.1.1 in
    let its : c.table.result ≡ c.args.index + 1 = c.table.ensures ∙ c.requires.table in
    let within : c.args.index < length c.args.self.tables.items =
    omega (arith, c.requires.index, c.args.self.tables.ok.0) in
    record {
      done = done-at c.args.index (c.args.index + 1) time_refusal_at times_asked None c.args.self after
          c.take_out-pass.result c.call_time-pass.result.0 stands.at stands.added c.call_time-pass.result.1
          c.note-reply.result within c.take_out-pass.ensures.pass
          (c.put_back.ensures
          ∙ ap (λ items. insert items c.args.index c.call_time-pass.result.0) c.take_out-pass.ensures.rest)
          refl stands.hold refl stands.is.0
          (subst (λ (t : ℕ). IsNoted None t c.call_time-pass.result.1 c.args.self.asked.items
          c.note-reply.new.asked.items
          c.note-reply.result) its c.note-reply.ensures)
          came.0 came.1;
    }

pub put_back-requires-clause-place : goal.put_back-requires-clause-place
put_back-requires-clause-place g c = grind (arith, common_steps)
