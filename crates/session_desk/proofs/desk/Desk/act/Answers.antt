use Rattle.std.proofs.Common.{◌≡◌, ◌∙◌, ◌∷◌, [], ℕ, ◌+◌, List, Some, false, ◌<◌, arith, length, ap, subst, sym, refl}
use Rattle.std.proofs.lemmas.Grind.{common_steps}
use Rattle.table_engine.specs.declared.record.ActOf.{ActOf}
use Rattle.view_rules.specs.declared.entries.TableEntry.{TableEntry}
use Rattle.view_rules.specs.declared.entries.TableEntry.TheVariants.{Acted}
use Rattle.std.specs.List.{insert}
use Rattle.dock_rules.specs.Tables.{act_refusal_at}
use Rattle.history_lock.specs.Passes.{pass_number}
use Rattle.session_desk.specs.declared.desk.Asked.{Asked}
use Rattle.session_desk.specs.declared.desk.Desk.{Desk}
use Rattle.session_desk.specs.Answers.{act_asked}
use Rattle.session_desk.specs.Asking.{IsNoted}
use Rattle.session_desk.proofs.AtTables.{act-came, done-at}
use Rattle.session_desk.proofs.desk.Desk.act.Goals as goal

pub returns : goal.returns
returns g c =
    let name = c.args.name in
    let after : Desk = record {
      book = c.args.self.book;
      tables = c.put_back.new.tables;
      asked = c.note-reply.new.asked;
    } in
    let made : ActOf = record { name = name; act = c.args.act; by_time = false } in
    let stands = c.act-pass.ensures.stands in
    let came = act-came (act_refusal_at stands.at name c.args.act) (pass_number c.take_out-pass.result) made
    c.act-pass.result.1 c.act_taken-taken.result stands.added c.act_taken-taken.ensures stands.is.0.answer stands.is.1
    in
    let its : c.table.result ≡ c.args.index + 1 = c.table.ensures ∙ c.requires.table in
    let within : c.args.index < length c.args.self.tables.items =
    omega (arith, c.requires.index, c.args.self.tables.ok.0) in
    record {
      done = done-at c.args.index (c.args.index + 1) (λ at. act_refusal_at at name c.args.act)
          (λ table at. act_asked table name c.args.act ∷ []) (Some name) c.args.self after c.take_out-pass.result
          c.act-pass.result.0 stands.at stands.added c.act_taken-taken.result c.note-reply.result within
          c.take_out-pass.ensures.pass
          (c.put_back.ensures ∙ ap (λ items. insert items c.args.index c.act-pass.result.0)
          c.take_out-pass.ensures.rest)
          refl stands.hold refl came.0
          (subst (λ (t : ℕ). IsNoted (Some name) t c.act_taken-taken.result c.args.self.asked.items
          c.note-reply.new.asked.items c.note-reply.result) its c.note-reply.ensures)
          (λ act so.
          let listed : ActOf → List Asked = λ (a : ActOf).
          record { who = Some name; table = c.args.index + 1; act = a } ∷ [] in (
            ap listed (sym (came.1 act so).0),
            (came.1 act so).1
                ∙ ap (λ (a : ActOf). let l : List TableEntry = Acted (pass_number c.take_out-pass.result) a ∷ [] in l)
                (sym (came.1 act so).0),
          ))
          came.2;
    }

pub put_back-requires-clause-place : goal.put_back-requires-clause-place
put_back-requires-clause-place g c = grind (arith, common_steps)
