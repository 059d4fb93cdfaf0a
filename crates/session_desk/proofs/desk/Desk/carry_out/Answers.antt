use Rattle.std.proofs.Common.{◌≡◌, ◌∙◌, ℕ, ap, refl}
use Rattle.std.specs.Prelude.{vec_len, if◌then◌else◌}
use Rattle.level_plan.specs.Items.{is_between}
use Rattle.floor_text.specs.declared.refusal.Refusal.TheVariants.{NoTable}
use Rattle.session_lines.specs.declared.meaning.Meaning.TheVariants.{Asks}
use Rattle.session_lines.specs.declared.reply.Reply.{Reply}
use Rattle.session_lines.specs.declared.reply.Reply.TheVariants as replies
use Rattle.session_lines.specs.declared.request.Request.TheVariants as requests
use Rattle.session_desk.proofs.Carried.{answered-still}
use Rattle.session_desk.proofs.desk.Desk.carry_out.Goals as goal

pub returns-in-Watch : goal.returns-in-Watch
returns-in-Watch g c =
    let said : c.watch_reply.result
    ≡ (if is_between 1 (vec_len c.args.docks.now) c.in-Watch.table then replies.Ok else replies.No NoTable) =
    c.watch_reply.ensures ∙ ap (λ (n : ℕ). let r : Reply =
    if is_between 1 n c.in-Watch.table then replies.Ok else replies.No NoTable in r) c.len.ensures in
    rw c.in-Watch.is
    (answered-still (vec_len c.args.docks.now) c.args.self (Asks (requests.Watch c.in-Watch.table)) c.watch_reply.result
    (λ table. refl) record { same = said; none = refl })
