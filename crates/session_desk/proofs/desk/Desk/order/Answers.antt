use Rattle.std.proofs.Common.{refl, sym, subst}
use Rattle.session_lines.specs.declared.reply.Reply.{Reply}
use Rattle.session_lines.specs.declared.request.Request.TheVariants as requests
use Rattle.session_desk.specs.Asking.{HasCarriedOut}
use Rattle.session_desk.specs.declared.desk.Desk.{Desk}
use Rattle.session_desk.proofs.Ordered.{order-carried}
use Rattle.session_desk.proofs.desk.Desk.order.Goals as goal

pub returns : goal.returns
returns g c =
    let after : Desk = record {
      book = c.order-pass.result.0;
      tables = c.args.self.tables;
      asked = c.args.self.asked;
    } in
    let stands = c.order-pass.ensures.stands in
    subst (λ (reply : Reply). HasCarriedOut 0 c.args.self after (requests.Order c.args.ask.now) reply)
    (sym c.order_reply.ensures)
    (order-carried c.args.self after c.args.ask.now c.order-pass.result.1 stands.at stands.added refl refl stands.hold
    stands.is.0 stands.is.1)
