use Rattle.std.proofs.Common.{◌≡◌, None, sym}
use Rattle.table_engine.specs.Hands.{seat_of_name}
use Rattle.table_engine.proofs.Refusals.{refused-without_seat}
use Rattle.table_engine.proofs.hand.Hand.accept.Goals as goal

pub returns-in_default-clause-err : goal.returns-in_default-clause-err
returns-in_default-clause-err c =
    let none : seat_of_name c.args.self.now.start c.args.name ≡ None = sym c.in_default.ensures.seat in
    refused-without_seat c.args.self.now c.args.name c.args.act none
