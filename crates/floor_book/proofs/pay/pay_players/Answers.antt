use Rattle.std.proofs.Common.{arith}
use Rattle.std.proofs.lemmas.Grind.{common_steps}
use Rattle.floor_book.proofs.Paid.{paid_last}
use Rattle.floor_book.proofs.pay.pay_players.Goals as goal

pub returns-clause-paid : goal.returns-clause-paid
returns-clause-paid c = paid_last c.args.seats.now c.loop-payee.seats c.args.payees.now c.loop-payee.payee-index
    c.loop-payee.invariant c.loop-payee-test.false c.requires.payees

pub loop-payee-preserved : goal.loop-payee-preserved
loop-payee-preserved c = grind (arith, common_steps)

pub pay-requires-clause-entry : goal.pay-requires-clause-entry
pay-requires-clause-entry c = grind (arith, common_steps)
