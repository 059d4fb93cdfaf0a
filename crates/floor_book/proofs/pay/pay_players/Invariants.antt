use Rattle.std.proofs.Common.{take}
use Rattle.floor_book.proofs.Paid.{IsPaidSoFar}
use Rattle.floor_book.proofs.pay.pay_players.Given as goal

abbrev pub invariant-loop-payee : goal.invariant-loop-payee
invariant-loop-payee l = IsPaidSoFar l.initial.seats l.seats (take l.payee-index l.payees)
