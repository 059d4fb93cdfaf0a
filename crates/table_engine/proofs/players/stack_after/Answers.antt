use Rattle.std.proofs.Common.{arith, sym}
use Rattle.table_engine.proofs.Slots.{behind-few}
use Rattle.table_engine.proofs.Paid.{award-most}
use Rattle.table_engine.proofs.players.stack_after.Goals as goal

pub overflow_add-result : goal.overflow_add-result
overflow_add-result c =
    let few = behind-few c.args.round.now c.args.seat c.in-Some.bettor (sym c.in-Some.ensures) in
    let most = award-most c.args.awards.now c.args.seat c.in-Some.bettor.live in
    let is = c.award_in.ensures in
    omega (arith, c.requires)
