use Rattle.std.proofs.Common.{◌≡◌, ◌≤◌, ◌<◌, length, get_or, arith}
use Rattle.table_engine.specs.Results.{with_stack, with_stacks}
use Rattle.tournament_rules.specs.Players.{pay_one}
use Rattle.floor_book.proofs.Dealt.{seated_as}
use Rattle.floor_book.proofs.Paid.{paid_next, paid_last, length_with_stacks, payee_at, payees_with_stacks}
use Rattle.floor_book.proofs.pay.pay_stacks.Goals as goal

pub loop-index-preserved : goal.loop-index-preserved
loop-index-preserved c =
    let players = c.args.players.now in
    let stacks = c.args.stacks.now in
    let index = c.loop-index.index in
    let player = c.index-players-index.result in
    let size : length (with_stacks players stacks) ≡ length players =
    length_with_stacks players stacks c.requires.named in
    let within : index < length (with_stacks players stacks) = omega (arith, size) in
    let at = payee_at players stacks index player c.requires.named c.loop-index-test.true c.index-players-index.is in
    let paid : c.pay.new.seats ≡ seated_as c.loop-index.seats
    (pay_one c.loop-index.seats.players (with_stack player (get_or stacks index 0))) =
    rw c.with_stack.ensures at c.pay.ensures.paid in
    paid_next c.args.seats.now c.loop-index.seats c.pay.new.seats (with_stacks players stacks) index
    (with_stack player (get_or stacks index 0)) c.loop-index.invariant within at paid c.pay.ensures.lawful

pub returns-clause-paid : goal.returns-clause-paid
returns-clause-paid c =
    let players = c.args.players.now in
    let stacks = c.args.stacks.now in
    let size : length (with_stacks players stacks) ≡ length players =
    length_with_stacks players stacks c.requires.named in
    let all : length (with_stacks players stacks) ≤ c.loop-index.index = omega (arith, size) in
    paid_last c.args.seats.now c.loop-index.seats (with_stacks players stacks) c.loop-index.index
    c.loop-index.invariant all (payees_with_stacks players stacks c.requires.named c.requires.payees)
