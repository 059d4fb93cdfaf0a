use Rattle.std.proofs.Common.{◌∙◌, arith}
use Rattle.betting_round.specs.WhoIsDue.{player_in}
use Rattle.table_engine.specs.declared.start.StartSeat.{StartSeat}
use Rattle.table_engine.specs.Awards.{stack_after}
use Rattle.rulebook.proofs.Rewrites.{rewritten-all, rewritten-more}
use Rattle.table_engine.proofs.BySeat.{seat-within}
use Rattle.table_engine.proofs.players.pay.Goals as goal

pub stack_after-requires : goal.stack_after-requires
stack_after-requires c =
    let seat = seat-within c.args.players.now c.loop-index.index c.index-players-index.result c.requires.seats
    (omega arith) in
    record { first = seat.0; last = seat.1; small = c.requires.small }

pub loop-index-preserved : goal.loop-index-preserved
loop-index-preserved c =
    rw (c.stack_after.ensures, c.loop-index.invariant)
    (rewritten-more (λ (player : StartSeat). stack_after c.args.awards.now player.seat
    (player_in c.args.round.now.players player.seat)) c.args.players.now c.args.stacks.now c.loop-index.index _
    (omega arith) (omega arith))

pub returns : goal.returns
returns c =
    c.loop-index.invariant
    ∙ rewritten-all (λ (player : StartSeat). stack_after c.args.awards.now player.seat
    (player_in c.args.round.now.players player.seat)) c.args.players.now c.args.stacks.now c.loop-index.index
    (omega arith) (omega arith)
