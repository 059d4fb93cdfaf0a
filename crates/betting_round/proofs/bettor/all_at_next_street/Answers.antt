use Rattle.std.proofs.Common.{arith}
use Rattle.std.specs.Prelude.{option_map}
use Rattle.rulebook.proofs.Rewrites.{rewritten-more}
use Rattle.betting_round.specs.StreetActs.{at_next_street}
use Rattle.betting_round.proofs.bettor.all_at_next_street.Goals as goal

pub loop-index-preserved : goal.loop-index-preserved
loop-index-preserved c =
    rw (c.at_next_street.ensures, c.loop-index.invariant)
    (rewritten-more (option_map at_next_street) c.args.players.now _ c.loop-index.index _ (omega arith)
    (omega arith))
