use Rattle.std.proofs.Common.{◌∙◌, arith}
use Rattle.std.specs.List.{zip}
use Rattle.std.proofs.lemmas.Slice.Zip.{length-zip}
use Rattle.table_engine.specs.Results.{with_stack}
use Rattle.rulebook.proofs.Rewrites.{rewritten-all}
use Rattle.table_engine.proofs.Stacks.{stacks-more}
use Rattle.table_engine.proofs.players.set_stacks.Goals as goal

pub loop-index-preserved : goal.loop-index-preserved
loop-index-preserved c =
    rw c.with_stack.ensures (stacks-more c.args.players.now c.loop-index.players c.args.stacks.now c.loop-index.index
    c.index-players-index.result c.requires c.loop-index-test.true c.index-players-index.is c.loop-index.invariant)

pub returns : goal.returns
returns c =
    c.loop-index.invariant
    ∙ rewritten-all (λ (pair : _). with_stack pair.0 pair.1)
    (zip c.args.players.now c.args.stacks.now) c.args.players.now c.loop-index.index
    (rw (length-zip c.args.players.now c.args.stacks.now) (omega arith)) c.loop-index-test.false
