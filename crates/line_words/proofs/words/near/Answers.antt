use Rattle.std.proofs.Common.{arith}
use Rattle.line_words.proofs.Positions.{at-first, at-none}
use Rattle.line_words.proofs.words.near.Goals as goal

pub returns-then-bytes-index : goal.returns-then-bytes-index
returns-then-bytes-index c =
    at-first c.args.between 8 c.loop-index.index c.args.bytes.now (omega arith) (omega arith) c.loop-index.invariant
    c.if-bytes-index.true

pub returns : goal.returns
returns c = at-none c.args.between 8 c.args.bytes.now (λ k within. c.loop-index.invariant k (omega arith))
