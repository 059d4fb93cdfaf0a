use Rattle.std.proofs.Common.{arith}
use Rattle.floor_text.proofs.CutLines.{handed_at_feed, begun_long}
use Rattle.floor_text.proofs.line_cutter.LineCutter.push.Goals as goal

pub returns-then-byte-eq10-clause-lines : goal.returns-then-byte-eq10-clause-lines
returns-then-byte-eq10-clause-lines c =
    λ rest. handed_at_feed c.args.self.now.begun rest c.cut.new.self.begun c.args.byte _ c.if-byte-eq10.true
    c.cut.ensures.feed c.cut.ensures.line c.cut.ensures.begun

pub returns-else-len-lt-KEPT-clause-lines : goal.returns-else-len-lt-KEPT-clause-lines
returns-else-len-lt-KEPT-clause-lines c =
    λ rest. rw (← c.self.view_is)
    (begun_long c.self.inside.begun.items c.args.byte rest c.self.invariant.no_feed c.if-byte-eq10.false
    (omega arith))
