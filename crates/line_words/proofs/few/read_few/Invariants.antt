use Rattle.std.proofs.Common.{◌≡◌, ◌≤◌, ◌++◌, length, option_map}
use Rattle.line_words.specs.Fields.{each_of}
use Rattle.line_words.proofs.few.read_few.Given as goal

abbrev pub invariant-loop-word : goal.invariant-loop-word
invariant-loop-word g l = (1 ≤ length l.few) × (length l.few ≤ g.row.MOST)
    × (option_map (λ items. l.few ++ items) (each_of g.T.Spelled.spelled l.line)
    ≡ each_of g.T.Spelled.spelled l.fn.line)

abbrev pub decreases-loop-word : goal.decreases-loop-word
decreases-loop-word g l = length l.line
