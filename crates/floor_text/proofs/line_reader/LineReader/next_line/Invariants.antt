use Rattle.std.proofs.Common.{◌≡◌, ◌+◌, ◌-◌}
use Rattle.floor_text.proofs.ReadLines.{IsSearching}
use Rattle.floor_text.proofs.line_reader.LineReader.next_line.Given as goal

abbrev pub invariant-search : goal.invariant-search
invariant-search g l =
    IsSearching l.initial.self l.self (g.S.Source.left l.initial.source) (g.S.Source.left l.source)
    (g.S.Source.faults l.initial.source) (g.S.Source.faults l.source) l.searched
    (l.source ≡ l.initial.source)

-- the bytes that may still be taken
abbrev pub decreases-search : goal.decreases-search
decreases-search g l = l.self.limit + 1 - l.self.taken
