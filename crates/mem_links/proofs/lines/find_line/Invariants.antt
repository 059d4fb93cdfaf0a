use Rattle.std.proofs.Common.{◌-◌, length}
use Rattle.mem_links.specs.Lines.{IsSearched}
use Rattle.mem_links.proofs.lines.find_line.Given as goal

-- what was searched so far holds no such line
abbrev pub invariant-search : goal.invariant-search
invariant-search l = IsSearched l.front l.put l.searched

abbrev pub decreases-search : goal.decreases-search
decreases-search l = length l.put - l.searched
