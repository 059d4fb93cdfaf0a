use Rattle.std.proofs.Common.{◌≡◌, ◌++◌, take}
use Rattle.std.specs.Prelude.{map}
use Rattle.place_list.specs.Standings.{standing_of}
use Rattle.place_list.specs.Ties.{IsTieBefore}
use Rattle.place_list.proofs.place_list.add_standings.Given as goal

abbrev pub invariant-loop-index : goal.invariant-loop-index
invariant-loop-index l = record {
  tie_before : IsTieBefore l.busts l.tie l.index;
  so_far : l.standings.items ≡ l.initial.standings.items ++ map (standing_of l.entries l.prizes l.busts)
      (take l.index l.busts);
}
