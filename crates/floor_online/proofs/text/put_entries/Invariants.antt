use Rattle.std.proofs.Common.{◌≡◌, ◌++◌, ◌≤◌, take}
use Rattle.std.specs.Prelude.{IfSome, Some}
use Rattle.std.specs.List.{flat_map}
use Rattle.floor_online.specs.EntryText.{entry_text}
use Rattle.floor_online.proofs.text.put_entries.Given as goal

abbrev pub invariant-loop-entry : goal.invariant-loop-entry
invariant-loop-entry g l =
    IfSome (g.O.Sink.written l.fn.out)
    (λ before. g.O.Sink.written l.out ≡ Some (before ++ flat_map entry_text (take l.entry-index l.entries)))
    × (g.O.Sink.faults l.fn.out ≤ g.O.Sink.faults l.out)
