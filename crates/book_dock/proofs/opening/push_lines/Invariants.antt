use Rattle.std.proofs.Common.{◌≡◌, ◌++◌, map}
use Rattle.std.specs.Vec.Iter.{into_iter_items}
use Rattle.history_lock.specs.Limits.{opener}
use Rattle.tournament_events.specs.declared.event.Event.TheVariants as events
use Rattle.dock_rules.specs.Journals.{plain_entry}
use Rattle.book_dock.proofs.opening.push_lines.Given as goal

-- The entries so far, before those of the lines that are left, are the entries of all lines behind the first ones.
abbrev pub invariant-loop-line : goal.invariant-loop-line
invariant-loop-line l =
    l.journal.items ++ map (λ line. plain_entry opener l.seed (events.Plan line)) (into_iter_items l.line-iterator)
    ≡ l.initial.journal.items
    ++ map (λ line. plain_entry opener l.seed (events.Plan line)) (into_iter_items l.initial.line-iterator)
