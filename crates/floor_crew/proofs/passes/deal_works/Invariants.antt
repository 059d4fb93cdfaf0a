use Rattle.std.proofs.Common.{◌≡◌, ◌+◌, ◌<◌, ◌≤◌, [], All, length, vec_capacity, vec_len}
use Rattle.std.specs.List.{AllZip}
use Rattle.std.specs.Vec.Iter.{into_iter_items, into_iter_len}
use Rattle.history_lock.specs.Passes.{IsFresh, lock_of, own}
use Rattle.table_dock.specs.Docks.{dock_id}
use Rattle.book_dock.specs.Docks.{book_id}
use Rattle.floor_crew.specs.declared.floor.Floor.{Floor}
use Rattle.floor_crew.proofs.Dealing.{AreDealt}
use Rattle.floor_crew.proofs.passes.deal_works.Given as goal

-- so many passes are left of the book as of tables, and the workers so far have theirs
abbrev pub invariant-loop-dock : goal.invariant-loop-dock
invariant-loop-dock l =
    (goal.iterator-loop-dock).can_next l.dock-iterator ×
    (goal.iterator-loop-dock).is_finite l.dock-iterator ×
    record {
      enough : into_iter_len l.dock-iterator ≤ vec_len l.books;
      few : vec_len l.works + into_iter_len l.dock-iterator < 256;
      room : vec_len l.works + into_iter_len l.dock-iterator ≤ vec_capacity l.works;
      left : length (into_iter_items l.dock-iterator) ≡ into_iter_len l.dock-iterator;
      dealt : (floor : Floor) → All (λ pass. (lock_of pass ≡ book_id floor.book) × (own pass ≡ [])) l.initial.books.items
          → AllZip (λ dock pass. IsFresh (dock_id dock) 0 [] pass) floor.docks.items
          (into_iter_items l.initial.dock-iterator)
          → AreDealt floor l.works.items l.books.items (into_iter_items l.dock-iterator);
    }
