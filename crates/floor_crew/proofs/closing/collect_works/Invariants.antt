use Rattle.std.proofs.Common.{◌≡◌, ◌+◌, ◌≤◌, length, vec_capacity, vec_len}
use Rattle.std.specs.Vec.Iter.{into_iter_items, into_iter_len}
use Rattle.floor_crew.proofs.Taking.{IsGathering}
use Rattle.floor_crew.proofs.closing.collect_works.Given as goal

-- the passes of those so far were taken out, and there is room for the others
abbrev pub invariant-loop-work : goal.invariant-loop-work
invariant-loop-work l =
    (goal.iterator-loop-work).can_next l.work-iterator ×
    (goal.iterator-loop-work).is_finite l.work-iterator ×
    record {
      left : length (into_iter_items l.work-iterator) ≡ into_iter_len l.work-iterator;
      row : vec_len l.row + into_iter_len l.work-iterator ≤ vec_capacity l.row;
      of_book : vec_len l.passes.books + into_iter_len l.work-iterator ≤ vec_capacity l.passes.books;
      gathering : IsGathering l.initial.passes (into_iter_items l.initial.work-iterator) l.yielded
          (into_iter_items l.work-iterator) l.row.items l.passes;
    }
