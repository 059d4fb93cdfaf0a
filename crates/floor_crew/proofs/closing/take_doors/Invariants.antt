use Rattle.std.proofs.Common.{◌≡◌, ◌+◌, ◌≤◌, length, vec_capacity, vec_len}
use Rattle.std.specs.Vec.Iter.{into_iter_items, into_iter_len}
use Rattle.floor_crew.proofs.Taking.{IsTaking}
use Rattle.floor_crew.proofs.closing.take_doors.Given as goal

-- those so far were taken apart, and there is room for the others
abbrev pub invariant-loop-one : goal.invariant-loop-one
invariant-loop-one g l =
    (goal.iterator-loop-one g).can_next l.one-iterator ×
    (goal.iterator-loop-one g).is_finite l.one-iterator ×
    record {
      left : length (into_iter_items l.one-iterator) ≡ into_iter_len l.one-iterator;
      doors : vec_len l.back.doors + into_iter_len l.one-iterator ≤ vec_capacity l.back.doors;
      failed : vec_len l.back.failed + into_iter_len l.one-iterator ≤ vec_capacity l.back.failed;
      taking : IsTaking l.initial.passes (into_iter_items l.initial.one-iterator) l.yielded
          (into_iter_items l.one-iterator) l.back.doors.items l.back.failed.items l.passes;
    }
