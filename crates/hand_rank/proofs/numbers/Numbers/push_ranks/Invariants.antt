use Rattle.std.proofs.Common.{◌≡◌, ◌+◌, ◌++◌, length}
use Rattle.hand_rank.specs.Sets.{ranks_of}
use Rattle.hand_rank.proofs.numbers.Numbers.push_ranks.Given as goal

abbrev pub invariant-loop : goal.invariant-loop
invariant-loop l = record {
  written : l.self ++ ranks_of l.left.bits ≡ l.fn.self ++ ranks_of l.fn.ranks.bits;
  so_far : length (ranks_of l.left.bits) + l.counter ≡ length (ranks_of l.fn.ranks.bits);
}
