use Rattle.std.proofs.Common.{◌≡◌, ◌<◌, ℕ, length, get_or, None, false}
use Rattle.chip_race.specs.BestCards.{is_among_first}
use Rattle.chip_race.proofs.winners.winners.Given as goal

abbrev pub invariant-loop-index : goal.invariant-loop-index
invariant-loop-index l = record {
  seats : length l.has_won ≡ 10;
  each : (k : ℕ) → k < l.index → get_or l.has_won k false ≡ is_among_first l.best l.chips (get_or l.best k None);
}
