use Rattle.std.proofs.Common.{◌≡◌, take, None}
use Rattle.std.specs.Prelude.{fold}
use Rattle.chip_race.specs.BestCards.{better}
use Rattle.chip_race.proofs.best_cards.highest.Given as goal

abbrev pub invariant-loop-card : goal.invariant-loop-card
invariant-loop-card l = l.best ≡ fold better None (take l.card-index l.cards)
