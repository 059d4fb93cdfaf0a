use Rattle.std.proofs.Common.{◌≡◌, length, take}
use Rattle.hand_rank.specs.Sets.{AreSuitsOf}
use Rattle.hand_rank.proofs.suits.Suits.of.Given as goal

abbrev pub invariant-loop-card : goal.invariant-loop-card
invariant-loop-card l = (length l.ranks ≡ 4) × AreSuitsOf l.ranks (take l.card-index l.cards)
