use Rattle.std.proofs.Common.{◌≡◌, ◌++◌, ◌∷◌, [], take}
use Rattle.std.specs.Prelude.{map}
use Rattle.std.specs.List.{flat_map}
use Rattle.card_choices.specs.Choices.{choices}
use Rattle.hand_rank.specs.BestHigh.{greater, best_high}
use Rattle.hand_rank.proofs.best.best_omaha.Given as goal

abbrev pub invariant-loop-pair : goal.invariant-loop-pair
invariant-loop-pair l =
    l.best
    ≡ greater (0 ∷ []) (best_high
    (flat_map (λ pair. map (λ three. pair ++ three) (choices 3 l.fn.board)) (take l.pair-index l.pair-items)))
