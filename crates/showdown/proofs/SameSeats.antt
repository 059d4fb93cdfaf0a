-- Two sets of seats are compared seat by seat.
use Rattle.std.proofs.Common.{◌≡◌, List, [], ◌∷◌, Bool, true, false, refl}
use Rattle.std.specs.Cmp.Lexicographic.{pointwise}
use mathlib.Core.Bool.{beq}
use Rattle.pot_layers.specs.Layers.{are_same_seats}

-- Two sets agree seat by seat exactly where they have the same seats.
pub pointwise-same : (one other : List Bool) → pointwise beq one other ≡ are_same_seats one other
pointwise-same [] [] = refl
pointwise-same [] (o ∷ others) = refl
pointwise-same (s ∷ more) [] = refl
pointwise-same (true ∷ more) (true ∷ others) = pointwise-same more others
pointwise-same (true ∷ more) (false ∷ others) = refl
pointwise-same (false ∷ more) (true ∷ others) = refl
pointwise-same (false ∷ more) (false ∷ others) = pointwise-same more others
