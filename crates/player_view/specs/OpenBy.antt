-- Which streets are open by how many may still begin. This project's own.
use Rattle.std.specs.Prelude.{ℕ, ◌-◌, List, [], ◌∷◌, take, drop, length}
use Rattle.view_rules.specs.Shown.{BoardStreet, Flop, Turn, River}

-- the streets that have begun, but for the first, where so many may still begin
abbrev pub open_by : ℕ → List BoardStreet
open_by left = take (3 - left) (Flop ∷ Turn ∷ River ∷ [])

-- those that have begun since so many could still begin
abbrev pub opened_since : ℕ → ℕ → List BoardStreet
opened_since left_before left = drop (length (open_by left_before)) (open_by left)
