-- The players between button and small, seat by seat of the walk.
use Rattle.std.proofs.Common.{◌≡◌, ◌∙◌, ℕ, ◌+◌, ◌-◌, ◌<◌, List, ◌∷◌, Bool, true, false, refl, ap}
use Rattle.std.specs.Prelude.{◌==◌, not, filter, take_while}
use Rattle.std.proofs.lemmas.List.Sums.{take_while-cons}
use Rattle.rulebook.specs.Seats.{walk}
use Rattle.rulebook.proofs.Walks.{walk-next}
use Rattle.button_blinds.specs.SeatSets.{has_seat}
use Rattle.button_blinds.specs.Marks.{players_before}

-- A seat that is not small's comes before small, and then those of the rest that do.
pub players_before-other : (occupied : List Bool) (small seat : ℕ) (more : List ℕ) → (seat == small) ≡ false
    → players_before occupied small (seat ∷ more)
    ≡ filter (has_seat occupied) (seat ∷ take_while (λ other. not (other == small)) more)
players_before-other occupied small seat more other =
    let front : take_while (λ other. not (other == small)) (seat ∷ more)
    ≡ seat ∷ take_while (λ other. not (other == small)) more =
    take_while-cons (λ other. not (other == small)) seat more ∙ rw other refl in
    ap (filter (has_seat occupied)) front

-- A player at another seat comes before small.
pub players_before-sits : (occupied : List Bool) (small : ℕ) (step : ℕ → ℕ) (steps taken seat : ℕ) → taken < steps
    → (step seat == small) ≡ false → has_seat occupied (step seat) ≡ true
    → players_before occupied small (walk step (steps - taken) seat) ≡ step seat ∷ players_before occupied small
    (walk step (steps - (taken + 1)) (step seat))
players_before-sits occupied small step steps taken seat within other sits =
    rw (
      walk-next step steps taken seat within,
      players_before-other occupied small (step seat)
          (walk step (steps - (taken + 1)) (step seat)) other,
      sits,
    ) refl

-- An empty seat adds nobody.
pub players_before-empty : (occupied : List Bool) (small : ℕ) (step : ℕ → ℕ) (steps taken seat : ℕ) → taken < steps
    → (step seat == small) ≡ false → has_seat occupied (step seat) ≡ false
    → players_before occupied small (walk step (steps - taken) seat) ≡ players_before occupied small
    (walk step (steps - (taken + 1)) (step seat))
players_before-empty occupied small step steps taken seat within other nobody =
    rw (
      walk-next step steps taken seat within,
      players_before-other occupied small (step seat)
          (walk step (steps - (taken + 1)) (step seat)) other,
      nobody,
    ) refl
