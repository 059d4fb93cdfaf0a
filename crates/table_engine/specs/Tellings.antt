-- What a hand tells its tally of the pots.
use Rattle.std.specs.Prelude.{ℕ, Bool, true, false, List, Option, Some, None, if◌then◌else◌}
use Rattle.pot_layers.specs.declared.put.Put.{Put}
use Rattle.pot_layers.specs.Tallies.{folded_at, put_in_at}
use Rattle.table_engine.specs.declared.start.HandStart.{HandStart}
use Rattle.table_engine.specs.declared.start.StartSeat.{StartSeat}
use Rattle.table_engine.specs.Hands.{posted}

-- What was put in at a seat before any act: the blind that its player posted.
abbrev pub first_put : HandStart → Option StartSeat → Put
first_put start None = record { amount = 0; live = false }
first_put start (Some player) = record { amount = posted start player; live = true }

-- The puts once the player at an index has put in so much more, or has folded.
abbrev pub told : List Put → ℕ → ℕ → Bool → List Put
told puts index amount folds =
    if folds then folded_at (put_in_at puts index amount) index else put_in_at puts index amount
