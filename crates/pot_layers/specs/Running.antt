-- What a tally keeps true of its running totals.
use Rattle.std.specs.Prelude.{◌≡◌, ℕ, ◌+◌, ◌<◌, ◌^◌, List}
use Rattle.pot_layers.specs.declared.reach.Reach.{Reach}
use Rattle.pot_layers.specs.Tallies.{total_put}
use Rattle.pot_layers.specs.Reaches.{puts_of, AreRight}

-- Each seat's total is what all have put in up to its height, the total of all is what all have put in, and with the
-- dead chips there are fewer than 2^53.
pub record IsRunning (reaches : List Reach) (total dead : ℕ) : Type 0 where
  pub right : AreRight reaches
  pub whole : total ≡ total_put (puts_of reaches)
  pub fits : total + dead < 2 ^ 53
