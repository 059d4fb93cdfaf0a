-- Who has folded in a hand. This project's own.
use Rattle.std.specs.Prelude.{◌≡◌, false, Contains}
use Rattle.table_engine.specs.declared.start.StartSeat.{StartSeat}
use Rattle.table_engine.specs.Hands.{HandTerms, is_live}

-- A player of a hand has folded in it: he is dealt in, and is not live.
pub record HasFolded (hand : HandTerms) (player : StartSeat) : Type 0 where
  pub dealt : Contains hand.start.seats player
  pub folded : is_live hand player ≡ false
