-- An act that a hand accepts.
use Rattle.std.specs.Prelude.{◌≡◌, true, Some, None}
use Rattle.table_engine.specs.declared.record.Accepted.{Accepted}
use Rattle.table_engine.specs.Acts.{done_of_act, refusal_of_act, time_act}
use Rattle.table_engine.specs.Hands.{HandTerms, seat_of_name}

-- The act is of the player in this seat and comes to this, no check of the hand refuses it, and where it came by a
-- called time it is the one that a called time makes.
pub record IsAccepted (hand : HandTerms) (accepted : Accepted) : Type 0 where
  pub seat : seat_of_name hand.start accepted.entry.name ≡ Some accepted.seat
  pub free : refusal_of_act hand accepted.entry.name accepted.entry.act ≡ None
  pub done : accepted.done ≡ done_of_act hand accepted.entry.name accepted.entry.act
  pub timed : accepted.entry.by_time ≡ true → accepted.entry ≡ time_act hand
