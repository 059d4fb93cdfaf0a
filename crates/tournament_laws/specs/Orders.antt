-- When two lists of events have one order: the same events of the book in order, and at each table the same begins,
-- acts, called times and settles in order. So each hand that begins has the same acts in order. This project's own.
use Rattle.std.specs.Prelude.{◌≡◌, ℕ, Bool, true, false, ◌==◌, not, List, filter}
use Rattle.tournament_events.specs.declared.event.Event.{Event}
use Rattle.tournament_events.specs.declared.event.Event.TheVariants as events
use Rattle.tournament_rules.specs.Kinds.{kind_of, is_played}

-- whether an event is one of the book: all are but acts of players and called times
abbrev pub is_of_book : Event → Bool
is_of_book event = not (is_played (kind_of event))

-- whether an event is one of a table's hands: they begin there, go on there and end there, and a stop ends all hands
abbrev pub is_of_hands : ℕ → Event → Bool
is_of_hands table (events.Begin there row) = there == table
is_of_hands table (events.Act there name act) = there == table
is_of_hands table (events.Time there) = there == table
is_of_hands table (events.Settle there) = there == table
is_of_hands table events.Stop = true
is_of_hands table _ = false

-- Two lists have one order.
pub record HaveOneOrder (one other : List Event) : Type 0 where
  pub book : filter is_of_book one ≡ filter is_of_book other
  pub hands : (table : ℕ) → filter (is_of_hands table) one ≡ filter (is_of_hands table) other
