-- What kind an event is of: each event is named once. This project's own.
use Rattle.std.specs.Prelude.{Bool, true, false, not}
use Rattle.tournament_events.specs.declared.event.Event.{Event}
use Rattle.tournament_events.specs.declared.event.Event.TheVariants as events

-- The kinds of events: the plan is given, the book alone is asked, a hand begins, is played or is settled, or the
-- tournament is stopped.
pub data Kind : Type 0 where
  Planning : Kind
  Order : Kind
  Begin : Kind
  Play : Kind
  Settle : Kind
  Stop : Kind

-- the kind of an event
abbrev pub kind_of : Event → Kind
kind_of (events.Plan line) = Planning
kind_of events.Go = Planning
kind_of (events.Enter name table seat) = Order
kind_of (events.Reenter name table seat) = Order
kind_of (events.Begin table row) = Begin
kind_of (events.Act table name act) = Play
kind_of (events.Time table) = Play
kind_of (events.Settle table) = Settle
kind_of (events.Balance from to) = Order
kind_of (events.Break table places names) = Order
kind_of events.Level = Order
kind_of (events.Race table row) = Order
kind_of (events.Hands on) = Order
kind_of events.Round = Order
kind_of events.Stop = Stop

-- whether the book takes events of a kind by itself: its orders, and the stop
abbrev pub is_book_alone : Kind → Bool
is_book_alone Order = true
is_book_alone Stop = true
is_book_alone _ = false

-- whether the book takes an event by itself: a player enters or re-enters, two tables are balanced, a table breaks, a
-- level, a race, a switch or an end of a round comes, or the tournament is stopped
abbrev pub is_order : Event → Bool
is_order event = is_book_alone (kind_of event)

-- whether events of a kind leave the hands as they are
abbrev pub is_beside_hands : Kind → Bool
is_beside_hands Order = true
is_beside_hands _ = false

-- whether an event is an order that leaves the hands as they are: all but the stop
abbrev pub leaves_hands : Event → Bool
leaves_hands event = is_beside_hands (kind_of event)

-- whether events of a kind play a hand on: they are acts of players and called times
abbrev pub is_played : Kind → Bool
is_played Play = true
is_played _ = false

-- whether a player enters, for the first time or again
abbrev pub is_entry : Event → Bool
is_entry (events.Enter name table seat) = true
is_entry (events.Reenter name table seat) = true
is_entry _ = false

-- whether a player who was out enters again
abbrev pub is_reentry : Event → Bool
is_reentry (events.Reenter name table seat) = true
is_reentry _ = false

-- whether a hand begins
abbrev pub is_begin : Event → Bool
is_begin (events.Begin table row) = true
is_begin _ = false

-- whether a chip race is made
abbrev pub is_race : Event → Bool
is_race (events.Race table row) = true
is_race _ = false

-- whether the next level begins
abbrev pub is_level : Event → Bool
is_level events.Level = true
is_level _ = false

-- whether a round of hand-for-hand ends, by itself or with hand-for-hand
abbrev pub ends_round : Event → Bool
ends_round events.Round = true
ends_round (events.Hands on) = not on
ends_round _ = false
