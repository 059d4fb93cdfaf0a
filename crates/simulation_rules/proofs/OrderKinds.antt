-- An order that is owed is a balance or a break.
use Rattle.std.proofs.Common.{List, ℕ}
use Rattle.std.specs.Prelude.{◌||◌, Option, Some, None}
use Rattle.std.proofs.lemmas.Bool.{cond_both}
use Rattle.seat_book.specs.declared.place.Place.{Place}
use Rattle.seat_book.specs.Seatings.{Seating, is_race_pending, is_round_open}
use Rattle.balance_rule.specs.Balance.{is_even_enough}
use Rattle.balance_rule.specs.Filling.{fill_seats}
use Rattle.tournament_events.specs.declared.event.Event.{Event}
use Rattle.tournament_events.specs.declared.event.Event.TheVariants as events
use Rattle.floor_director.specs.Orders.{balance_of, break_of, drawn_break, first_order, giver, is_playing, last_open, next_order, owed_balance, owed_break, taker}

-- No order, a balance or a break.
abbrev pub IsOrder : Option Event → Type 0
IsOrder None = Unit {0}
IsOrder (Some (events.Balance from to)) = Unit {0}
IsOrder (Some (events.Break table seats names)) = Unit {0}
IsOrder (Some order) = ⊥

first-kind : (one other : Option Event) → IsOrder one → IsOrder other → IsOrder (first_order one other)
first-kind None other is also = also
first-kind (Some order) other is also = is

module _ (seating : Seating) (seed : List ℕ) (number : ℕ) where
  drawn-kind : (table : ℕ) (fill : Option (List Place)) → IsOrder (drawn_break seating seed number table fill)
  drawn-kind table None = tt
  drawn-kind table (Some fill) = tt

  break-kind : (last : Option ℕ) → IsOrder (break_of seating seed number last)
  break-kind None = tt
  break-kind (Some table) =
      cond_both {A = Option Event} (is_playing seating table) None
      (drawn_break seating seed number table (fill_seats seating table)) IsOrder (λ plays. tt)
      (λ rests. drawn-kind table (fill_seats seating table))

  balance-kind : (from to : Option ℕ) → IsOrder (balance_of seating from to)
  balance-kind None to = tt
  balance-kind (Some from) None = tt
  balance-kind (Some from) (Some to) =
      cond_both {A = Option Event} (is_even_enough seating from to) None (Some (events.Balance from to)) IsOrder
      (λ even. tt) (λ uneven. tt)

  -- The order that the floor owes is one of these.
  pub order-kind : IsOrder (next_order seating seed number)
  unfolding next_order owed_break owed_balance
  order-kind =
      cond_both {A = Option Event} (is_race_pending seating || is_round_open seating) None
      (first_order (owed_break seating seed number) (owed_balance seating)) IsOrder (λ held. tt)
      (λ free. first-kind (owed_break seating seed number) (owed_balance seating) (break-kind (last_open seating))
      (balance-kind (giver seating) (taker seating)))
