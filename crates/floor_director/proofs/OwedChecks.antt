-- No check of the seats refuses an order that is owed.
use Rattle.std.proofs.Common.{◌≡◌, ◌∙◌, refl, sym, ap, ℕ, true, false, List, Some, None}
use Rattle.std.specs.Prelude.{Option}
use Rattle.std.specs.Option.{option_map_or}
use Rattle.std.proofs.lemmas.Bool.{false_from_ne_true, ltb-true}
use Rattle.seat_book.specs.declared.place.Place.{Place}
use Rattle.seat_book.specs.Counts.{count_at, is_open}
use Rattle.seat_book.specs.Seatings.{Seating, IsSeating, is_not_last, is_race_pending, is_round_open}
use Rattle.balance_rule.specs.Filling.{empty_elsewhere, fill_seats, lacks_room, names_at}
use Rattle.balance_rule.specs.Moves.{IsLawfulMove}
use Rattle.balance_rule.specs.Moves.{Break as ByBreak}
use Rattle.break_draw.specs.Draws.{is_draw}
use Rattle.break_draw.proofs.FillRoom.{without_room-none}
use Rattle.break_draw.proofs.Reorders.{draw-right}
use Rattle.tournament_events.specs.declared.event.Event.{Event}
use Rattle.tournament_events.specs.declared.event.Event.TheVariants as events
use Rattle.floor_director.specs.Owed.{IsNextOrder}
use Rattle.floor_director.proofs.NextOrders.{lawful-last, taken}

-- What is so while any order is owed.
pub owed-no_race : (seating : Seating) (seed : List ℕ) (number : ℕ) (order : Event)
    → IsNextOrder seating seed number (Some order) → is_race_pending seating ≡ false
owed-no_race seating seed number (events.Break table seats names) owed = owed.lawful.no_race
owed-no_race seating seed number (events.Balance from to) owed = owed.lawful.1.no_race
owed-no_race seating seed number _ owed = absurd owed

pub owed-no_round : (seating : Seating) (seed : List ℕ) (number : ℕ) (order : Event)
    → IsNextOrder seating seed number (Some order) → is_round_open seating ≡ false
owed-no_round seating seed number (events.Break table seats names) owed = owed.lawful.no_round
owed-no_round seating seed number (events.Balance from to) owed = owed.lawful.1.no_round
owed-no_round seating seed number _ owed = absurd owed

module _ (seating : Seating) (table : ℕ) (seats : List Place) (names : List (List ℕ))
    (lawful : IsLawfulMove seating (ByBreak table seats names)) where
  -- A table that breaks lawfully is the last open one, has room, and its draw is right.
  pub lawful-next : is_not_last seating table ≡ false
  lawful-next = (taken (is_open seating.players table) (is_not_last seating table)
      (lawful-last seating table seats names lawful)).1

  pub lawful-room : IsSeating seating → lacks_room seating table ≡ false
  lawful-room valid = false_from_ne_true (lacks_room seating table) (λ lacks.
      let none = without_room-none seating valid table
      (ltb-true (empty_elsewhere seating table) (count_at seating.players table) lacks) in
      let some = lawful.lawful.fill.1.0 in
      let never : None ≡ Some lawful.lawful.fill.0 = sym none ∙ some in absurd cc)

  pub lawful-draw : option_map_or (λ fill. is_draw seating table fill seats names) (fill_seats seating table) false
      ≡ true
  lawful-draw =
      let chosen = lawful.lawful.fill in
      ap (λ (found : Option (List Place)). option_map_or (λ fill. is_draw seating table fill seats names) found false)
      chosen.1.0
      ∙ draw-right seating table chosen.0 seats (names_at seating table) names refl chosen.1.1 lawful.lawful.players
