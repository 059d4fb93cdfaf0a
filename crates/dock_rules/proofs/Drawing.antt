-- The draws that come next.
use Rattle.std.proofs.Common.{◌≡◌, ◌∙◌, refl, sym, ap, ℕ, true, false, List}
use Rattle.std.specs.Prelude.{Option, Some, None}
use Rattle.std.specs.Option.{option_map_or}
use Rattle.std.proofs.lemmas.Bool.{lt-ltb}
use Rattle.seat_book.specs.declared.place.Place.{Place}
use Rattle.seat_book.specs.Counts.{count_at}
use Rattle.balance_rule.specs.Filling.{empty_elsewhere, fill_seats, lacks_room, names_at}
use Rattle.break_draw.specs.declared.random.DrawKind.TheVariants.{Seats, Names}
use Rattle.break_draw.specs.Draws.{is_draw}
use Rattle.break_draw.specs.Generator.{drawn_order}
use Rattle.break_draw.proofs.FillRoom.{none-without_room}
use Rattle.break_draw.proofs.Reorders.{draw-right}
use Rattle.break_draw.proofs.Shuffles.{drawn-permutes}
use Rattle.tournament_events.specs.declared.event.Event.{Event}
use Rattle.tournament_events.specs.declared.event.Event.TheVariants as events
use Rattle.floor_director.specs.Owed.{IsNextOrder}
use Rattle.tournament_rules.specs.Books.{BookState}
use Rattle.tournament_rules.specs.Checks.{is_right_draw}
use Rattle.tournament_rules.specs.Kinds.{is_order}
use Rattle.tournament_rules.specs.Valid.{IsValid}
use Rattle.dock_rules.specs.Journals.{Tale, book_of, seats_drawn, with_draws}

-- The next draw of a table is right where its players have seats to take.
pub next-right : (tale : Tale) (book : BookState) (table : ℕ) → IsValid book → lacks_room book.seating table ≡ false
    → is_right_draw book table (seats_drawn tale (fill_seats book.seating table))
    (drawn_order tale.seed Names tale.count (names_at book.seating table)) ≡ true
next-right tale book table valid room = by_fill (fill_seats book.seating table) refl
  where
    by_fill : (fill : Option (List Place)) → fill_seats book.seating table ≡ fill
        → option_map_or (λ found. is_draw book.seating table found (seats_drawn tale fill)
        (drawn_order tale.seed Names tale.count (names_at book.seating table))) fill false ≡ true
    by_fill None none =
        let lacks : lacks_room book.seating table ≡ true =
        lt-ltb (empty_elsewhere book.seating table) (count_at book.seating.players table)
        (none-without_room book.seating valid.tables.lawful table none) in
        let never : false ≡ true = sym room ∙ lacks in
        absurd cc
    by_fill (Some fill) is =
        draw-right book.seating table fill (drawn_order tale.seed Seats tale.count fill)
        (names_at book.seating table) (drawn_order tale.seed Names tale.count (names_at book.seating table)) refl
        (drawn-permutes tale.seed Seats tale.count fill)
        (drawn-permutes tale.seed Names tale.count (names_at book.seating table))

-- What an order that is owed is: one that has the draw that comes next.
pub record IsDrawnOrder (tale : Tale) (event : Event) : Type 0 where
  pub drawn : with_draws tale event ≡ event
  pub order : is_order event ≡ true

-- It is so of each order that is owed.
pub owed-drawn : (tale : Tale) (event : Event)
    → IsNextOrder (book_of tale).seating tale.seed tale.count (Some event) → IsDrawnOrder tale event
owed-drawn tale (events.Break table seats names) next = record {
  drawn = λ i. events.Break table
      ((ap (seats_drawn tale) next.fill.1.0 ∙ sym next.fill.1.1) i) (sym next.players i);
  order = refl;
}
owed-drawn tale (events.Balance from to) next = record { drawn = refl; order = refl }
owed-drawn tale event next = absurd next
