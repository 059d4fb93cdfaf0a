use Rattle.std.proofs.Common.{rules, refl, false}
use Rattle.seat_book.proofs.Keeping.{IsSeating-kept, kept-empty, players_in-empty}
use Rattle.seat_book.proofs.seat_book.SeatBook.new.Goals as goal

pub invariant_of-result : goal.invariant_of-result
invariant_of-result c =
    let slots = c.in_ok-vec.ensures.items_if_clones_equal (λ y is. search rules) in
    let places = c.in_ok-vec-2.ensures.items_if_clones_equal (λ y is. search rules) in
    let counts = c.in_ok-vec-3.ensures.items_if_clones_equal (λ y is. is) in
    let statuses = c.in_ok-vec-4.ensures.items_if_clones_equal (λ y is. is) in
    rw (slots, places, counts, statuses, c.from-table_total.ensures, c.from.ensures, c.fresh.ensures)
    (kept-empty c.args.tables c.args.seats c.requires.some_tables c.requires.most_tables c.requires.some_seats
    c.requires.most_seats)

pub returns-clause-empty : goal.returns-clause-empty
returns-clause-empty c =
    let slots = c.in_ok-vec.ensures.items_if_clones_equal (λ y is. search rules) in
    let statuses = c.in_ok-vec-4.ensures.items_if_clones_equal (λ y is. is) in
    rw (slots, statuses, c.from-table_total.ensures, c.fresh.ensures, players_in-empty) refl

pub returns-clause-lawful : goal.returns-clause-lawful
returns-clause-lawful c =
    let slots = c.in_ok-vec.ensures.items_if_clones_equal (λ y is. search rules) in
    let statuses = c.in_ok-vec-4.ensures.items_if_clones_equal (λ y is. is) in
    rw (slots, statuses, c.from-table_total.ensures, c.from.ensures, c.fresh.ensures)
    (IsSeating-kept false (kept-empty c.args.tables c.args.seats c.requires.some_tables c.requires.most_tables
    c.requires.some_seats c.requires.most_seats))
