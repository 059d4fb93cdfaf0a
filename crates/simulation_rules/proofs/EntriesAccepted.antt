-- The entry that comes next is accepted.
use Rattle.std.proofs.Common.{◌≡◌, ◌∙◌, refl, sym, ap, ℕ, ◌+◌, ◌<◌, ◌≤◌, Bool, true, false, List, [], ◌∷◌, map, length, get_or, Option, Some, None, arith}
use Rattle.std.specs.Prelude.{◌==◌, ◌&&◌, is_none, is_some, nat_lt, nat_le, not}
use Rattle.std.specs.Fmt.{decimal}
use Rattle.std.specs.List.{range_with_len}
use Rattle.std.specs.Str.{bytes_eq}
use Rattle.std.proofs.lemmas.Bool.{and_from, and_right, eq-eqb, false_from_ne_true, le-ltb, or_left}
use Rattle.std.proofs.lemmas.Bool.Decides.{nat_tests}
use Rattle.std.proofs.lemmas.Fmt.{decimal_injective}
use Rattle.std.proofs.lemmas.List.Folds.{list_any_none}
use Rattle.std.proofs.lemmas.List.FromFn.{get_or-map-range_with_len}
use Rattle.std.proofs.lemmas.Slice.Eq.{bytes_eq-Decides}
use Rattle.rulebook.specs.Checks.{first_that_holds}
use Rattle.rulebook.specs.Limits.{most_entries}
use Rattle.rulebook.proofs.Found.{some-found}
use Rattle.rulebook.proofs.Tests.{find-passes}
use Rattle.rulebook.specs.Seats.{clockwise_after}
use Rattle.entry_list.specs.Entries.{is_known}
use Rattle.seat_book.specs.Counts.{count_at}
use Rattle.seat_book.specs.Players.{player_at, taken_seats}
use Rattle.seat_book.specs.Seatings.{Seating, IsSeating}
use Rattle.seat_book.proofs.TakenSeats.{taken_count-seating}
use Rattle.balance_rule.specs.EmptySeats.{is_empty_seat, lowest_seat}
use Rattle.balance_rule.proofs.FreeSeats.{empty-untaken, some-free, walk-finds}
use Rattle.break_draw.proofs.Chosen.{lowest-within}
use Rattle.floor_text.specs.declared.refusal.Refusal.TheVariants.{Stopped, NameKnown, NoTable, NoSeat, SeatTaken, NotFewest, LateClosed, Over, ListFull}
use Rattle.tournament_events.specs.declared.event.Event.TheVariants.{Enter}
use Rattle.floor_director.proofs.FirstTables.{tables-none}
use Rattle.tournament_rules.specs.Books.{BookState, has_seat_number, has_table}
use Rattle.tournament_rules.specs.Checks.{book_refusal, is_late, is_not_fewest, is_over_for_all, is_sold_out, is_taken, may_be_entered}
use Rattle.tournament_rules.specs.States.{PlayState, refusal_of}
use Rattle.tournament_rules.specs.Valid.{IsValid}
use Rattle.tournament_rules.proofs.Entries.{right_has}
use Rattle.simulation_rules.specs.declared.place.SimPlace.{SimPlace}
use Rattle.simulation_rules.specs.Course.{IsEntering}
use Rattle.simulation_rules.specs.Entrants.{entrant_name, entrants, next_entry, seat_to_take, table_to_enter}
use Rattle.simulation_rules.proofs.BookEvents.{between, free_by_book}
use Rattle.simulation_rules.proofs.EntryRoom.{entered_next, table_has_room}

-- Those who enter after different numbers of others have different names.
names-differ : (one other : ℕ) → one < most_entries → other < one
    → bytes_eq (entrant_name one) (entrant_name other) ≡ false
names-differ one other few less = false_from_ne_true (bytes_eq (entrant_name one) (entrant_name other)) (λ same.
    let names : entrant_name one ≡ entrant_name other =
    (bytes_eq-Decides (entrant_name one) (entrant_name other)).0 same in
    let texts : decimal (one + 1) ≡ decimal (other + 1) = cc in
    let numbers = decimal_injective (one + 1) (other + 1) (omega (arith, few)) (omega (arith, few, less)) texts in
    omega (arith, numbers, less))

-- The next name is a new one.
next-new : (entries : List (List ℕ)) → length entries < most_entries
    → entries ≡ map entrant_name (range_with_len 0 (length entries))
    → is_known entries (entrant_name (length entries)) ≡ false
next-new entries few names =
    list_any_none (bytes_eq (entrant_name (length entries))) entries
    (λ k d within.
    let is : get_or entries k d ≡ entrant_name k = ap (λ (listed : List (List ℕ)). get_or listed k d) names
    ∙ get_or-map-range_with_len entrant_name 0 (length entries) k k d within (omega arith) in
    ap (bytes_eq (entrant_name (length entries))) is ∙ names-differ (length entries) k few within)

-- A seat that is taken next: it is one of the table's, and nobody sits there.
record IsTakenNext (seating : Seating) (table seat : ℕ) : Type 0 where
  first : 1 ≤ seat
  last : seat ≤ seating.seat_count
  free : is_empty_seat seating.players table seat ≡ true

-- Where a table has room, a seat of it that nobody has is taken next.
taken_next : (seating : Seating) (table : ℕ) → IsSeating seating
    → count_at seating.players table < seating.seat_count → IsTakenNext seating table (seat_to_take seating table)
unfolding seat_to_take
taken_next seating table lawful room =
    let seats = seating.seat_count in
    let empty = is_empty_seat seating.players table in
    let counted = taken_count-seating seating table lawful in
    let free = some-free (taken_seats seating.players table) seats (omega (arith, counted, room)) in
    let passes : empty free.0 ≡ true =
    sym (empty-untaken seating.players table seats free.0 lawful.most_seats free.1.0 free.1.1) ∙ ap not free.1.2 in
    let found = some-found (lowest_seat seats empty)
    (walk-finds seats empty seats free.0 (omega arith) free.1.0 free.1.1 passes) in
    let within = lowest-within empty seats found.0 found.1 in
    rw found.1 (record {
      first = within.0;
      last = within.1;
      free = find-passes empty (clockwise_after seats seats) found.0 found.1;
    })

-- None of nine checks holds.
nine-free : (a b c d e f g h i : Bool) → a ≡ false → b ≡ false → c ≡ false → d ≡ false → e ≡ false → f ≡ false
    → g ≡ false → h ≡ false → i ≡ false
    → first_that_holds ((Stopped, a) ∷ (NameKnown, b) ∷ (NoTable, c) ∷ (NoSeat, d) ∷ (SeatTaken, e) ∷ (NotFewest, f)
    ∷ (LateClosed, g) ∷ (Over, h) ∷ (ListFull, i) ∷ []) ≡ None
nine-free a b c d e f g h i a_is b_is c_is d_is e_is f_is g_is h_is i_is =
    rw (a_is, b_is, c_is, d_is, e_is, f_is, g_is, h_is, i_is) refl

-- What is so of an entry that no check refuses.
record IsFreeEntry (book : BookState) (name : List ℕ) (table seat : ℕ) : Type 0 where
  going : book.stopped ≡ false
  new : is_known book.entries name ≡ false
  there : may_be_entered book table ≡ true
  within : has_seat_number book seat ≡ true
  free : is_taken book table seat ≡ false
  fewest : is_not_fewest book table ≡ false
  early : is_late book ≡ false
  goes : is_over_for_all book ≡ false
  room : is_sold_out book ≡ false

entry-free : (book : BookState) (name : List ℕ) (table seat : ℕ) → IsFreeEntry book name table seat
    → book_refusal book (Enter name table seat) ≡ None
unfolding book_refusal
entry-free book name table seat is =
    nine-free book.stopped (is_known book.entries name) (not (may_be_entered book table))
    (not (has_seat_number book seat)) (is_taken book table seat) (is_not_fewest book table) (is_late book)
    (is_over_for_all book) (is_sold_out book) is.going is.new (ap not is.there) (ap not is.within) is.free
    is.fewest is.early is.goes is.room

not-lower : (one other : ℕ) → other ≤ one → nat_lt one other ≡ false
not-lower one other low = grind (arith, nat_tests)

not-full : (count : ℕ) → count < most_entries → nat_le most_entries count ≡ false
not-full count few = grind (arith, nat_tests)

-- The entry that comes next is accepted.
pub entry_accepted : (play : PlayState) (place : SimPlace) → IsValid play.book → play.book.stopped ≡ false
    → IsEntering play.book place → length play.book.entries < entrants play.book.plan
    → length play.book.entries < most_entries → refusal_of play (next_entry play.book) ≡ None
entry_accepted play place valid going entering few room =
    let book = play.book in
    let seating = book.seating in
    let table = table_to_enter seating in
    let next = entered_next seating valid.tables.lawful.some_tables in
    let seat = taken_next seating table valid.tables.lawful (table_has_room book valid few) in
    let has = right_has book.plan valid.plan.right in
    let tables = valid.tables.tables in
    let seats = valid.tables.seats in
    let level = entering.level in
    let late = has.some_late in
    let there : has_table book table ≡ true =
    between 1 book.plan.tables table next.there.first (let last = next.there.last in omega (arith, last, tables)) in
    free_by_book play (next_entry book) refl (entry-free book (entrant_name (length book.entries)) table
    (seat_to_take seating table) (record {
      going = going;
      new = next-new book.entries room entering.names;
      there = and_from (has_table book table) _ there
          (or_left (book.begun == 0) _ (eq-eqb book.begun 0 entering.begun));
      within = between 1 book.plan.seats (seat_to_take seating table) seat.first
          (let last = seat.last in omega (arith, last, seats));
      free = not_taken (player_at seating.players (record { table = table; seat = seat_to_take seating table }))
          seat.free;
      fewest = tables-none (λ other. may_be_entered book other
          && nat_lt (count_at seating.players other) (count_at seating.players table)) book.plan.tables
          (λ other above within. and_right (may_be_entered book other) _
          (not-lower (count_at seating.players other) (count_at seating.players table)
          (next.least other (record { first = omega (arith, above); last = omega (arith, within, tables) }))));
      early = le-ltb book.plan.late book.level (omega (arith, level, late));
      goes = ap (λ busts. nat_lt 0 (length busts) && length seating.players == 1) entering.busts;
      room = not-full (length book.entries + book.reentries)
          (let once = entering.once in omega (arith, room, once));
    }))
  where
    not_taken : {A : Type 0} (found : Option A) → is_none found ≡ true → is_some found ≡ false
    not_taken None none = refl
    not_taken (Some item) none = absurd cc
