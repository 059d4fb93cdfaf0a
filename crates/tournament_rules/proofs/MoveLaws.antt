-- Each balance and each break that is not refused is a lawful move, and what holds of tables and of entries.
use Rattle.std.proofs.Common.{◌≡◌, ◌∙◌, refl, sym, ap, subst, ℕ, ◌+◌, ◌≤◌, Bool, true, false, ◌==◌, ◌&&◌, List, arith}
use Rattle.std.specs.Prelude.{not, nat_lt, Option, Some, None}
use Rattle.std.specs.List.{list_any}
use Rattle.std.specs.Option.{ForSome}
use Rattle.std.proofs.lemmas.Bool.{and_parts, lt-ltb, not-true}
use Rattle.std.proofs.lemmas.Option.{same_Some}
use Rattle.button_blinds.specs.declared.marks.Marks.{Marks}
use Rattle.rulebook.proofs.Among.{all-among}
use Rattle.rulebook.proofs.Found.{some-found}
use Rattle.rulebook.proofs.Passing.{not-any}
use Rattle.rulebook.proofs.Sides.{first_fails}
use Rattle.button_blinds.specs.Marks.{AreMarksOf, is_heads_up, leaves_fewer_than_three, waiting_between, marks_after, big_after}
use Rattle.button_blinds.specs.SeatSets.{has_seat, with_seat, seat_count, AreSeatsOf}
use Rattle.button_blinds.proofs.Distances.{seat_low}
use Rattle.button_blinds.proofs.NextMarksLaws.{marks-fit}
use Rattle.button_blinds.proofs.SeatSetLaws.{seat_count-most}
use Rattle.seat_book.specs.declared.place.Place.{Place}
use Rattle.seat_book.specs.Places.{IsTableOf}
use Rattle.seat_book.specs.Players.{taken_seats}
use Rattle.seat_book.specs.Counts.{count_at, is_open, table_numbers}
use Rattle.seat_book.specs.Tables.{status_at}
use Rattle.seat_book.specs.Seatings.{Seating, IsSeating}
use Rattle.seat_book.proofs.TakenSeats.{seats_of_places, taken_count-seating, taken_within}
use Rattle.seat_book.proofs.TakenPlaces.{seat_count-one_more}
use Rattle.balance_rule.specs.declared.balance.Move.{Move}
use Rattle.balance_rule.specs.EmptySeats.{is_empty_seat, worst_of, worst_empty_seat}
use Rattle.balance_rule.specs.Balance.{next_big_seat, balance_move}
use Rattle.balance_rule.specs.Moves.{Balance as ByBalance, Break as ByBreak, IsFreeTable, IsLawfulMove}
use Rattle.balance_rule.proofs.Balances.{checked-lawful}
use Rattle.balance_rule.proofs.Extremes.{among-tables}
use Rattle.balance_rule.proofs.FreeSeats.{walk-free, first-alike, empty-untaken, empty-apart}
use Rattle.balance_rule.proofs.Movers.{taken-player, carried-is}
use Rattle.tournament_events.specs.declared.answer.Answer.TheVariants.{Ok}
use Rattle.tournament_events.specs.declared.event.Event.{Event}
use Rattle.tournament_rules.specs.Books.{BookState, has_table}
use Rattle.tournament_rules.specs.Checks.{is_table_open, is_playing}
use Rattle.tournament_rules.specs.States.{State, PlayState, refusal_of, answered, answer_to, is_accepted, play_effect, state_after}
use Rattle.tournament_rules.specs.Valid.{IsValid}
use Rattle.tournament_rules.proofs.Balances.{MayBalance}
use Rattle.tournament_rules.proofs.Breaks.{MayBreak}
use Rattle.tournament_rules.proofs.Fitting.{table_range}
use Rattle.tournament_rules.proofs.Steps.{accepted_none}

-- An event that is accepted is not refused.
pub not_refused : (state : State) (play : PlayState) (event : Event) → state.play ≡ Some play
    → answer_to state event ≡ Ok → refusal_of play event ≡ None
not_refused state play event is accepted =
    let taken : answered (refusal_of play event) ≡ Ok = rw is at accepted in
    accepted_none (refusal_of play event) (ap is_accepted taken)

-- What an event that is not refused makes so, is so after one that is accepted.
pub after_accepted : (P : PlayState → Type 0) (state : State) (event : Event) (earlier : PlayState)
    → state.play ≡ Some earlier → answer_to state event ≡ Ok
    → (refusal_of earlier event ≡ None → P (play_effect earlier event))
    → (later : PlayState) → (state_after state event).play ≡ Some later → P later
after_accepted P state event earlier at taken so later after =
    let accepted = ap is_accepted taken in
    let next : (state_after state event).play ≡ Some (play_effect earlier event) = rw (accepted, at) refl in
    subst P (same_Some (play_effect earlier event) later (sym next ∙ after))
    (so (not_refused state earlier event at taken))

-- Where no table passes a test, a table of the plan does not.
pub no_table : (test : ℕ → Bool) (tables table : ℕ) → list_any test (table_numbers tables) ≡ false
    → IsTableOf tables table → test table ≡ false
no_table test tables table none at =
    not-true (test table) (all-among (λ number. not (test number)) table (table_numbers tables)
    (sym (not-any test (table_numbers tables)) ∙ ap not none) (among-tables tables table at))

-- A table that is open and is not playing may be left.
free_table : (book : BookState) (table : ℕ) → IsValid book → is_table_open book table ≡ true
    → is_playing book table ≡ false → IsFreeTable book.seating table
free_table book table valid opened rests =
    let parts = and_parts (has_table book table) (nat_lt 0 (count_at book.seating.players table)) opened in
    let range = table_range 1 book.plan.tables table parts.0 in
    let tables = valid.tables.tables in
    record {
      number = record { first = range.0; last = let last = range.1 in omega (arith, last, tables) };
      opened = parts.1;
      playing = rests;
    }

-- The next big blind is the big mark of the next hand.
big-same : (old : Option Marks) (occupied : List Bool) (seats : ℕ)
    → (marks_after old occupied seats).marks.big ≡ big_after old occupied seats
big-same None occupied seats = refl
big-same (Some old) occupied seats = by_tests (is_heads_up occupied) refl
    (leaves_fewer_than_three occupied (waiting_between occupied seats old.small old.big)) refl
  where
    by_tests : (two : Bool) → is_heads_up occupied ≡ two
        → (few : Bool) → leaves_fewer_than_three occupied (waiting_between occupied seats old.small old.big) ≡ few
        → (marks_after (Some old) occupied seats).marks.big ≡ big_after (Some old) occupied seats
    by_tests true is few few_is = rw is refl
    by_tests false is true few_is = rw (is, few_is) refl
    by_tests false is false few_is = rw (is, few_is) refl

module _ (seating : Seating) (lawful : IsSeating seating) where
  seats_of : (table : ℕ) → AreSeatsOf seating.seat_count (taken_seats seating.players table)
  seats_of table = taken_within seating.seat_count table seating.players
      (seats_of_places seating.table_count seating.seat_count seating.seat_count seating.players (omega arith)
      lawful.within)

  -- A table has no more players than seats.
  pub most_there : (table : ℕ) → count_at seating.players table ≤ seating.seat_count
  most_there table =
      let few = seat_count-most (taken_seats seating.players table) seating.seat_count (seats_of table) in
      let counted = taken_count-seating seating table lawful in
      omega (arith, few, counted)

  -- A table with two empty seats has a worst one.
  worst_there : (table : ℕ) → count_at seating.players table + 2 ≤ seating.seat_count
      → (seat : ℕ) × (worst_empty_seat seating table ≡ Some seat)
  worst_there table two = some-found (worst_empty_seat seating table)
      (none (status_at seating.tables table).marks (lawful.statuses table).marks)
    where
      counted : seat_count (taken_seats seating.players table) ≡ count_at seating.players table
      counted = taken_count-seating seating table lawful

      none : (marks : Option Marks) → ForSome marks (AreMarksOf seating.seat_count)
          → worst_of seating.seat_count (is_empty_seat seating.players table) marks ≡ None → ⊥
      none None within is =
          let alike = first-alike seating.seat_count
          (λ at. not (has_seat (taken_seats seating.players table) at)) (is_empty_seat seating.players table)
          seating.seat_count (let some = lawful.some_seats in omega (arith, some))
          (λ at first last. empty-untaken seating.players table seating.seat_count at lawful.most_seats first last) in
          walk-free (taken_seats seating.players table) seating.seat_count seating.seat_count (omega arith)
          (let same = counted in omega (arith, same, two)) (alike ∙ is)
      none (Some marks) within is =
          let set = with_seat (taken_seats seating.players table) marks.big in
          let alike = first-alike seating.seat_count (λ at. not (has_seat set at))
          (λ at. is_empty_seat seating.players table at && not (at == marks.big)) marks.big
          (let some = lawful.some_seats in omega (arith, some))
          (λ at first last. empty-apart seating.players table seating.seat_count marks.big at lawful.most_seats first
          last) in
          let more = seat_count-one_more (taken_seats seating.players table) marks.big in
          walk-free set seating.seat_count marks.big (within marks refl).big.1
          (let same = counted in omega (arith, same, more, two)) (alike ∙ is)

  -- The move of a balance between two tables of which the one has two players more.
  carried : (from to : ℕ) → count_at seating.players to + 2 ≤ count_at seating.players from
      → (move_ : Move) × (balance_move seating from to ≡ Some move_)
  carried from to gap =
      let set = taken_seats seating.players from in
      let marks = (status_at seating.tables from).marks in
      let counted = taken_count-seating seating from lawful in
      let fit = marks-fit marks set seating.seat_count lawful.most_seats (seats_of from)
      (omega (arith, counted, gap)) (lawful.statuses from).marks in
      let big = next_big_seat seating from in
      let sits : has_seat set big ≡ true = subst (λ (seat : ℕ). has_seat set seat ≡ true)
      (big-same marks set seating.seat_count) fit.big_sits in
      let last = (seats_of from).within big sits in
      let most = lawful.most_seats in
      let seated = taken-player seating.players from big (seat_low set big sits) (omega (arith, last, most)) sits in
      let fits = most_there from in
      let worst = worst_there to (omega (arith, gap, fits)) in
      let move_ : Move = record {
        player = seated.0.player;
        from = record { table = from; seat = big };
        to = record { table = to; seat = worst.0 };
      } in
      (move_, carried-is seating from to big worst.0 seated.0 refl seated.1 worst.1)

-- A balance that is not refused is a lawful move.
pub balance_lawful : (book : BookState) (from to : ℕ) → IsValid book → MayBalance book from to
    → (move_ : Move) × IsLawfulMove book.seating (ByBalance from to move_)
balance_lawful book from to valid may =
    let moves = carried book.seating valid.tables.lawful from to may.gap in
    let opened = and_parts (has_table book to) (nat_lt 0 (count_at book.seating.players to)) may.to_open in
    let range = table_range 1 book.plan.tables to opened.0 in
    let tables = valid.tables.tables in
    let number : IsTableOf book.seating.table_count to = record {
      first = range.0;
      last = let last = range.1 in omega (arith, last, tables);
    } in (
      moves.0,
      checked-lawful book.seating from to moves.0 may.no_race may.no_round
          (free_table book from valid may.from_open may.rests) number opened.1 may.passed moves.1,
    )

-- A break that is not refused is a lawful move.
pub break_lawful : (book : BookState) (table : ℕ) (places : List Place) (names : List (List ℕ)) → IsValid book
    → MayBreak book table places names → IsLawfulMove book.seating (ByBreak table places names)
break_lawful book table places names valid may = record {
  no_race = may.no_race;
  no_round = may.no_round;
  lawful = record {
    free = free_table book table valid may.opened may.rests;
    last = λ other at above.
        let none = no_table (λ other. is_open book.seating.players other && nat_lt table other) book.seating.table_count
        other may.last at in
        first_fails (is_open book.seating.players other) (nat_lt table other) none (lt-ltb table other above);
    fill = (may.drawn.fill, (may.drawn.is, may.drawn.right.places));
    players = may.drawn.right.players;
  };
}
