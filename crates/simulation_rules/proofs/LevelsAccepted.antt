-- The next level, the races that come with it and the stop are accepted.
use Rattle.std.proofs.Common.{◌≡◌, refl, ap, subst, ℕ, Bool, true, false, [], ◌∷◌, Some, None, arith}
use Rattle.std.specs.Prelude.{find, nat_lt, not}
use Rattle.std.proofs.lemmas.Bool.{and_from, lt-ltb}
use Rattle.rulebook.specs.Checks.{first_that_holds}
use Rattle.rulebook.proofs.Tests.{some_there}
use Rattle.card_set.specs.declared.card.CardRow.{CardRow}
use Rattle.card_set.specs.Decks.{repeats_a_card}
use Rattle.seat_book.specs.Counts.{count_at, table_numbers}
use Rattle.seat_book.specs.Tables.{status_at}
use Rattle.seat_book.specs.Seatings.{is_race_pending}
use Rattle.floor_text.specs.declared.refusal.Refusal.TheVariants.{Stopped, RaceDue, LastLevel, NoTable, Playing, DeckWrong, NoRace, Over}
use Rattle.tournament_events.specs.declared.event.Event.TheVariants.{Level, Race, Stop}
use Rattle.floor_director.proofs.FirstTables.{IsFirst, tables-first}
use Rattle.tournament_rules.specs.Books.{BookState, has_table}
use Rattle.tournament_rules.specs.Checks.{book_refusal, is_last_level, is_over_for_all, is_playing, is_race_due, is_table_open}
use Rattle.tournament_rules.specs.States.{PlayState, refusal_of}
use Rattle.tournament_rules.specs.Valid.{IsValid}
use Rattle.simulation_rules.proofs.BookEvents.{between, free_by_book}

stop-free : (book : BookState) → book.stopped ≡ false → book_refusal book Stop ≡ None
unfolding book_refusal
stop-free book going = rw going refl

-- The stop is accepted where the tournament goes on.
pub stop_accepted : (play : PlayState) → play.book.stopped ≡ false → refusal_of play Stop ≡ None
stop_accepted play going = free_by_book play Stop refl (stop-free play.book going)

four-free : (a b c d : Bool) → a ≡ false → b ≡ false → c ≡ false → d ≡ false
    → first_that_holds ((Stopped, a) ∷ (RaceDue, b) ∷ (LastLevel, c) ∷ (Over, d) ∷ []) ≡ None
four-free a b c d a_is b_is c_is d_is = rw (a_is, b_is, c_is, d_is) refl

level-free : (book : BookState) → book.stopped ≡ false → is_race_pending book.seating ≡ false
    → is_last_level book ≡ false → is_over_for_all book ≡ false → book_refusal book Level ≡ None
unfolding book_refusal
level-free book going races last over =
    four-free book.stopped (is_race_pending book.seating) (is_last_level book) (is_over_for_all book) going races last
    over

-- The next level is accepted where there is one, no race is pending and the tournament goes on and is not over.
pub level_accepted : (play : PlayState) → play.book.stopped ≡ false → is_race_pending play.book.seating ≡ false
    → is_last_level play.book ≡ false → is_over_for_all play.book ≡ false → refusal_of play Level ≡ None
level_accepted play going races last over =
    free_by_book play Level refl (level-free play.book going races last over)

six-free : (a b c d e f : Bool) → a ≡ false → b ≡ false → c ≡ false → d ≡ false → e ≡ false → f ≡ false
    → first_that_holds ((Stopped, a) ∷ (NoTable, b) ∷ (Playing, c) ∷ (DeckWrong, d) ∷ (NoRace, e) ∷ (Over, f) ∷ [])
    ≡ None
six-free a b c d e f a_is b_is c_is d_is e_is f_is = rw (a_is, b_is, c_is, d_is, e_is, f_is) refl

race-free : (book : BookState) (table : ℕ) (row : CardRow) → book.stopped ≡ false → is_table_open book table ≡ true
    → is_playing book table ≡ false → repeats_a_card row.cards ≡ false → is_race_due book table ≡ true
    → is_over_for_all book ≡ false → book_refusal book (Race table row) ≡ None
unfolding book_refusal
race-free book table row going opened rests deck due over =
    six-free book.stopped (not (is_table_open book table)) (is_playing book table) (repeats_a_card row.cards)
    (not (is_race_due book table)) (is_over_for_all book) going (ap not opened) rests deck (ap not due) over

-- The race that is found first is accepted where no hand is played, the row repeats no card and the tournament goes on
-- and is not over.
pub race_accepted : (play : PlayState) (table : ℕ) (row : CardRow) → IsValid play.book → play.book.stopped ≡ false
    → find (is_race_due play.book) (table_numbers play.book.plan.tables) ≡ Some table
    → is_playing play.book table ≡ false → repeats_a_card row.cards ≡ false → is_over_for_all play.book ≡ false
    → refusal_of play (Race table row) ≡ None
race_accepted play table row valid going is rests deck over =
    let book = play.book in
    let first = subst (IsFirst (is_race_due book) 0 book.plan.tables) is
    (tables-first (is_race_due book) book.plan.tables) in
    let above = first.above in
    let unit = some_there (status_at book.seating.tables table).race first.passes in
    let sits = valid.units.due table unit.0 unit.1 in
    let opened = and_from (has_table book table) (nat_lt 0 (count_at book.seating.players table))
    (between 1 book.plan.tables table (omega (arith, above)) first.within)
    (lt-ltb 0 (count_at book.seating.players table) (omega (arith, sits))) in
    free_by_book play (Race table row) refl (race-free book table row going opened rests deck first.passes over)
