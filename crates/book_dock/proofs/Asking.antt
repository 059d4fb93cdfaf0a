-- What an ask is answered.
use Rattle.std.proofs.Common.{◌≡◌, ◌∙◌, refl, sym, ap, subst, ℕ, Bool, true, false, List, [], ◌∷◌}
use Rattle.std.specs.Prelude.{not, if◌then◌else◌, Option, Some, None, IsErr, IsErrAnd, Result, Ok, Err}
use Rattle.rulebook.specs.Checks.{IsChecked, first_that_holds}
use Rattle.floor_text.specs.declared.refusal.Refusal.{Refusal}
use Rattle.floor_text.specs.declared.refusal.Refusal.TheVariants.{Stopped, NoTable, Playing, RaceDue, NotNextToBreak, NoRoom, DrawWrong, RoundOpen}
use Rattle.balance_rule.specs.Filling.{lacks_room}
use Rattle.seat_book.specs.declared.place.Place.{Place}
use Rattle.seat_book.specs.Seatings.{is_not_last, is_race_pending, is_round_open}
use Rattle.table_engine.specs.declared.record.ActFault.{ActFault}
use Rattle.table_engine.specs.declared.record.ActFault.TheVariants as faults
use Rattle.tournament_events.specs.declared.event.Event.TheVariants as events
use Rattle.tournament_events.specs.declared.event.Event.{Event}
use Rattle.floor_director.specs.Orders.{next_order}
use Rattle.tournament_rules.specs.Books.{BookState}
use Rattle.tournament_rules.specs.Checks.{book_refusal, is_over_for_all, is_playing, is_right_draw, is_table_open, round_checks}
use Rattle.tournament_rules.specs.States.{refusal_of}
use Rattle.tournament_rules.specs.Valid.{IsValid}
use Rattle.simulation_rules.proofs.OrdersAccepted.{order_accepted}
use Rattle.dock_rules.specs.declared.asks.Ask.TheVariants as asks
use Rattle.dock_rules.specs.declared.asks.AskAnswer.TheVariants as told
use Rattle.dock_rules.specs.Journals.{Tale, book_of}
use Rattle.dock_rules.specs.Kept.{at_rest}
use Rattle.dock_rules.specs.Points.{ask_answer, event_answer, is_refusal, order_owed, refusal_at, refusal_told, told_as}
use Rattle.dock_rules.proofs.Coming.{answer-in_play, book-kept, told-answered}
use Rattle.book_dock.specs.Asked.{IsAsked, IsRefused}

-- what the first check of a break is, by the tests that hold
abbrev break_answer : Bool → Bool → Bool → Bool → Bool → Bool → Bool → Bool → Option Refusal
break_answer stopped closed plays races more lacks wrong opened =
    first_that_holds ((Stopped, stopped) ∷ (NoTable, closed) ∷ (Playing, plays) ∷ (RaceDue, races)
    ∷ (NotNextToBreak, more) ∷ (NoRoom, lacks) ∷ (DrawWrong, wrong) ∷ (RoundOpen, opened) ∷ [])

-- what it is once the draw is right
abbrev drawn_again : Option Refusal → Bool → Option Refusal
drawn_again (Some DrawWrong) opened = if opened then Some RoundOpen else None
drawn_again refusal opened = refusal

other-refusal : (refusal : Refusal) (opened : Bool) → (refusal ≡ DrawWrong → ⊥)
    → drawn_again (Some refusal) opened ≡ Some refusal
other-refusal DrawWrong opened other = absurd (other refl)
other-refusal refusal opened other = refl

-- A right draw in the place of another changes just the answer to a wrong one.
other-draw : (stopped closed plays races more lacks wrong right opened : Bool) → (lacks ≡ false → right ≡ true)
    → break_answer stopped closed plays races more lacks (not right) opened
    ≡ drawn_again (break_answer stopped closed plays races more lacks wrong opened) opened
other-draw true closed plays races more lacks wrong right opened draws = refl
other-draw false true plays races more lacks wrong right opened draws = refl
other-draw false false true races more lacks wrong right opened draws = refl
other-draw false false false true more lacks wrong right opened draws = refl
other-draw false false false false true lacks wrong right opened draws = refl
other-draw false false false false false true wrong right opened draws = refl
other-draw false false false false false false true right opened draws = rw (draws refl) refl
other-draw false false false false false false false right true draws = rw (draws refl) refl
other-draw false false false false false false false right false draws = rw (draws refl) refl

-- A break by a right draw is refused as one by any draw, unless that is refused as a wrong one.
pub break-again : (book : BookState) (table : ℕ) (places others : List Place) (names called : List (List ℕ))
    → (lacks_room book.seating table ≡ false → is_right_draw book table places names ≡ true)
    → book_refusal book (events.Break table places names)
    ≡ drawn_again (book_refusal book (events.Break table others called)) (is_round_open book.seating)
unfolding book_refusal
break-again book table places others names called draws =
    other-draw book.stopped (not (is_table_open book table)) (is_playing book table) (is_race_pending book.seating)
    (is_not_last book.seating table) (lacks_room book.seating table)
    (not (is_right_draw book table others called)) (is_right_draw book table places names)
    (is_round_open book.seating) draws

-- What the check of a break by no draw tells of one by a right draw.
module _ (book : BookState) (table : ℕ) (places others : List Place) (names called : List (List ℕ))
    (draws : lacks_room book.seating table ≡ false → is_right_draw book table places names ≡ true) where
  again : (found : Option Refusal) → book_refusal book (events.Break table others called) ≡ found
      → book_refusal book (events.Break table places names) ≡ drawn_again found (is_round_open book.seating)
  again found is =
      break-again book table places others names called draws
      ∙ ap (λ (refusal : Option Refusal). drawn_again refusal (is_round_open book.seating)) is

  -- Where that is refused as a wrong draw, what is left is the check of the round.
  pub refused-wrong : {T : Type 0} (result : Result T Refusal)
      → book_refusal book (events.Break table others called) ≡ Some DrawWrong → IsChecked (round_checks book) result
      → IsRefused (book_refusal book (events.Break table places names)) result
  refused-wrong result is checked =
      subst (λ (refusal : Option Refusal). IsRefused refusal result) (sym (again (Some DrawWrong) is)) checked

  -- Any other refusal is that of the right draw too.
  pub refused-other : (refusal : Refusal) → (refusal ≡ DrawWrong → ⊥)
      → book_refusal book (events.Break table others called) ≡ Some refusal
      → book_refusal book (events.Break table places names) ≡ Some refusal
  refused-other refusal other is = again (Some refusal) is ∙ other-refusal refusal (is_round_open book.seating) other

  -- Where nothing refuses it, nothing refuses the right draw.
  pub refused-none : book_refusal book (events.Break table others called) ≡ None
      → book_refusal book (events.Break table places names) ≡ None
  refused-none is = again None is

-- The next order is answered as the order that is owed, if one is, where the tournament goes on.
pub next-owed : (tale : Tale) (found : Option Event) → (book_of tale).stopped ≡ false → order_owed tale ≡ found
    → ask_answer tale asks.NextOrder ≡ event_answer tale found
next-owed tale found going owed =
    ap (λ (b : Bool). if b then told.No Stopped else event_answer tale (order_owed tale)) going
    ∙ ap (event_answer tale) owed

-- None is owed once the tournament is over.
pub owed-over : (tale : Tale) → is_over_for_all (book_of tale) ≡ true → order_owed tale ≡ None
owed-over tale over =
    ap (λ (b : Bool). if b then None else next_order (book_of tale).seating tale.seed tale.count) over

-- Before, it is the next order of the seats.
pub owed-next : (tale : Tale) → is_over_for_all (book_of tale) ≡ false
    → order_owed tale ≡ next_order (book_of tale).seating tale.seed tale.count
owed-next tale open_ =
    ap (λ (b : Bool). if b then None else next_order (book_of tale).seating tale.seed tale.count) open_

-- The next order is refused only where the tournament is stopped.
pub next-free : (tale : Tale) (book : BookState) → tale.state.play ≡ Some (at_rest book) → IsValid book
    → book.stopped ≡ false → is_refusal (ask_answer tale asks.NextOrder) ≡ false
next-free tale book come valid going =
    ap is_refusal (next-owed tale (order_owed tale) (ap (λ (book : BookState). book.stopped) same ∙ going) refl)
    ∙ by_over (is_over_for_all (book_of tale)) refl
  where
    same : book_of tale ≡ book
    same = book-kept tale book come

    by_order : (found : Option Event) → next_order (book_of tale).seating tale.seed tale.count ≡ found
        → is_refusal (event_answer tale found) ≡ false
    by_order None is = refl
    by_order (Some event) is =
        let free : refusal_of (at_rest book) event ≡ None = order_accepted (at_rest book) tale.seed tale.count event
        valid going
        (ap (λ (book : BookState). next_order book.seating tale.seed tale.count) (sym same) ∙ is) in
        let none : refusal_at tale event ≡ None =
        ap refusal_told (answer-in_play tale.state (at_rest book) event come)
        ∙ (told-answered (refusal_of (at_rest book) event) ∙ free) in
        ap (λ (refusal : Option Refusal). is_refusal (told_as refusal)) none

    by_over : (over : Bool) → is_over_for_all (book_of tale) ≡ over
        → is_refusal (event_answer tale (order_owed tale)) ≡ false
    by_over true over = ap (λ (found : Option Event). is_refusal (event_answer tale found)) (owed-over tale over)
    by_over false open_ =
        ap (λ (found : Option Event). is_refusal (event_answer tale found)) (owed-next tale open_)
        ∙ by_order (next_order (book_of tale).seating tale.seed tale.count) refl

-- Where memory ran out, the next order is no refusal.
pub asked-memory : (tale : Tale) (result : Result (Option Event) ActFault) → IsErr result
    → IsErrAnd result (λ fault. fault ≡ faults.NoMemory) → is_refusal (ask_answer tale asks.NextOrder) ≡ false
    → IsAsked tale asks.NextOrder result
asked-memory tale (Ok found) error same free = let never : false ≡ true = error in absurd cc
asked-memory tale (Err fault) error same free =
    subst (λ (fault : ActFault). IsAsked tale asks.NextOrder (Err fault)) (sym same) free
