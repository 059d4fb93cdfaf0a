-- The order that is owed: what it is, and that it is refused only where the tournament is stopped.
use Rattle.std.proofs.Common.{◌≡◌, ◌∙◌, refl, sym, ap, subst, ℕ, Bool, true, false, List, [], ◌∷◌}
use Rattle.std.specs.Prelude.{◌||◌, find, if◌then◌else◌, Option, Some, None}
use Rattle.std.specs.Option.{option_map_or}
use Rattle.std.proofs.lemmas.Bool.{cond_both}
use Rattle.floor_text.specs.declared.refusal.Refusal.{Refusal}
use Rattle.floor_text.specs.declared.refusal.Refusal.TheVariants.{Stopped}
use Rattle.level_plan.specs.Drafts.{plan_of}
use Rattle.level_plan.specs.Plans.{PlanTerms}
use Rattle.seat_book.specs.declared.place.Place.{Place}
use Rattle.seat_book.specs.Counts.{table_numbers}
use Rattle.seat_book.specs.Seatings.{Seating, is_race_pending, is_round_open}
use Rattle.balance_rule.specs.Balance.{is_even_enough}
use Rattle.balance_rule.specs.Filling.{fill_seats}
use Rattle.tournament_events.specs.declared.event.Event.{Event}
use Rattle.tournament_events.specs.declared.event.Event.TheVariants as events
use Rattle.floor_director.specs.Orders.{balance_of, break_of, drawn_break, first_order, giver, is_last_open, is_playing, last_open, may_give, next_order, owed_balance, owed_break, taker}
use Rattle.tournament_rules.specs.Books.{BookState}
use Rattle.tournament_rules.specs.Checks.{is_over_for_all}
use Rattle.tournament_rules.specs.Effects.{first_book, first_seating}
use Rattle.tournament_rules.specs.States.{PlayState, refusal_of}
use Rattle.tournament_rules.specs.Valid.{IsValidState}
use Rattle.tournament_rules.proofs.Steps.{valid_events}
use Rattle.simulation_rules.proofs.OrdersAccepted.{order_accepted}
use Rattle.view_rules.specs.declared.entries.JournalEntry.{JournalEntry}
use Rattle.dock_rules.specs.declared.asks.Ask.TheVariants as asks
use Rattle.dock_rules.specs.declared.asks.AskAnswer.TheVariants as answers
use Rattle.dock_rules.specs.Journals.{Tale, book_of, expand, tale_of}
use Rattle.dock_rules.specs.Points.{ask_answer, event_answer, order_owed, refusal_at, refusal_told, told_as}
use Rattle.dock_rules.proofs.Coming.{answer-in_play, told-answered}
use Rattle.dock_rules.proofs.JournalTales.{state-told}

-- an event is a balance or a break
abbrev pub IsMove : Event → Type 0
IsMove (events.Balance from to) = Unit {0}
IsMove (events.Break table places names) = Unit {0}
IsMove event = ⊥

-- so is an order, if there is one
abbrev pub IfMove : Option Event → Type 0
IfMove None = Unit {0}
IfMove (Some event) = IsMove event

module _ (seating : Seating) (seed : List ℕ) (number : ℕ) where
  drawn-move : (table : ℕ) (fill : Option (List Place)) → IfMove (drawn_break seating seed number table fill)
  drawn-move table None = tt
  drawn-move table (Some fill) = tt

  break-move : (table : Option ℕ) → IfMove (break_of seating seed number table)
  break-move None = tt
  break-move (Some table) =
      cond_both {A = Option Event} (is_playing seating table) None
      (drawn_break seating seed number table (fill_seats seating table)) IfMove (λ plays. tt)
      (λ rests. drawn-move table (fill_seats seating table))

  balance-move : (from to : Option ℕ) → IfMove (balance_of seating from to)
  balance-move None to = tt
  balance-move (Some from) None = tt
  balance-move (Some from) (Some to) =
      cond_both {A = Option Event} (is_even_enough seating from to) None (Some (events.Balance from to)) IfMove
      (λ even. tt) (λ uneven. tt)

  first-move : (one other : Option Event) → IfMove one → IfMove other → IfMove (first_order one other)
  first-move None other one_is other_is = other_is
  first-move (Some event) other one_is other_is = one_is

  next-move : IfMove (next_order seating seed number)
  unfolding next_order owed_break owed_balance
  next-move =
      cond_both {A = Option Event} (is_race_pending seating || is_round_open seating) None
      (first_order (owed_break seating seed number) (owed_balance seating)) IfMove (λ held. tt)
      (λ free. first-move (owed_break seating seed number) (owed_balance seating)
      (break-move (last_open seating)) (balance-move (giver seating) (taker seating)))

-- The order that is owed is a balance or a break.
pub owed-move : (tale : Tale) (order : Event) → order_owed tale ≡ Some order → IsMove order
owed-move tale order owed =
    subst IfMove owed
    (cond_both {A = Option Event} (is_over_for_all (book_of tale)) None
    (next_order (book_of tale).seating tale.seed tale.count) IfMove (λ over. tt)
    (λ open_. next-move (book_of tale).seating tale.seed tale.count))

none-found : {A : Type 0} (test : A → Bool) (items : List A) → ((item : A) → test item ≡ false) → find test items ≡ None
none-found test [] fails = refl
none-found test (item ∷ items) fails = rw (fails item) (none-found test items fails)

-- Before anybody has entered no table is open, so no order is owed.
first-owed : (plan : PlanTerms) (seed : List ℕ) (number : ℕ) → next_order (first_seating plan) seed number ≡ None
unfolding next_order owed_break owed_balance last_open giver
first-owed plan seed number =
    let seating : Seating = first_seating plan in
    let last : last_open seating ≡ None =
    none-found (is_last_open seating) (table_numbers seating.table_count) (λ table. refl) in
    let gives : giver seating ≡ None =
    none-found (may_give seating) (table_numbers seating.table_count) (λ table. refl) in
    let owed : first_order (owed_break seating seed number) (owed_balance seating) ≡ None =
    λ i. first_order (break_of seating seed number (last i)) (balance_of seating (gives i) (taker seating)) in
    cond_both {A = Option Event} (is_race_pending seating || is_round_open seating) None
    (first_order (owed_break seating seed number) (owed_balance seating)) (λ (found : Option Event). found ≡ None)
    (λ held. refl) (λ free. owed)

-- The book of a tale is that of its tournament, or the first one.
pub book-of : (tale : Tale) (found : Option PlayState) → tale.state.play ≡ found
    → book_of tale ≡ option_map_or (λ play. play.book) found (first_book (plan_of tale.state.draft))
book-of tale found at =
    ap (λ (found : Option PlayState).
    option_map_or (λ play. play.book) found (first_book (plan_of tale.state.draft))) at

-- The order that is owed is not refused while the tournament goes on.
pub owed-free : (journal : List JournalEntry) (order : Event) → (book_of (tale_of journal)).stopped ≡ false
    → order_owed (tale_of journal) ≡ Some order → refusal_at (tale_of journal) order ≡ None
owed-free journal order going owed =
    by_play (tale_of journal) (subst IsValidState (sym (state-told journal)) (valid_events (expand journal))) going
    (next-owed (tale_of journal) owed) (tale_of journal).state.play refl
  where
    next-owed : (tale : Tale) → order_owed tale ≡ Some order
        → next_order (book_of tale).seating tale.seed tale.count ≡ Some order
    next-owed tale =
        cond_both {A = Option Event} (is_over_for_all (book_of tale)) None
        (next_order (book_of tale).seating tale.seed tale.count)
        (λ (found : Option Event). found ≡ Some order
        → next_order (book_of tale).seating tale.seed tale.count ≡ Some order)
        (λ over never. absurd cc) (λ open_ is. is)

    by_play : (tale : Tale) → IsValidState tale.state → (book_of tale).stopped ≡ false
        → next_order (book_of tale).seating tale.seed tale.count ≡ Some order → (found : Option PlayState)
        → tale.state.play ≡ found → refusal_at tale order ≡ None
    by_play tale valid going is None at =
        let first : next_order (book_of tale).seating tale.seed tale.count ≡ None =
        ap (λ (book : BookState). next_order book.seating tale.seed tale.count) (book-of tale None at)
        ∙ first-owed (plan_of tale.state.draft) tale.seed tale.count in
        absurd (let never : None ≡ Some order = sym first ∙ is in cc)
    by_play tale valid going is (Some play) at =
        let book = book-of tale (Some play) at in
        let free = order_accepted play tale.seed tale.count order (valid.play play at).book
        (sym (ap (λ (book : BookState). book.stopped) book) ∙ going)
        (sym (ap (λ (book : BookState). next_order book.seating tale.seed tale.count) book) ∙ is) in
        ap refusal_told (answer-in_play tale.state play order at) ∙ (told-answered (refusal_of play order) ∙ free)

-- The next order is refused only where the tournament is stopped.
pub refused-stopped : (journal : List JournalEntry) (refusal : Refusal)
    → ask_answer (tale_of journal) asks.NextOrder ≡ answers.No refusal → (book_of (tale_of journal)).stopped ≡ true
refused-stopped journal refusal is = by_stop (book_of (tale_of journal)).stopped refl is
  where
    by_order : (found : Option Event) → order_owed (tale_of journal) ≡ found
        → (book_of (tale_of journal)).stopped ≡ false
        → event_answer (tale_of journal) found ≡ answers.No refusal → ⊥
    by_order None owed going answer = cc
    by_order (Some order) owed going answer =
        let none = owed-free journal order going owed in
        let never : answers.Ok ≡ answers.No refusal = sym (ap told_as none) ∙ answer in
        cc

    by_stop : (stopped : Bool) → (book_of (tale_of journal)).stopped ≡ stopped
        → (if stopped then answers.No Stopped else event_answer (tale_of journal) (order_owed (tale_of journal)))
        ≡ answers.No refusal
        → (book_of (tale_of journal)).stopped ≡ true
    by_stop true at answer = at
    by_stop false at answer = absurd (by_order (order_owed (tale_of journal)) refl at answer)
