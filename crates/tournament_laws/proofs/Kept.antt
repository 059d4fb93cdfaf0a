-- What events keep of how a table stands, and what is so along a list of events.
use Rattle.std.proofs.Common.{◌≡◌, ◌∙◌, refl, sym, subst, ℕ, zero, suc, ◌+◌, Bool, true, false, ◌&&◌, List, [], ◌∷◌, get_or}
use Rattle.std.specs.Prelude.{nat_lt, slice_set, if◌then◌else◌, Option, Some, None}
use Rattle.std.specs.Option.{option_map_or, ForSome}
use Rattle.std.proofs.lemmas.Bool.{or_parts}
use Rattle.std.proofs.lemmas.Option.{same_Some}
use Rattle.rulebook.proofs.Sides.{first_fails}
use Rattle.button_blinds.specs.declared.marks.Marks.{Marks}
use Rattle.level_plan.specs.Plans.{PlanTerms, unit_of_level}
use Rattle.seat_book.specs.declared.place.Place.{Place}
use Rattle.seat_book.specs.declared.table_status.TableStatus.{TableStatus}
use Rattle.seat_book.specs.Counts.{is_open}
use Rattle.seat_book.specs.Tables.{fresh_status, status_at, with_status}
use Rattle.seat_book.specs.Seatings.{Seating}
use Rattle.balance_rule.specs.declared.balance.Move.{Move}
use Rattle.balance_rule.specs.Balance.{balance_move, after_move}
use Rattle.hand_rounds.specs.Rounds.{begun_by, begins_with}
use Rattle.table_engine.specs.declared.start.HandStart.{HandStart}
use Rattle.table_engine.specs.Hands.{HandTerms}
use Rattle.tournament_events.specs.declared.event.Event.{Event}
use Rattle.tournament_events.specs.declared.event.Event.TheVariants as events
use Rattle.tournament_rules.specs.Books.{BookState, start_at}
use Rattle.tournament_rules.specs.Dealing.{next_at}
use Rattle.tournament_rules.specs.Effects.{with_table, playing_from, at_rest, forgotten, ended, settled, void_first, book_effect}
use Rattle.tournament_rules.specs.Kinds.{is_level}
use Rattle.tournament_laws.specs.Accepted.{is_any_accepted}
use Rattle.tournament_rules.specs.Moving.{after_all, move_of}
use Rattle.tournament_rules.specs.Racing.{announced_table, announced, raced_off}
use Rattle.tournament_rules.specs.States.{State, PlayState, first_state, first_play, accepted, refusal_of, answer_to, answered, is_accepted, play_effect, state_after, run}
use Rattle.tournament_rules.proofs.Ends.{left-void_first}
use Rattle.tournament_rules.proofs.Levels.{each_raised}
use Rattle.tournament_rules.proofs.Rounds.{each_begun}
use Rattle.tournament_rules.proofs.Steps.{accepted_none, valid_first_state, valid_state_after}
use Rattle.tournament_rules.proofs.Plays.{some_so, play_keeps}
use Rattle.tournament_rules.specs.Valid.{IsValidPlay, IsValidState}
use Rattle.level_plan.specs.Drafts.{Draft, plan_of}

-- What a change keeps of each table, it keeps once one table is changed so.
pub each_set : (P : TableStatus → Type 0) (change : TableStatus → TableStatus)
    → ((status : TableStatus) → P status → P (change status)) → (tables : List TableStatus) (table other : ℕ)
    → P (status_at tables other) → P (status_at (with_status tables table (change (status_at tables table))) other)
each_set P change keeps tables zero other is = is
each_set P change keeps tables (suc below) zero is = is
each_set P change keeps tables (suc below) (suc other) is = by_list tables below other is
  where
    by_list : (tables : List TableStatus) (below other : ℕ) → P (get_or tables other fresh_status)
        → P (get_or (slice_set tables below (change (get_or tables below fresh_status))) other fresh_status)
    by_list [] below other is = is
    by_list (status ∷ tables) zero zero is = keeps status is
    by_list (status ∷ tables) zero (suc other) is = is
    by_list (status ∷ tables) (suc below) zero is = is
    by_list (status ∷ tables) (suc below) (suc other) is = by_list tables below other is

-- Players who take places change no table.
pub tables-after_all : (table : ℕ) (names : List (List ℕ)) (places : List Place) (seating : Seating)
    → (after_all table names places seating).tables ≡ seating.tables
tables-after_all table [] places seating = refl
tables-after_all table (name ∷ names) [] seating = refl
tables-after_all table (name ∷ names) (place ∷ places) seating =
    tables-after_all table names places _ ∙ by_move (move_of seating table name place)
  where
    by_move : (found : Option Move) → (option_map_or (λ move_. after_move move_ seating) found seating).tables
        ≡ seating.tables
    by_move None = refl
    by_move (Some move_) = refl

-- whether an event switches hand-for-hand or ends a round of it
abbrev pub is_turn : Event → Bool
is_turn (events.Hands on) = true
is_turn events.Round = true
is_turn _ = false

-- What an event may make of a table keeps what is so of it.
pub record IsKept (P : TableStatus → Type 0) (hands : Bool) (event : Event) : Type 0 where
  pub plays : (marks : Marks) (status : TableStatus) → P status → P (playing_from marks hands status)
  pub rests : (status : TableStatus) → P status → P (at_rest status)
  pub bares : (status : TableStatus) → P status → P (forgotten status)
  pub races : (status : TableStatus) → P status → P (raced_off status)
  pub rises : is_level event ≡ true → (unit : ℕ) (opened : Bool) (status : TableStatus) → P status
      → P (announced_table unit opened status)
  pub turns : is_turn event ≡ true → (test : TableStatus → Bool) (status : TableStatus) → P status
      → P (begun_by test status)

-- An event keeps what is so of a table where nothing that it may make of a table takes it away.
pub status_kept : (P : TableStatus → Type 0) (book : BookState) (hand : Option HandTerms) (event : Event) (table : ℕ)
    → IsKept P book.seating.hands event → P (status_at book.seating.tables table)
    → P (status_at (book_effect book hand event).seating.tables table)
status_kept P book hand (events.Begin at row) table keeps is =
    each_set P (playing_from (next_at book at).marks book.seating.hands) (keeps.plays (next_at book at).marks)
    book.seating.tables at table is
status_kept P book hand (events.Settle at) table keeps is = by_hand hand
  where
    by_hand : (hand : Option HandTerms)
        → P (status_at (option_map_or (settled book) hand book).seating.tables table)
    by_hand None = is
    by_hand (Some hand) = each_set P at_rest keeps.rests book.seating.tables hand.start.table table is
status_kept P book hand (events.Balance from to) table keeps is = by_move (balance_move book.seating from to)
  where
    by_move : (found : Option Move)
        → P (status_at (option_map_or (λ move_. after_move move_ book.seating) found book.seating).tables table)
    by_move None = is
    by_move (Some move_) = is
status_kept P book hand (events.Break at places names) table keeps is =
    subst (λ (tables : List TableStatus). P (status_at tables table))
    (sym (tables-after_all at names places (with_table book.seating at forgotten)))
    (each_set P forgotten keeps.bares book.seating.tables at table is)
status_kept P book hand events.Level table keeps is =
    by_units (nat_lt (unit_of_level book.plan.blinds book.level) unit)
  where
    unit : ℕ
    unit = unit_of_level book.plan.blinds (book.level + 1)

    by_units : (greater : Bool) → P (status_at
        (if greater then announced unit book.seating else book.seating).tables table)
    by_units true = each_raised P unit book.seating table
        (keeps.rises refl unit (is_open book.seating.players table) (status_at book.seating.tables table) is) is
    by_units false = is
status_kept P book hand (events.Race at row) table keeps is =
    each_set P raced_off keeps.races book.seating.tables at table is
status_kept P book hand (events.Hands on) table keeps is =
    each_begun P (begins_with on) book.seating.tables table (keeps.turns refl (begins_with on)) is
status_kept P book hand events.Round table keeps is =
    each_begun P (begins_with false) book.seating.tables table (keeps.turns refl (begins_with false)) is
status_kept P book hand events.Stop table keeps is = by_tables book.plan.tables
  where
    by_start : (before : BookState) (at : ℕ) → P (status_at before.seating.tables table) → (found : Option HandStart)
        → P (status_at (option_map_or (λ start. ended before at start.seats) found before).seating.tables table)
    by_start before at is None = is
    by_start before at is (Some start) = each_set P at_rest keeps.rests before.seating.tables at table is

    by_tables : (count : ℕ) → P (status_at (void_first book count).seating.tables table)
    by_tables zero = is
    by_tables (suc count) =
        by_start (void_first book count) (suc count) (by_tables count)
        (start_at (void_first book count).started (suc count))
status_kept P book hand _ table keeps is = is

-- Hand-for-hand stays on or off but at a switch.
pub hands_kept : (book : BookState) (hand : Option HandTerms) (event : Event) → is_turn event ≡ false
    → (book_effect book hand event).seating.hands ≡ book.seating.hands
hands_kept book hand (events.Settle table) same = by_hand hand
  where
    by_hand : (hand : Option HandTerms) → (option_map_or (settled book) hand book).seating.hands ≡ book.seating.hands
    by_hand None = refl
    by_hand (Some hand) = refl
hands_kept book hand (events.Balance from to) same = by_move (balance_move book.seating from to)
  where
    by_move : (found : Option Move)
        → (option_map_or (λ move_. after_move move_ book.seating) found book.seating).hands ≡ book.seating.hands
    by_move None = refl
    by_move (Some move_) = refl
hands_kept book hand (events.Break table places names) same =
    by_list names places (with_table book.seating table forgotten)
  where
    by_move : (seating : Seating) (found : Option Move)
        → (option_map_or (λ move_. after_move move_ seating) found seating).hands ≡ seating.hands
    by_move seating None = refl
    by_move seating (Some move_) = refl

    by_list : (names : List (List ℕ)) (places : List Place) (seating : Seating)
        → (after_all table names places seating).hands ≡ seating.hands
    by_list [] places seating = refl
    by_list (name ∷ names) [] seating = refl
    by_list (name ∷ names) (place ∷ places) seating =
        by_list names places _ ∙ by_move seating (move_of seating table name place)
hands_kept book hand events.Level same =
    by_units (nat_lt (unit_of_level book.plan.blinds book.level) (unit_of_level book.plan.blinds (book.level + 1)))
  where
    by_units : (greater : Bool)
        → (if greater then announced (unit_of_level book.plan.blinds
        (book.level + 1)) book.seating else book.seating).hands
        ≡ book.seating.hands
    by_units true = refl
    by_units false = refl
hands_kept book hand events.Stop same =
    left-void_first (λ book. book.seating.hands) (record { same = λ book table payees. refl }) book book.plan.tables
hands_kept book hand _ same = cc

-- What is so of a tournament, and stays so at each accepted event but those that a test picks, is so after a list of
-- events in which none of these is accepted.
pub run_keeps : (P : PlayState → Type 0) (test : Event → Bool)
    → ((play : PlayState) (event : Event) → test event ≡ false → refusal_of play event ≡ None → P play
    → P (play_effect play event))
    → (state : State) (events : List Event) (play later : PlayState) → state.play ≡ Some play
    → (run state events).play ≡ Some later → is_any_accepted test state events ≡ false → P play → P later
run_keeps P test keeps state [] play later at after none is = subst P (same_Some play later (sym at ∙ after)) is
run_keeps P test keeps state (event ∷ events) play later at after none is =
    by_answer (is_accepted (answer_to state event)) refl
    (or_parts (test event && is_accepted (answer_to state event)) (is_any_accepted test
    (state_after state event) events)
    none)
    (λ next there so. run_keeps P test keeps (state_after state event) events next later there after
    (or_parts (test event && is_accepted (answer_to state event)) (is_any_accepted test
    (state_after state event) events)
    none).1 so)
  where
    by_answer : (taken : Bool) → is_accepted (answer_to state event) ≡ taken
        → ((test event && is_accepted (answer_to state event)) ≡ false)
        × (is_any_accepted test (state_after state event) events ≡ false)
        → ((next : PlayState) → (state_after state event).play ≡ Some next → P next → P later) → P later
    by_answer true taken parts rest =
        let next : (state_after state event).play ≡ Some (play_effect play event) = rw (taken, at) refl in
        let here : is_accepted (answered (refusal_of play event)) ≡ true = rw at at taken in
        rest (play_effect play event) next
        (keeps play event (first_fails (test event) (is_accepted (answer_to state event)) parts.0 taken)
        (accepted_none (refusal_of play event) here) is)
    by_answer false taken parts rest =
        let next : (state_after state event).play ≡ Some play = rw taken at in rest play next is

none_picked : (state : State) (events : List Event) → is_any_accepted (λ event. false) state events ≡ false
none_picked state [] = refl
none_picked state (event ∷ events) = none_picked (state_after state event) events

-- What stays so at every event is so after a list of events.
pub run_keeps_all : (P : PlayState → Type 0)
    → ((play : PlayState) (event : Event) → P play → P (play_effect play event))
    → (state : State) (events : List Event) (play later : PlayState) → state.play ≡ Some play
    → (run state events).play ≡ Some later → P play → P later
run_keeps_all P keeps state events play later at after =
    run_keeps P (λ event. false) (λ play event kind free. keeps play event) state events play later at after
    (none_picked state events)

-- What is so of a valid tournament, and stays so at each accepted event, is so after a list of events.
pub run_keeps_valid : (P : PlayState → Type 0)
    → ((play : PlayState) (event : Event) → IsValidPlay play → refusal_of play event ≡ None → P play
    → P (play_effect play event))
    → (state : State) (events : List Event) (play later : PlayState) → state.play ≡ Some play
    → (run state events).play ≡ Some later → IsValidPlay play → P play → P later
run_keeps_valid P keeps state events play later at after valid is =
    (run_keeps (λ play. IsValidPlay play × P play) (λ event. false)
    (λ play event kind free both. (play_keeps play event both.0 free, keeps play event both.0 free both.1)) state events
    play later at after (none_picked state events) (valid, is)).1

-- Once there is a plan, there is one after any events.
pub run_some : (state : State) (events : List Event) (play : PlayState) → state.play ≡ Some play
    → (later : PlayState) × ((run state events).play ≡ Some later)
run_some state [] play at = (play, at)
run_some state (event ∷ events) play at =
    by_answer (is_accepted (answer_to state event)) refl
    (λ next there. run_some (state_after state event) events next there)
  where
    by_answer : (taken : Bool) → is_accepted (answer_to state event) ≡ taken
        → ((next : PlayState) → (state_after state event).play ≡ Some next
        → (later : PlayState) × ((run (state_after state event) events).play ≡ Some later))
        → (later : PlayState) × ((run (state_after state event) events).play ≡ Some later)
    by_answer true taken rest =
        rest (play_effect play event) (rw (taken, at) refl)
    by_answer false taken rest = rest play (rw taken at)

-- What is so of a tournament before any entry, and stays so at each accepted event, is so after any list of events.
pub events_keep : (P : PlayState → Type 0) → ((plan : PlanTerms) → P (first_play plan))
    → ((play : PlayState) (event : Event) → IsValidPlay play → refusal_of play event ≡ None → P play
    → P (play_effect play event))
    → (list : List Event) → ForSome (run first_state list).play P
events_keep P first keeps list =
    by_list list first_state valid_first_state (λ play is. absurd cc)
  where
    by_play : (draft : Draft) (play : Option PlayState) (count : ℕ) (event : Event) → ForSome play IsValidPlay
        → ForSome play P
        → is_accepted (answer_to (record { draft = draft; play = play; accepted = count }) event) ≡ true
        → ForSome (accepted (record { draft = draft; play = play; accepted = count }) event).play P
    by_play draft None count events.Go valid so taken = some_so P (first_play (plan_of draft)) (first (plan_of draft))
    by_play draft None count _ valid so taken = λ play is. absurd cc
    by_play draft (Some play) count event valid so taken =
        some_so P (play_effect play event)
        (keeps play event (valid play refl) (accepted_none (refusal_of play event) taken) (so play refl))

    by_state : (state : State) (event : Event) → IsValidState state → ForSome state.play P
        → ForSome (state_after state event).play P
    by_state state event valid so = by_answer (is_accepted (answer_to state event)) refl
      where
        by_answer : (taken : Bool) → is_accepted (answer_to state event) ≡ taken
            → ForSome (if taken then accepted state event else state).play P
        by_answer true taken = by_play state.draft state.play state.accepted event valid.play so taken
        by_answer false taken = so

    by_list : (list : List Event) (state : State) → IsValidState state → ForSome state.play P
        → ForSome (run state list).play P
    by_list [] state valid so = so
    by_list (event ∷ list) state valid so =
        by_list list (state_after state event) (valid_state_after state event valid) (by_state state event valid so)
