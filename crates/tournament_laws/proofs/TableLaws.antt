-- Nobody is in hands at two tables, a table where nobody sits is bare, and entries go to the tables with the fewest.
use Rattle.std.proofs.Common.{◌≡◌, ◌≢◌, ◌∙◌, refl, sym, ap, ℕ, ◌+◌, ◌≤◌, Bool, true, false, cond, ◌==◌, ◌&&◌, ◌||◌, List, [], ◌∷◌, map, arith}
use Rattle.std.specs.Prelude.{not, nat_lt, filter, count_by, Option, Some, None}
use Rattle.std.specs.List.{list_all, list_any}
use Rattle.std.specs.Option.{option_map_or}
use Rattle.std.proofs.lemmas.Bool.{and_parts, and_left, not-true, eqb-true, ltb-false, or_right}
use Rattle.std.proofs.lemmas.List.Sums.{sum_by-insert}
use Rattle.card_set.specs.declared.card.CardRow.{CardRow}
use Rattle.rulebook.proofs.Found.{none-found}
use Rattle.rulebook.proofs.Passing.{filter-none, list_any-none}
use Rattle.rulebook.proofs.Sides.{first_alone, others_fail}
use Rattle.rulebook.proofs.Tests.{at_most_one, none_by_count}
use Rattle.button_blinds.specs.declared.marks.Marks.{Marks}
use Rattle.seat_book.specs.declared.place.Place.{Place}
use Rattle.seat_book.specs.declared.seated.Seated.{Seated}
use Rattle.seat_book.specs.Places.{comes_before}
use Rattle.seat_book.specs.Players.{sits_at, is_numbered, players_at, are_apart, sit_down}
use Rattle.seat_book.specs.Counts.{count_at, is_open}
use Rattle.seat_book.specs.Tables.{status_at}
use Rattle.balance_rule.specs.Halting.{is_halted}
use Rattle.table_engine.specs.declared.start.HandStart.{HandStart}
use Rattle.table_engine.specs.declared.start.StartSeat.{StartSeat}
use Rattle.tournament_events.specs.declared.answer.Answer.TheVariants.{Ok}
use Rattle.tournament_events.specs.declared.event.Event.{Event}
use Rattle.tournament_events.specs.declared.event.Event.TheVariants.{Enter, Reenter, Begin, Break}
use Rattle.tournament_rules.specs.Books.{BookState, has_table, start_at, starters_of}
use Rattle.tournament_rules.specs.Players.{is_among, start_seat}
use Rattle.tournament_rules.specs.Checks.{may_be_entered, is_not_fewest}
use Rattle.tournament_rules.specs.Effects.{newcomer, returner}
use Rattle.tournament_rules.specs.States.{State, PlayState, answer_to, is_accepted, state_after, players_of, play_effect}
use Rattle.tournament_rules.specs.Valid.{IsValid, IsValidPlay, is_lent}
use Rattle.tournament_rules.proofs.Remaining.{somebody_plays}
use Rattle.tournament_rules.proofs.Members.{has_number, any_without}
use Rattle.tournament_rules.proofs.Fitting.{table_range}
use Rattle.tournament_rules.proofs.Passed.{passed-parts, entry_passed, reentry_passed}
use Rattle.tournament_rules.proofs.Begins.{may_begin}
use Rattle.tournament_rules.proofs.Breaks.{break_passed}
use Rattle.tournament_rules.proofs.Left.{broken_left}
use Rattle.tournament_rules.proofs.MoveLaws.{not_refused, no_table}

-- Whether a player of this number sits at a table.
abbrev sits_numbered : ℕ → ℕ → Seated → Bool
sits_numbered number table player = is_numbered number player && sits_at table player

-- Who is among those who are lent at a table sits there.
lent_sits : (number table : ℕ) (players : List Seated)
    → list_any (has_number number) (map start_seat (filter (is_lent table) players)) ≡ true
    → list_any (sits_numbered number table) players ≡ true
lent_sits number table [] among = absurd cc
lent_sits number table (player ∷ players) among = by_test (is_lent table player) refl among
    (lent_sits number table players)
  where
    either : (his here sits later : Bool) → (his || later) ≡ true → sits ≡ true → (later ≡ true → here ≡ true)
        → ((his && sits) || here) ≡ true
    either true here true later some at rest = refl
    either true here false later some at rest = absurd cc
    either false here sits later some at rest = rest some

    by_test : (b : Bool) → is_lent table player ≡ b
        → list_any (has_number number) (map start_seat (cond b (player ∷ filter (is_lent table) players)
        (filter (is_lent table) players))) ≡ true
        → (list_any (has_number number) (map start_seat (filter (is_lent table) players)) ≡ true
        → list_any (sits_numbered number table) players ≡ true)
        → list_any (sits_numbered number table) (player ∷ players) ≡ true
    by_test true lent some rest =
        let parts = and_parts (sits_at table player) (player.stack == 0) lent in
        either (player.player == number) (list_any (sits_numbered number table) players) (sits_at table player)
        (list_any (has_number number) (map start_seat (filter (is_lent table) players))) some parts.0 rest
    by_test false lent some rest = or_right (sits_numbered number table player) _ (rest some)

-- Where none has a number, none of that number sits at a table.
none_sits : (number table : ℕ) (players : List Seated) → list_all (λ other. not (is_numbered number other)) players
    ≡ true
    → list_any (sits_numbered number table) players ≡ false
none_sits number table players none =
    list_any-none (λ (other : Seated). not (is_numbered number other)) (sits_numbered number table) players
    (λ other differs. and_left (is_numbered number other) (sits_at table other) (not-true _ differs)) none

-- A number sits at one table.
one_table : (number table other : ℕ) (players : List Seated) → are_apart players ≡ true
    → list_any (sits_numbered number table) players ≡ true → list_any (sits_numbered number other) players ≡ true
    → table ≡ other
one_table number table other [] apart here there = absurd cc
one_table number table other (player ∷ players) apart here there =
    let parts = and_parts (list_all (λ other. not (is_numbered player.player other)) players)
    (are_apart players) apart in
    by_number (is_numbered number player) refl parts.0 here there (one_table number table other players parts.1)
  where
    his : (at : ℕ) → list_all (λ other. not (is_numbered number other)) players ≡ true
        → (sits_at at player || list_any (sits_numbered number at) players) ≡ true → sits_at at player ≡ true
    his at none some = first_alone (sits_at at player) (list_any (sits_numbered number at) players) some
        (none_sits number at players none)

    by_number : (b : Bool) → is_numbered number player ≡ b
        → list_all (λ other. not (is_numbered player.player other)) players ≡ true
        → list_any (sits_numbered number table) (player ∷ players) ≡ true
        → list_any (sits_numbered number other) (player ∷ players) ≡ true
        → (list_any (sits_numbered number table) players ≡ true → list_any (sits_numbered number other) players ≡ true
        → table ≡ other)
        → table ≡ other
    by_number true is apart here there rest =
        let number_is = eqb-true player.player number is in
        let none : list_all (λ other. not (is_numbered number other)) players ≡ true =
        ap (λ (n : ℕ). list_all (λ other. not (is_numbered n other)) players) (sym number_is) ∙ apart in
        let one = his table none (rw is at here) in
        let two = his other none (rw is at there) in
        sym (eqb-true player.place.table table one) ∙ eqb-true player.place.table other two
    by_number false is apart here there rest = rest (rw is at here) (rw is at there)

-- Nobody is in the hands of two tables.
pub one_hand : (book : BookState) (number table other : ℕ) → IsValid book
    → is_among number (starters_of (start_at book.started table)) ≡ true
    → is_among number (starters_of (start_at book.started other)) ≡ true → table ≡ other
one_hand book number table other valid here there =
    one_table number table other book.seating.players valid.tables.lawful.apart (sits table here) (sits other there)
  where
    sits : (at : ℕ) → is_among number (starters_of (start_at book.started at)) ≡ true
        → list_any (sits_numbered number at) book.seating.players ≡ true
    sits at among = lent_sits number at book.seating.players
        (ap (λ (starters : List StartSeat). list_any (has_number number) starters) (valid.hands.lent at)
        ∙ (any_without number (starters_of (start_at book.started at)) ∙ among))

nobody_there : (book : BookState) (table : ℕ) → is_open book.seating.players table ≡ false
    → count_at book.seating.players table ≡ 0
nobody_there book table closed = omega (arith, ltb-false 0 (count_at book.seating.players table) closed)

-- Nobody is listed at a table that is not open.
pub no_players : (book : BookState) (table : ℕ) → is_open book.seating.players table ≡ false
    → players_at book.seating.players table ≡ []
no_players book table closed = filter-none (sits_at table) book.seating.players
    (none_by_count (sits_at table) book.seating.players (nobody_there book table closed))

-- No hand is played at a table that is not open.
pub no_hand : (book : BookState) (table : ℕ) → IsValid book → is_open book.seating.players table ≡ false
    → start_at book.started table ≡ None
no_hand book table valid closed = none-found (start_at book.started table) no_start
  where
    no_start : (start : HandStart) → start_at book.started table ≡ Some start → ⊥
    no_start start is =
        let sit = somebody_plays book table start valid is in
        let none = nobody_there book table closed in
        absurd (omega (arith, sit, none))

-- A table that is not open has no marks.
pub no_marks : (book : BookState) (table : ℕ) → IsValid book → is_open book.seating.players table ≡ false
    → (status_at book.seating.tables table).marks ≡ None
no_marks book table valid closed = none-found (status_at book.seating.tables table).marks never
  where
    never : (marks : Marks) → (status_at book.seating.tables table).marks ≡ Some marks → ⊥
    never marks is =
        let one = valid.marked table marks is in
        let none = nobody_there book table closed in
        absurd (omega (arith, one, none))

-- No race is pending at a table that is not open.
pub no_race : (book : BookState) (table : ℕ) → IsValid book → is_open book.seating.players table ≡ false
    → (status_at book.seating.tables table).race ≡ None
no_race book table valid closed = none-found (status_at book.seating.tables table).race never
  where
    never : (unit : ℕ) → (status_at book.seating.tables table).race ≡ Some unit → ⊥
    never unit is =
        let one = valid.units.due table unit is in
        let none = nobody_there book table closed in
        absurd (omega (arith, one, none))

-- A halted table begins no hand.
pub halted_waits : (state : State) (play : PlayState) (table : ℕ) (row : CardRow) → state.play ≡ Some play
    → is_halted play.book.seating table ≡ true → answer_to state (Begin table row) ≢ Ok
halted_waits state play table row is halted accepted =
    let none = not_refused state play (Begin table row) is accepted in
    let goes = (may_begin play.book table row (passed-parts play (Begin table row) none).0).goes in
    let both : true ≡ false = sym halted ∙ goes in
    cc

-- A table with the fewest players has at most one more than any other that could be entered once a player sat down there.
one_more : (book : BookState) (new : Seated) (table other : ℕ) → is_not_fewest book table ≡ false
    → may_be_entered book other ≡ true
    → count_at (sit_down new book.seating.players) table ≤ count_at (sit_down new book.seating.players) other + 1
one_more book new table other fewest_is could =
    let listed = and_parts (has_table book other) (book.begun == 0 || nat_lt 0 (count_at book.seating.players other))
    could in
    let range = table_range 1 book.plan.tables other listed.0 in
    let fewest = no_table (λ other. may_be_entered book other
    && nat_lt (count_at book.seating.players other) (count_at book.seating.players table)) book.plan.tables other
    fewest_is (record { first = range.0; last = range.1 }) in
    let few = ltb-false (count_at book.seating.players other) (count_at book.seating.players table)
    (others_fail (may_be_entered book other) (nat_lt (count_at book.seating.players other)
    (count_at book.seating.players table)) fewest could) in
    let behind = count_by (λ other. comes_before other.place new.place) book.seating.players in
    let here = sum_by-insert (λ player. cond {A = ℕ} (sits_at table player) 1 0) book.seating.players behind new in
    let there = sum_by-insert (λ player. cond {A = ℕ} (sits_at other player) 1 0) book.seating.players behind new in
    let one = at_most_one (sits_at table new) in
    omega (arith, few, here, there, one)

-- After an accepted event that has a player sit down at a table with the fewest, it has at most one player more than
-- any other that could be entered.
few_after : (state : State) (play : PlayState) (event : Event) (new : Seated) (table other : ℕ)
    → state.play ≡ Some play → answer_to state event ≡ Ok
    → (play_effect play event).book.seating.players ≡ sit_down new play.book.seating.players
    → is_not_fewest play.book table ≡ false → may_be_entered play.book other ≡ true
    → count_at (players_of (state_after state event)) table ≤ count_at (players_of (state_after state event)) other + 1
few_after state play event new table other is accepted sits fewest could =
    let taken = ap is_accepted accepted in
    let next : (state_after state event).play ≡ Some (play_effect play event) = rw (taken, is) refl in
    let after : players_of (state_after state event) ≡ sit_down new play.book.seating.players =
    ap (λ (play : Option PlayState). option_map_or (λ play. play.book.seating.players) play []) next ∙ sits in
    let now = ap (λ (players : List Seated). count_at players table) after in
    let then = ap (λ (players : List Seated). count_at players other) after in
    omega (arith, one_more play.book new table other fewest could, now, then)

-- After an entry its table has at most one player more than any other that could be entered.
pub entered_few : (state : State) (play : PlayState) (name : List ℕ) (table seat other : ℕ) → state.play ≡ Some play
    → answer_to state (Enter name table seat) ≡ Ok → may_be_entered play.book other ≡ true
    → count_at (players_of (state_after state (Enter name table seat))) table
    ≤ count_at (players_of (state_after state (Enter name table seat))) other + 1
entered_few state play name table seat other is accepted could =
    let none = not_refused state play (Enter name table seat) is accepted in
    let may = entry_passed play.book name table seat (passed-parts play (Enter name table seat) none).0 in
    few_after state play (Enter name table seat) (newcomer play.book name table seat) table other is accepted refl
    may.buys.fewest could

-- So it has after a re-entry.
pub reentered_few : (state : State) (play : PlayState) (name : List ℕ) (table seat other : ℕ) → state.play ≡ Some play
    → answer_to state (Reenter name table seat) ≡ Ok → may_be_entered play.book other ≡ true
    → count_at (players_of (state_after state (Reenter name table seat))) table
    ≤ count_at (players_of (state_after state (Reenter name table seat))) other + 1
reentered_few state play name table seat other is accepted could =
    let none = not_refused state play (Reenter name table seat) is accepted in
    let may = reentry_passed play.book name table seat (passed-parts play (Reenter name table seat) none).0 in
    few_after state play (Reenter name table seat) (returner play.book name table seat) table other is accepted refl
    may.buys.fewest could

-- Nobody sits at a table that an accepted break broke.
pub left_after : (state : State) (play : PlayState) (table : ℕ) (places : List Place) (names : List (List ℕ))
    → state.play ≡ Some play → IsValidPlay play → answer_to state (Break table places names) ≡ Ok
    → players_at (players_of (state_after state (Break table places names))) table ≡ []
left_after state play table places names is valid accepted =
    let none = not_refused state play (Break table places names) is accepted in
    let may = break_passed play.book table places names (passed-parts play (Break table places names) none).0 in
    let taken = ap is_accepted accepted in
    let next : (state_after state (Break table places names)).play ≡ Some (play_effect play
    (Break table places names)) =
    rw (taken, is) refl in
    ap (λ (play : Option PlayState). players_at (option_map_or (λ play. play.book.seating.players) play []) table) next
    ∙ broken_left play.book table places names valid.book may
