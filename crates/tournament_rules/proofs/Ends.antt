-- A book is valid once a hand has ended: it is settled, or it is void.
use Rattle.std.proofs.Common.{◌≡◌, ◌∙◌, refl, sym, ap, subst, ℕ, zero, suc, ◌+◌, ◌%◌, ◌<◌, ◌≤◌, Bool, true, false, cond, ◌==◌, List, [], ◌∷◌, ◌++◌, map, length, set, ◌⊎◌, inl, inr, arith}
use Rattle.std.specs.Prelude.{not, nat_lt, filter, slice_set, if◌then◌else◌, Option, Some, None}
use Rattle.std.specs.List.{list_all}
use Rattle.std.specs.Option.{option_map_or, ForSome}
use Rattle.std.proofs.lemmas.Bool.{and_parts, and_from, cases_Bool, cases_lt, eqb-true}
use Rattle.std.proofs.lemmas.List.{get_or_past}
use Rattle.rulebook.proofs.Passing.{filter-all, none-filter}
use Rattle.place_list.specs.declared.bust.Bust.{Bust}
use Rattle.seat_book.specs.declared.seated.Seated.{Seated}
use Rattle.seat_book.specs.Players.{sits_at}
use Rattle.seat_book.specs.Counts.{count_at}
use Rattle.seat_book.specs.Tables.{status_at, with_status}
use Rattle.table_engine.specs.declared.start.HandStart.{HandStart}
use Rattle.table_engine.specs.declared.start.StartSeat.{StartSeat}
use Rattle.table_engine.specs.Starts.{is_playable_stack, have_playable_stacks, chips_of}
use Rattle.table_engine.specs.Hands.{HandTerms, is_over}
use Rattle.table_engine.specs.Results.{with_stack, stack_after_hand, players_after}
use Rattle.table_engine.specs.Plays.{IsLawfulPlay}
use Rattle.table_engine.proofs.ChipsAfter.{chips-players, stacks-whole}
use Rattle.tournament_rules.specs.Books.{BookState, start_at, starters_of}
use Rattle.tournament_rules.specs.Players.{start_seat, paid, put_back}
use Rattle.tournament_rules.specs.Effects.{with_table, at_rest, ended, busted_by, bust_of, next_group, settled, void_at, void_first, stopped_book}
use Rattle.tournament_rules.specs.Units.{is_whole_at}
use Rattle.tournament_rules.specs.Valid.{IsValid, AreOnce, AreGrouped, is_lent, without_stack}
use Rattle.tournament_rules.proofs.Restacked.{count_changed, entered_changed, apart_changed}
use Rattle.tournament_rules.proofs.Paying.{numbers_of, paid-stacks, picked_numbers, ArePayees, rest-put_back, none_lent, lent_elsewhere, whole-put_back}
use Rattle.tournament_rules.proofs.Remaining.{somebody_stays}
use Rattle.tournament_rules.proofs.Stayed.{who_stay, all_stay, fitting_left, entered_left, none_lent-stay, lent_elsewhere-stay, count_elsewhere-stay, rest-stay, stayed-lent, with_nothing, lent_after, once_left, grouped_left}
use Rattle.tournament_rules.proofs.Fitting.{table_range, each_status, fitting_changed, table_started, starts_changed, play_changed, chips_of_start}
use Rattle.tournament_rules.proofs.KeptUnits.{keeps-set, starts_kept, units_kept}

-- The payees are a start's players with other stacks, of the same sum, that are multiples of the unit.
pub record GoBackTo (start : HandStart) (payees : List StartSeat) : Type 0 where
  pub same : map without_stack payees ≡ map without_stack start.seats
  pub whole : list_all (λ payee. payee.stack % start.blind.unit == 0) payees ≡ true
  pub kept : chips_of payees ≡ chips_of start.seats

numbers_without : (starters : List StartSeat) → numbers_of (map without_stack starters) ≡ numbers_of starters
numbers_without [] = refl
numbers_without (starter ∷ starters) = ap (λ (numbers : List ℕ). starter.player ∷ numbers) (numbers_without starters)

-- A stack that can be played with is above 0 and a multiple of the unit.
pub playable_parts : (unit : ℕ) (payees : List StartSeat) → have_playable_stacks unit payees ≡ true
    → (list_all (λ payee. nat_lt 0 payee.stack) payees ≡ true)
    × (list_all (λ payee. payee.stack % unit == 0) payees ≡ true)
playable_parts unit [] playable = (refl, refl)
playable_parts unit (payee ∷ payees) playable =
    let parts = and_parts (is_playable_stack unit payee.stack) (have_playable_stacks unit payees) playable in
    let his = and_parts (nat_lt 0 payee.stack) (payee.stack % unit == 0) parts.0 in
    let others = playable_parts unit payees parts.1 in
    (and_from _ _ his.0 others.0, and_from _ _ his.1 others.1)

-- The players of the hand that is played at a table are those who have nothing at rest there.
payees_lent : (book : BookState) (table : ℕ) (start : HandStart) (payees : List StartSeat) → IsValid book
    → start_at book.started table ≡ Some start → map without_stack payees ≡ map without_stack start.seats
    → ArePayees (is_lent table) book.seating.players payees
payees_lent book table start payees valid is back = record {
  numbers =
      let started : map start_seat (filter (is_lent table) book.seating.players)
      ≡ map without_stack start.seats = valid.hands.lent table
      ∙ ap (λ (start : Option HandStart). map without_stack (starters_of start)) is in
      sym (numbers_without payees) ∙ (ap numbers_of (back ∙ sym started) ∙ picked_numbers
      (filter (is_lent table) book.seating.players));
}

lent_nothing : (table : ℕ) (player : Seated) → is_lent table player ≡ true → player.stack ≡ 0
lent_nothing table player lent =
    eqb-true player.stack 0 (and_parts (player.place.table == table) (player.stack == 0) lent).1

-- the players once stacks went back and those who have nothing at the table have left
abbrev left_with : BookState → ℕ → List StartSeat → List Seated
left_with book table payees = who_stay table (put_back payees book.seating.players)

-- a book once the hand at a table has ended, with these players, who are out, and counts
abbrev closed : BookState → ℕ → List Seated → List Bust → ℕ → ℕ → BookState
closed book table players busts group accepted = record book {
  seating = record (with_table book.seating table at_rest) { players = players };
  started = slice_set book.started table None;
  busts = busts;
  group = group;
  accepted = accepted;
}

-- A book is valid once the hand at a table has ended, stacks of its start's sum went back to its players, and those who
-- have none have left.
valid_closed : (book : BookState) (table : ℕ) (start : HandStart) (payees : List StartSeat) (busts : List Bust)
    (group accepted : ℕ) → IsValid book → start_at book.started table ≡ Some start → GoBackTo start payees
    → AreOnce book.entries (left_with book table payees) busts → AreGrouped busts group → book.begun ≤ accepted
    → group ≤ accepted → IsValid (closed book table (left_with book table payees) busts group accepted)
valid_closed book table start payees busts group accepted valid is back once grouped counted raised =
    let there = table_started book.plan book.seating book.started table start valid.tables is in
    let range = table_range 1 book.plan.tables table there in
    let count = valid.tables.tables in
    let size = valid.tables.lawful.tables in
    let room = valid.tables.room in
    let within : table < length book.started = omega (arith, range.1, room) in
    let those = payees_lent book table start payees valid is back.same in
    let apart = valid.tables.lawful.apart in
    let began = valid.hands.starts table start is in
    let stands = valid.tables.lawful.statuses table in
    let players = put_back payees book.seating.players in
    let tables = book.seating.tables in
    let status = at_rest (status_at tables table) in
    let last : table ≤ length tables = omega (arith, range.1, count, size) in
    let keeps = keeps-set tables table status range.0 last refl refl in
    let stays : 1 ≤ count_at
    (who_stay table players) table = somebody_stays table book.seating.players payees start.blind.unit
    start.seats apart those began.lawful.stacks began.lawful.two back.kept in
    record {
      plan = valid.plan;
      entries = entered_left book.entries book.reentries players book.busts busts (is_lent table)
          (entered_changed book.entries book.reentries book.seating.players book.busts (paid payees) (paid-stacks payees)
          valid.entries) once;
      tables = fitting_left book.plan (record book.seating {
        players = players;
        tables = with_status book.seating.tables table status;
      }) (slice_set book.started table None) (is_lent table)
          (fitting_changed book.plan book.seating book.started table status None (paid payees) valid.tables there
          (record { marks = stands.marks; unit = stands.unit; race = stands.race }) refl (paid-stacks payees));
      hands = starts_kept book.plan tables (with_status tables table status) (who_stay table players)
          (slice_set book.started table None)
          (starts_changed book.plan tables book.seating.players (who_stay table players) book.started
          table None valid.hands within
          (λ start none. absurd cc)
          (ap (λ (found : List Seated). map start_seat found) (none_lent-stay table players))
          (λ other differ. lent_elsewhere-stay table other players differ
          ∙ lent_elsewhere table other book.seating.players payees apart those differ)) keeps.unit;
      busts = grouped;
      chips =
          let kept = valid.chips in
          let rest = rest-put_back (is_lent table) book.seating.players payees apart those (lent_nothing table) in
          let stay = rest-stay table players in
          let play = play_changed book.started table None within in
          let his : chips_of_start (start_at book.started table) ≡ chips_of start.seats = ap chips_of_start is in
          let same = back.kept in
          omega (arith, kept, rest, stay, play, his, same);
      units = units_kept book.plan book.level book.added tables (with_status tables table status) book.seating.players
          (who_stay table players) valid.units keeps
          (all_stay (is_whole_at tables) (is_lent table) players
          (whole-put_back tables table book.seating.players payees apart those valid.units.whole
          (ap (λ (unit : ℕ). list_all (λ (payee : StartSeat). payee.stack % unit == 0) payees) (sym began.unit)
          ∙ back.whole)))
          (λ other unit due. still_one stays other (cases_Bool (table == other)) (valid.units.due other unit due));
      marked = λ other. each_status (λ number status. ForSome status.marks
          (λ marks. 1 ≤ count_at (who_stay table players) number)) tables table status range.0 last
          (λ marks is. stays) other
          (λ marks is. still_one stays other (cases_Bool (table == other)) (valid.marked other marks is));
      counted = counted;
      raised = raised;
    }
  where
    still_one : 1 ≤ count_at (left_with book table payees) table → (other : ℕ)
        → ((table == other) ≡ true) ⊎ ((table == other) ≡ false) → 1 ≤ count_at book.seating.players other
        → 1 ≤ count_at (left_with book table payees) other
    still_one stays other (inl same) one =
        subst (λ (number : ℕ). 1 ≤ count_at (left_with book table payees) number) (eqb-true table other same) stays
    still_one stays other (inr differ) one =
        let left = count_elsewhere-stay table other (put_back payees book.seating.players) differ in
        let same = count_changed (sits_at other) (paid payees) (record { same = λ player stack. refl })
        (paid-stacks payees) book.seating.players in
        omega (arith, one, left, same)

-- A book is valid once the hand at a table has ended and stacks that can be played with, of its start's sum, went back
-- to its players.
valid_ended : (book : BookState) (table : ℕ) (start : HandStart) (payees : List StartSeat) → IsValid book
    → start_at book.started table ≡ Some start → GoBackTo start payees
    → list_all (λ payee. nat_lt 0 payee.stack) payees ≡ true → IsValid (ended book table payees)
valid_ended book table start payees valid is back above =
    let those = payees_lent book table start payees valid is back.same in
    let players = put_back payees book.seating.players in
    let none = none_lent table book.seating.players payees valid.tables.lawful.apart those above in
    let all : left_with book table payees ≡ players =
    filter-all (λ player. not (is_lent table player)) players (none-filter (is_lent table) players none) in
    let entered = entered_changed book.entries book.reentries book.seating.players book.busts (paid payees) (paid-stacks payees)
    valid.entries in
    let once = subst (λ (players : List Seated). AreOnce book.entries players book.busts) (sym all) entered.once in
    subst (λ (players : List Seated). IsValid (closed book table players book.busts book.group book.accepted)) all
    (valid_closed book table start payees book.busts book.group book.accepted valid is back once valid.busts
    valid.counted valid.raised)

-- A book is valid with another count of accepted events, if it is no lower, whether it is stopped or not.
pub valid_counted : (book : BookState) (accepted : ℕ) (stopped : Bool) → IsValid book → book.begun ≤ accepted
    → book.group ≤ accepted → IsValid (record book { accepted = accepted; stopped = stopped })
valid_counted book accepted stopped valid enough raised = record {
  plan = valid.plan;
  entries = valid.entries;
  tables = valid.tables;
  hands = valid.hands;
  chips = valid.chips;
  units = valid.units;
  busts = valid.busts;
  marked = valid.marked;
  counted = enough;
  raised = raised;
}

after_without : (hand : HandTerms) (players : List StartSeat)
    → map without_stack (map (λ player. with_stack player (stack_after_hand hand player)) players)
    ≡ map without_stack players
after_without hand [] = refl
after_without hand (player ∷ players) =
    ap (λ (others : List StartSeat). without_stack player ∷ others) (after_without hand players)

-- Those whom a hand leaves without chips are, in number, its players after it who have none.
broke_numbers : (hand : HandTerms) (starters : List StartSeat)
    → numbers_of (filter (λ player. stack_after_hand hand player == 0) starters)
    ≡ numbers_of (with_nothing (map (λ player. with_stack player (stack_after_hand hand player)) starters))
broke_numbers hand [] = refl
broke_numbers hand (player ∷ starters) =
    by_test (stack_after_hand hand player == 0) (broke_numbers hand starters)
  where
    after : List StartSeat
    after = map (λ player. with_stack player (stack_after_hand hand player)) starters

    by_test : (b : Bool)
        → numbers_of (filter (λ player. stack_after_hand hand player == 0) starters) ≡ numbers_of (with_nothing after)
        → numbers_of (cond b (player ∷ filter (λ player. stack_after_hand hand player == 0) starters)
        (filter (λ player. stack_after_hand hand player == 0) starters))
        ≡ numbers_of (cond b (with_stack player (stack_after_hand hand player) ∷ with_nothing after)
        (with_nothing after))
    by_test true rest = ap (◌∷◌ player.player) rest
    by_test false rest = rest

-- The group of those who go out next is this one or the next.
pub next_or_same : (hands : Bool) (group : ℕ)
    → (group ≤ (if hands then group else group + 1)) × ((if hands then group else group + 1) ≤ group + 1)
next_or_same true group = (omega arith, omega arith)
next_or_same false group = (omega arith, omega arith)

-- A book is valid once a hand that is over is settled.
pub valid_settled : (book : BookState) (hand : HandTerms) → IsValid book
    → start_at book.started hand.start.table ≡ Some hand.start → IsLawfulPlay hand → is_over hand ≡ true
    → IsValid (settled book hand)
valid_settled book hand valid is play over =
    let start = hand.start in
    let began = valid.hands.starts start.table start is in
    let payees = players_after hand in
    let back : GoBackTo start payees = record {
      same = after_without hand start.seats;
      whole = stacks-whole hand began.lawful play;
      kept = chips-players hand began.lawful play over;
    } in
    let apart = valid.tables.lawful.apart in
    let players = put_back payees book.seating.players in
    let those = payees_lent book start.table start payees valid is back.same in
    let same = broke_numbers hand start.seats ∙ lent_after start.table book.seating.players payees apart those in
    let entered = entered_changed book.entries book.reentries book.seating.players book.busts (paid payees) (paid-stacks payees)
    valid.entries in
    let once = once_left book.entries start.table book.group (busted_by hand) players book.busts entered.once same in
    let stay = stayed-lent start.table (busted_by hand) players
    (apart_changed (paid payees) (paid-stacks payees) book.seating.players ∙ apart) same in
    let counted = valid.counted in
    let raised = valid.raised in
    let busts = book.busts ++ map (bust_of book.group) (busted_by hand) in
    let next = next_or_same book.seating.hands book.group in
    subst (λ (players : List Seated). IsValid
    (closed book start.table players busts (next_group book) (book.accepted + 1))) (sym stay)
    (valid_closed book start.table start payees busts (next_group book) (book.accepted + 1) valid is back once
    (grouped_left book.group (next_group book) (busted_by hand) book.busts next.0 valid.busts) (omega (arith, counted))
    (let most = next.1 in omega (arith, raised, most)))

-- A book is valid once the hand at a table is void.
pub valid_void_at : (book : BookState) (table : ℕ) → IsValid book → IsValid (void_at book table)
valid_void_at book table valid = by_start (start_at book.started table) refl
  where
    by_start : (found : Option HandStart) → start_at book.started table ≡ found
        → IsValid (option_map_or (λ start. ended book table start.seats) found book)
    by_start None is = valid
    by_start (Some start) is =
        let began = valid.hands.starts table start is in
        let parts = playable_parts start.blind.unit start.seats began.lawful.stacks in
        valid_ended book table start start.seats valid is
        (record { same = refl; whole = parts.1; kept = refl }) parts.0

-- A book is valid once the hands at the first so many tables are void.
pub valid_void_first : (book : BookState) (tables : ℕ) → IsValid book → IsValid (void_first book tables)
valid_void_first book zero valid = valid
valid_void_first book (suc tables) valid =
    valid_void_at (void_first book tables) (suc tables) (valid_void_first book tables valid)

-- What the end of a hand leaves of a book as it is.
pub record IsLeft {K : Type 0} (key : BookState → K) : Type 0 where
  pub same : (book : BookState) (table : ℕ) (payees : List StartSeat) → key (ended book table payees) ≡ key book

-- It is so once the hands at the first so many tables are void.
pub left-void_first : {K : Type 0} (key : BookState → K) → IsLeft key → (book : BookState) (tables : ℕ)
    → key (void_first book tables) ≡ key book
left-void_first key leaves book zero = refl
left-void_first key leaves book (suc tables) = by_start (start_at (void_first book tables).started (suc tables))
    ∙ left-void_first key leaves book tables
  where
    by_start : (found : Option HandStart)
        → key (option_map_or (λ start. ended (void_first book tables) (suc tables) start.seats) found
        (void_first book tables)) ≡ key (void_first book tables)
    by_start None = refl
    by_start (Some start) = leaves.same (void_first book tables) (suc tables) start.seats

set_none-here : (started : List (Option HandStart)) (table : ℕ) → start_at (set started table None) table ≡ None
set_none-here [] table = refl
set_none-here (start ∷ started) zero = refl
set_none-here (start ∷ started) (suc table) = set_none-here started table

set_none-kept : (started : List (Option HandStart)) (table other : ℕ) → start_at started other ≡ None
    → start_at (set started table None) other ≡ None
set_none-kept [] table other none = none
set_none-kept (start ∷ started) zero zero none = refl
set_none-kept (start ∷ started) zero (suc other) none = none
set_none-kept (start ∷ started) (suc table) zero none = none
set_none-kept (start ∷ started) (suc table) (suc other) none = set_none-kept started table other none

-- Once the hands at the first so many tables are void, no hand is played at any of them.
pub none_started-void_first : (book : BookState) (tables table : ℕ) → 1 ≤ table → table ≤ tables
    → start_at (void_first book tables).started table ≡ None
none_started-void_first book zero table first last = absurd (omega arith)
none_started-void_first book (suc tables) table first last = elim (cases_lt tables table) [
  | inl here ↦
      let is : suc tables ≡ table = omega arith in
      subst (λ (number : ℕ). start_at (void_first book (suc tables)).started number ≡ None) is
      (void_here (start_at (void_first book tables).started (suc tables)) refl)
  | inr before ↦ void_kept (start_at (void_first book tables).started (suc tables))
      (none_started-void_first book tables table first before)
]
  where
    void_here : (found : Option HandStart) → start_at (void_first book tables).started (suc tables) ≡ found
        → start_at (option_map_or (λ start. ended (void_first book tables) (suc tables) start.seats) found
        (void_first book tables)).started (suc tables) ≡ None
    void_here None is = is
    void_here (Some start) is = set_none-here (void_first book tables).started (suc tables)

    void_kept : (found : Option HandStart) → start_at (void_first book tables).started table ≡ None
        → start_at (option_map_or (λ start. ended (void_first book tables) (suc tables) start.seats) found
        (void_first book tables)).started table ≡ None
    void_kept None none = none
    void_kept (Some start) none = set_none-kept (void_first book tables).started (suc tables) table none

-- A book is valid once the tournament is stopped.
pub valid_stopped : (book : BookState) → IsValid book → IsValid (stopped_book book)
valid_stopped book valid =
    let begun = left-void_first (λ book. book.begun) (record { same = λ book table payees. refl }) book
    book.plan.tables in
    let group = left-void_first (λ book. book.group) (record { same = λ book table payees. refl }) book
    book.plan.tables in
    let counted = valid.counted in
    let raised = valid.raised in
    valid_counted (void_first book book.plan.tables) (book.accepted + 1) true
    (valid_void_first book book.plan.tables valid) (omega (arith, begun, counted)) (omega (arith, group, raised))

-- Once the tournament is stopped, no hand is played at any table.
pub none_started-stopped : (book : BookState) (table : ℕ) → IsValid book
    → start_at (stopped_book book).started table ≡ None
none_started-stopped book zero valid = (valid_void_first book book.plan.tables valid).tables.nobody
none_started-stopped book (suc below) valid = elim (cases_lt below book.plan.tables) [
  | inl listed ↦ none_started-void_first book book.plan.tables (suc below) (omega arith) (omega arith)
  | inr past ↦
      let tables = left-void_first (λ book. book.plan.tables) (record { same = λ book table payees. refl }) book
      book.plan.tables in
      let room = (valid_void_first book book.plan.tables valid).tables.room in
      get_or_past (void_first book book.plan.tables).started (suc below) None (omega (arith, tables, room, past))
]
