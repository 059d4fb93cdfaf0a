-- What holds of the tables and of the starts of the hands that are played, once one table stands otherwise with another
-- start, or none.
use Rattle.std.proofs.Common.{◌≡◌, ◌∙◌, refl, sym, ap, subst, ℕ, zero, suc, ◌+◌, ◌<◌, ◌≤◌, ◌≢◌, Bool, true, false, ◌==◌, List, map, length, inl, inr, arith}
use Rattle.std.specs.Prelude.{filter, sum_by, slice_set, Option, Some, None, is_some}
use Rattle.std.specs.Option.{ForSome}
use Rattle.std.proofs.lemmas.Bool.{cases_Bool, eqb-true, eqb-false}
use Rattle.std.proofs.lemmas.Bool.Decides.{nat_tests}
use Rattle.std.proofs.lemmas.List.{length-set, get_or-set_same, get_or-set_other, get_or_past}
use Rattle.std.proofs.lemmas.List.Sums.{sum_by-set}
use Rattle.level_plan.specs.Items.{is_between}
use Rattle.level_plan.specs.Plans.{PlanTerms}
use Rattle.seat_book.specs.declared.seated.Seated.{Seated}
use Rattle.seat_book.specs.declared.table_status.TableStatus.{TableStatus}
use Rattle.seat_book.specs.Counts.{count_at}
use Rattle.seat_book.specs.Tables.{fresh_status, status_at, with_status, IsStatusOf}
use Rattle.seat_book.specs.Seatings.{Seating, sits_within, is_entry, IsSeating}
use Rattle.table_engine.specs.declared.start.HandStart.{HandStart}
use Rattle.table_engine.specs.Starts.{chips_of}
use Rattle.tournament_rules.specs.Books.{start_at, starters_of}
use Rattle.tournament_rules.specs.Players.{start_seat}
use Rattle.tournament_rules.specs.Units.{AreDue}
use Rattle.tournament_rules.specs.Valid.{IsFitting, IsStartAt, AreStarted, AreMarked, is_lent, without_stack}
use Rattle.tournament_rules.proofs.Restacked.{ChangesStacks, all_changed, order_changed, apart_changed}

-- The number of a table is from 1 to the number of tables.
pub table_range : (low high number : ℕ) → is_between low high number ≡ true → (low ≤ number) × (number ≤ high)
table_range low high number between = grind (arith, nat_tests)

-- A number that differs from another by the test is another.
pub other_number : (one other : ℕ) → (one == other) ≡ false → other ≢ one
other_number one other differ = λ same. eqb-false one other differ (sym same)

-- The table that is set stands as it was set.
pub status_here : (tables : List TableStatus) (table : ℕ) (status : TableStatus) → 1 ≤ table → table ≤ length tables
    → status_at (with_status tables table status) table ≡ status
status_here tables zero status first last = absurd (omega arith)
status_here tables (suc below) status first last = get_or-set_same tables below status fresh_status (omega arith)

-- All others stand as before.
pub status_elsewhere : (tables : List TableStatus) (table other : ℕ) (status : TableStatus) → (table == other) ≡ false
    → status_at (with_status tables table status) other ≡ status_at tables other
status_elsewhere tables zero other status differ = refl
status_elsewhere tables (suc below) zero status differ = refl
status_elsewhere tables (suc below) (suc other) status differ =
    let apart = other_number (suc below) (suc other) differ in
    get_or-set_other tables below other status fresh_status (λ same. apart (ap suc same))

-- There are as many tables as before.
pub length-with_status : (tables : List TableStatus) (table : ℕ) (status : TableStatus)
    → length (with_status tables table status) ≡ length tables
length-with_status tables zero status = refl
length-with_status tables (suc below) status = length-set tables below status

-- What holds of how each table stands holds once one stands otherwise of which it holds.
pub each_status : (P : ℕ → TableStatus → Type 0) (tables : List TableStatus) (table : ℕ) (status : TableStatus)
    → 1 ≤ table → table ≤ length tables → P table status → (other : ℕ) → P other (status_at tables other)
    → P other (status_at (with_status tables table status) other)
each_status P tables table status first last here other there = elim (cases_Bool (table == other)) [
  | inl same ↦
      let is = eqb-true table other same in
      subst (λ (number : ℕ). P number (status_at (with_status tables table status) number)) is
      (subst (λ (s : TableStatus). P table s) (sym (status_here tables table status first last)) here)
  | inr differ ↦ subst (λ (s : TableStatus). P other s) (sym (status_elsewhere tables table other status differ)) there
]

-- What holds of the start of the hand that is played at each table, or of none, holds once one is set of which it
-- holds.
pub each_start : (P : ℕ → Option HandStart → Type 0) (started : List (Option HandStart)) (table : ℕ)
    (start : Option HandStart)
    → table < length started → P table start → (other : ℕ)
    → ((table == other) ≡ false → P other (start_at started other))
    → P other (start_at (slice_set started table start) other)
each_start P started table start within here other there = elim (cases_Bool (table == other)) [
  | inl same ↦
      let is = eqb-true table other same in
      subst (λ (number : ℕ). P number (start_at (slice_set started table start) number)) is
      (subst (λ (s : Option HandStart). P table s) (sym (get_or-set_same started table start None within)) here)
  | inr differ ↦ subst (λ (s : Option HandStart). P other s) (sym
      (get_or-set_other started table other start None (other_number table other differ))) (there differ)
]

-- Who sits where and how the tables stand, once one table stands otherwise and stacks changed.
pub seating_changed : (seating : Seating) (table : ℕ) (status : TableStatus) (change : Seated → Seated)
    → IsSeating seating → 1 ≤ table → table ≤ seating.table_count → IsStatusOf seating.seat_count status
    → ChangesStacks change
    → IsSeating (record seating {
      players = map change seating.players;
      tables = with_status seating.tables table
          status;
    })
seating_changed seating table status change lawful first last stands stacks = record {
  some_tables = lawful.some_tables;
  most_tables = lawful.most_tables;
  some_seats = lawful.some_seats;
  most_seats = lawful.most_seats;
  tables = length-with_status seating.tables table status ∙ lawful.tables;
  statuses = λ other. each_status (λ number status. IsStatusOf seating.seat_count status) seating.tables table status
      first (let size = lawful.tables in omega (arith, size, last)) stands other (lawful.statuses other);
  within = all_changed (sits_within seating.table_count seating.seat_count) change
      (record { same = λ player stack. refl }) stacks seating.players ∙ lawful.within;
  ordered = order_changed change stacks seating.players ∙ lawful.ordered;
  entries = all_changed is_entry change (record { same = λ player stack. refl }) stacks seating.players
      ∙ lawful.entries;
  apart = apart_changed change stacks seating.players ∙ lawful.apart;
}

-- The seating fits the plan once stacks changed and a table stands otherwise, which plays just where the book has a
-- start now.
pub fitting_changed : (plan : PlanTerms) (seating : Seating) (started : List (Option HandStart)) (table : ℕ)
    (status : TableStatus) (start : Option HandStart) (change : Seated → Seated)
    → IsFitting plan seating started → is_between 1 plan.tables table ≡ true → IsStatusOf seating.seat_count status
    → status.playing ≡ is_some start → ChangesStacks change
    → IsFitting plan (record seating {
      players = map change seating.players;
      tables = with_status seating.tables
          table status;
    }) (slice_set started table start)
fitting_changed plan seating started table status start change fits there stands plays stacks =
    let range = table_range 1 plan.tables table there in
    let count = fits.tables in
    let size = fits.lawful.tables in
    let room = fits.room in
    let within : table < length started = omega (arith, range.1, room) in
    record {
      lawful = seating_changed seating table status change fits.lawful range.0 (omega (arith, range.1, count)) stands
          stacks;
      tables = fits.tables;
      seats = fits.seats;
      room = length-set started table start ∙ fits.room;
      nobody = get_or-set_other started table 0 start None (λ same. omega (arith, range.0, same)) ∙ fits.nobody;
      playing = λ other. each_start (λ number start.
          (status_at (with_status seating.tables table status) number).playing ≡ is_some start) started table start
          within
          (ap (λ (s : TableStatus). s.playing) (status_here seating.tables table status range.0
          (omega (arith, range.1, count, size))) ∙ plays)
          other
          (λ differ. ap (λ (s : TableStatus). s.playing) (status_elsewhere seating.tables table other status differ)
          ∙ fits.playing other);
    }

-- The seating fits the plan once tables stand otherwise, lawfully, and play just where they played, whether
-- hand-for-hand is on or not.
pub fitting_alike : (plan : PlanTerms) (seating : Seating) (started : List (Option HandStart))
    (tables : List TableStatus)
    (hands : Bool) → IsFitting plan seating started → length tables ≡ length seating.tables
    → ((table : ℕ) → IsStatusOf seating.seat_count (status_at tables table))
    → ((table : ℕ) → (status_at tables table).playing ≡ (status_at seating.tables table).playing)
    → IsFitting plan (record seating { tables = tables; hands = hands }) started
fitting_alike plan seating started tables hands fits size stands plays = record {
  lawful = record {
    some_tables = fits.lawful.some_tables;
    most_tables = fits.lawful.most_tables;
    some_seats = fits.lawful.some_seats;
    most_seats = fits.lawful.most_seats;
    tables = size ∙ fits.lawful.tables;
    statuses = stands;
    within = fits.lawful.within;
    ordered = fits.lawful.ordered;
    entries = fits.lawful.entries;
    apart = fits.lawful.apart;
  };
  tables = fits.tables;
  seats = fits.seats;
  room = fits.room;
  nobody = fits.nobody;
  playing = λ table. plays table ∙ fits.playing table;
}

-- A table at which a hand has started is one of the plan's.
pub table_started : (plan : PlanTerms) (seating : Seating) (started : List (Option HandStart)) (table : ℕ)
    (start : HandStart)
    → IsFitting plan seating started → start_at started table ≡ Some start → is_between 1 plan.tables table ≡ true
table_started plan seating started zero start fits is = let none = fits.nobody in absurd cc
table_started plan seating started
    (suc below) start fits is = elim (cases_Bool (is_between 1 plan.tables (suc below))) [
      | inl there ↦ there
      | inr past ↦
          let room = fits.room in
          let beyond = above plan.tables below past in
          let none = get_or_past started (suc below) None (omega (arith, room, beyond)) in
          absurd cc
    ]
  where
    above : (high below : ℕ) → is_between 1 high (suc below) ≡ false → high < suc below
    above high below past = grind (arith, nat_tests)

-- The starts are lawful, and their players are lent, once a table has another start, or none.
pub starts_changed : (plan : PlanTerms) (tables : List TableStatus) (players after : List Seated)
    (started : List (Option HandStart)) (table : ℕ) (start : Option HandStart)
    → AreStarted plan tables players started → table < length started → ForSome start (IsStartAt plan tables table)
    → map start_seat (filter (is_lent table) after) ≡ map without_stack (starters_of start)
    → ((other : ℕ) → (table == other) ≡ false → filter (is_lent other) after ≡ filter (is_lent other) players)
    → AreStarted plan tables after (slice_set started table start)
starts_changed plan tables players after started table start hands within lawful here elsewhere = record {
  starts = λ other. each_start (λ number start. ForSome start (IsStartAt plan tables number)) started table start
      within lawful other (λ differ. hands.starts other);
  lent = λ other. each_start (λ number start. map start_seat (filter (is_lent number) after) ≡ map without_stack
      (starters_of start)) started table start within here other
      (λ differ. ap (λ (found : List Seated). map start_seat found) (elsewhere other differ) ∙ hands.lent other);
}

-- the chips of the start of a hand, if one is played
abbrev pub chips_of_start : Option HandStart → ℕ
chips_of_start start = chips_of (starters_of start)

-- The chips in play, once a table has another start, or none.
pub play_changed : (started : List (Option HandStart)) (table : ℕ) (start : Option HandStart) → table < length started
    → sum_by chips_of_start (slice_set started table start) + chips_of_start (start_at started table)
    ≡ sum_by chips_of_start started + chips_of_start start
play_changed started table start within = sum_by-set chips_of_start started table start None within

-- Pending races stay where somebody sits where no table has fewer players than before.
pub due_more : (tables : List TableStatus) (before after : List Seated) → AreDue tables before
    → ((table : ℕ) → count_at before table ≤ count_at after table) → AreDue tables after
due_more tables before after due more = λ table unit is.
    let one = due table unit is in
    let most = more table in
    omega (arith, one, most)

-- Tables keep their marks where no table has fewer players than before.
pub marked_more : (tables : List TableStatus) (before after : List Seated) → AreMarked tables before
    → ((table : ℕ) → count_at before table ≤ count_at after table) → AreMarked tables after
marked_more tables before after marked more = λ table marks is.
    let one = marked table marks is in
    let most = more table in
    omega (arith, one, most)
