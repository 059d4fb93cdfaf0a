-- A book is valid before any entry, and after each.
use Rattle.std.proofs.Common.{◌≡◌, ◌∙◌, refl, sym, ap, ℕ, zero, suc, ◌+◌, ◌*◌, ◌%◌, ◌<◌, ◌≤◌, ◌⊎◌, inl, inr, Bool, true, false, cond, ◌==◌, eq-eqb, List, [], ◌∷◌, ◌++◌, map, length, arith, length-append}
use Rattle.std.specs.Prelude.{not, nat_lt, nat_le, count_by, sum, sum_by, replicate, slice_get, Option, Some, None, is_some, option_map}
use Rattle.std.specs.Option.{ForSome}
use Rattle.std.proofs.lemmas.Bool.{and_parts, and_from, and_right, cases_lt, eqb-true, leb-true, lt-ltb, ltb-false, ne_eqb}
use Rattle.std.proofs.lemmas.Bool.Decides.{nat_tests}
use Rattle.std.proofs.lemmas.List.{get_or-replicate, get_or_past, length-replicate}
use Rattle.std.proofs.lemmas.List.Folds.{sum_by-replicate}
use Rattle.std.proofs.lemmas.List.Sums.{sum_by-insert}
use Rattle.std.proofs.lemmas.List.Elements.{All-nil, All-weaker}
use Rattle.std.proofs.lemmas.Option.{slice_get_within}
use Rattle.rulebook.specs.Limits.{most_entries}
use Rattle.rulebook.proofs.Pairs.{is_pairwise-kept}
use Rattle.rulebook.proofs.Passing.{count_by-none, none-find}
use Rattle.rulebook.proofs.Tests.{list_all-kept, none_by_count}
use Rattle.rulebook.proofs.Repeats.{get_or-repeated}
use Rattle.place_list.specs.declared.bust.Bust.{Bust}
use Rattle.place_list.specs.Places.{taken_back}
use Rattle.level_plan.specs.Items.{is_between, are_levels}
use Rattle.level_plan.specs.Limits.{greatest_amount, most_shares, whole_pool}
use Rattle.level_plan.specs.Plans.{PlanTerms, is_right, unit_of_level}
use Rattle.entry_list.specs.Entries.{is_known}
use Rattle.entry_list.proofs.Added.{names-added}
use Rattle.tournament_events.specs.declared.event.Event.TheVariants.{Enter, Reenter}
use Rattle.level_plan.proofs.Levels.{unit_of_level_above}
use Rattle.seat_book.specs.declared.seated.Seated.{Seated}
use Rattle.seat_book.specs.declared.table_status.TableStatus.{TableStatus}
use Rattle.seat_book.specs.Places.{comes_before}
use Rattle.seat_book.specs.Players.{sits_at, is_numbered, player_of, place_of, sit_down}
use Rattle.seat_book.specs.Counts.{count_at}
use Rattle.seat_book.specs.Tables.{status_at, fresh_status, IsStatusOf}
use Rattle.tournament_rules.specs.Books.{BookState, number_in, start_at, starters_of}
use Rattle.tournament_rules.specs.Checks.{book_refusal}
use Rattle.tournament_rules.specs.Chips.{rest_in, play_of}
use Rattle.tournament_rules.specs.Players.{start_seat}
use Rattle.tournament_rules.specs.Effects.{first_book, first_status, starter, sold_to, newcomer, entered, returner, reentered}
use Rattle.tournament_rules.specs.Units.{IsUnitOf, is_due}
use Rattle.tournament_rules.specs.Valid.{IsValid, AreEntered, AreGrouped, rows_owed, is_bust_of, without_stack, is_lent}
use Rattle.tournament_rules.proofs.Fitting.{table_range, marked_more, due_more}
use Rattle.tournament_rules.proofs.Insertions.{list_all-insert, All-insert, filter-insert_no}
use Rattle.tournament_rules.proofs.SitDown.{seating-sit_down}
use Rattle.tournament_rules.proofs.InOrBust.{one_owed, taken-count}
use Rattle.tournament_rules.proofs.Passed.{MayBuy, entry_passed, reentry_passed}
use Rattle.tournament_rules.proofs.Names.{IsNamed, number_named}
use Rattle.tournament_rules.proofs.Units.{next_times, whole_times, whole_earlier}

-- What a right plan has.
pub record IsRight (plan : PlanTerms) : Type 0 where
  pub some_tables : 1 ≤ plan.tables
  pub most_tables : plan.tables ≤ 64
  pub some_seats : 2 ≤ plan.seats
  pub most_seats : plan.seats ≤ 10
  pub some_stack : 1 ≤ plan.stack
  pub most_stack : plan.stack ≤ 1000000000
  pub most_buyin : plan.buyin ≤ 1000000000
  pub some_late : 1 ≤ plan.late
  pub most_late : plan.late ≤ length plan.blinds
  pub level_count : length plan.blinds ≤ 40
  pub levels : are_levels plan.blinds ≡ true
  pub some_shares : 1 ≤ length plan.shares
  pub most_shared : sum plan.shares ≤ 1000
  pub whole : plan.stack % unit_of_level plan.blinds plan.late ≡ 0

-- A right plan has all that.
pub right_has : (plan : PlanTerms) → is_right plan ≡ true → IsRight plan
right_has plan right =
    let one = and_parts _ _ right in
    let two = and_parts _ _ one.1 in
    let three = and_parts _ _ two.1 in
    let four = and_parts _ _ three.1 in
    let five = and_parts _ _ four.1 in
    let six = and_parts _ _ five.1 in
    let seven = and_parts _ _ six.1 in
    let eight = and_parts _ _ seven.1 in
    let nine = and_parts _ _ eight.1 in
    let shares = and_parts _ _ eight.0 in
    let tables = table_range 1 64 plan.tables one.0 in
    let seats = table_range 2 10 plan.seats two.0 in
    let stack = table_range 1 greatest_amount plan.stack three.0 in
    let late = table_range 1 (length plan.blinds) plan.late five.0 in
    record {
      some_tables = tables.0;
      most_tables = tables.1;
      some_seats = seats.0;
      most_seats = seats.1;
      some_stack = stack.0;
      most_stack = stack.1;
      most_buyin = leb-true plan.buyin greatest_amount four.0;
      some_late = late.0;
      most_late = late.1;
      level_count = leb-true (length plan.blinds) 40 six.0;
      levels = seven.0;
      some_shares = (table_range 1 most_shares (length plan.shares) shares.0).0;
      most_shared = leb-true (sum plan.shares) whole_pool (and_parts _ _ (and_parts _ _ shares.1).1).1;
      whole = eqb-true (plan.stack % unit_of_level plan.blinds plan.late) 0 nine.1;
    }

-- What is so of a fresh table and of one that stands so, is so of each of many that do.
status_of_many : (P : TableStatus → Type 0) (status : TableStatus) → P fresh_status → P status → (count table : ℕ)
    → P (status_at (replicate count status) table)
status_of_many P status fresh one count zero = fresh
status_of_many P status fresh one count (suc below) = by_place (cases_lt below count)
  where
    by_place : (below < count) ⊎ (count ≤ below) → P (status_at (replicate count status) (suc below))
    by_place (inl within) = rw (get_or-replicate count below status fresh_status within) one
    by_place (inr past) = rw (get_or_past (replicate count status) below fresh_status (rw length-replicate past)) fresh

unit_of_many : (status : TableStatus) (count table : ℕ) → is_between 1 count table ≡ true
    → (status_at (replicate count status) table).unit ≡ status.unit
unit_of_many status count zero there = absurd (let none = table_range 1 count 0 there in omega arith)
unit_of_many status count (suc below) there =
    let range = table_range 1 count (suc below) there in
    ap (λ (status : TableStatus). status.unit) (get_or-replicate count below status fresh_status (omega arith))

-- No hand is played where none has started.
pub start_none : (count table : ℕ) → start_at (replicate count None) table ≡ None
start_none count table = get_or-repeated count table None

-- A book is valid before any entry.
pub valid_first : (plan : PlanTerms) → is_right plan ≡ true → IsValid (first_book plan)
valid_first plan right =
    let has = right_has plan right in
    let nobody = start_none (plan.tables + 1) in
    record {
      plan = record { right = right; first = omega arith; last = omega arith };
      entries = record {
        few = omega arith;
        names = refl;
        once = λ number. none_owed number;
        named = All-nil _;
      };
      tables = record {
        lawful = record {
          some_tables = has.some_tables;
          most_tables = has.most_tables;
          some_seats = has.some_seats;
          most_seats = has.most_seats;
          tables = length-replicate plan.tables (first_status plan);
          statuses = status_of_many (IsStatusOf plan.seats) (first_status plan) (fresh 1 (omega arith))
              (fresh (unit_of_level plan.blinds 1) (unit_of_level_above plan.blinds 1 has.levels)) plan.tables;
          within = refl;
          ordered = refl;
          entries = refl;
          apart = refl;
        };
        tables = refl;
        seats = refl;
        room = length-replicate (plan.tables + 1) None;
        nobody = nobody 0;
        playing = λ table. status_of_many (λ status. status.playing ≡ false)
            (first_status plan) refl refl plan.tables table ∙ sym (ap is_some (nobody table));
      };
      hands = record {
        starts = λ table start is. let none = nobody table in absurd cc;
        lent = λ table. sym (ap (λ found. map without_stack (starters_of found)) (nobody table));
      };
      chips = omega (arith, none_started (plan.tables + 1));
      units = record {
        units = λ table there. record {
          own = λ none. unit_of_many (first_status plan) plan.tables table there;
          new = λ new at. let none = no_race table in absurd cc;
          from = λ new at. let none = no_race table in absurd cc;
        };
        whole = refl;
        due = λ table new at. let none = no_race table in absurd cc;
        few = let none = sum_by-replicate (λ (status : TableStatus). cond {A = ℕ} (is_due status) 1 0) plan.tables
            (first_status plan) in omega (arith, none);
      };
      busts = record { groups = refl; past = refl };
      marked = λ table. status_of_many (λ status. ForSome status.marks (λ marks. 1 ≤ count_at [] table))
          (first_status plan) (λ marks is. absurd cc) (λ marks is. absurd cc) plan.tables table;
      counted = omega arith;
      raised = omega arith;
    }
  where
    fresh : (unit : ℕ) → 1 ≤ unit → IsStatusOf plan.seats (record fresh_status { unit = unit })
    fresh unit some = record { marks = λ marks is. absurd cc; unit = some; race = λ race is. absurd cc }

    no_race : (table : ℕ) → (status_at (replicate plan.tables (first_status plan)) table).race ≡ None
    no_race = status_of_many (λ status. status.race ≡ None) (first_status plan) refl refl plan.tables

    none_owed : (number : ℕ) → 0 ≡ rows_owed [] number
    none_owed number = grind (arith, nat_tests)

    none_started : (count : ℕ)
        → sum_by (λ start. sum_by (λ player. player.stack) (starters_of start)) (replicate count None) ≡ 0
    none_started count = rw (sum_by-replicate (λ start. sum_by (λ player. player.stack) (starters_of start)))
        (omega arith)

-- An entry keeps its number when another follows.
slice_get-more : {A : Type 0} (items : List A) (i : ℕ) (item new : A) → slice_get items i ≡ Some item
    → slice_get (items ++ new ∷ []) i ≡ Some item
slice_get-more [] i item new is = cc
slice_get-more (first ∷ items) zero item new is = is
slice_get-more (first ∷ items) (suc i) item new is = slice_get-more items i item new is

slice_get-new : {A : Type 0} (items : List A) (new : A) → slice_get (items ++ new ∷ []) (length items) ≡ Some new
slice_get-new [] new = refl
slice_get-new (first ∷ items) new = slice_get-new items new

-- The player of a new entry has a seat, and the others have theirs.
owed_more : (count number : ℕ)
    → cond (nat_lt number count) 1 0 + cond (count == number) 1 0 ≡ cond {A = ℕ} (nat_lt number (count + 1)) 1 0
owed_more count number = grind (arith, nat_tests)

-- Who has no place has no seat.
pub none_counted_of : (players : List Seated) (number : ℕ) → place_of players number ≡ None
    → count_by (is_numbered number) players ≡ 0
none_counted_of players number none =
    count_by-none (is_numbered number) players
    (none-find (is_numbered number) players (no_option (player_of players number) none))
  where
    no_option : (found : Option Seated) → option_map (λ seated. seated.place) found ≡ None → found ≡ None
    no_option None none = refl
    no_option (Some seated) none = absurd cc

nobody_yet : (count : ℕ) → cond {A = ℕ} (nat_lt count count) 1 0 ≡ 0
nobody_yet count = grind (arith, nat_tests)

-- The entries, the players and those who are out agree once one more entered.
entered-agree : (entries : List (List ℕ)) (reentries : ℕ) (players : List Seated) (busts : List Bust) (new : Seated)
    → AreEntered entries reentries players busts → length entries + reentries < most_entries
    → is_known entries new.name ≡ false → new.player ≡ length entries
    → AreEntered (entries ++ new.name ∷ []) reentries (sit_down new players) busts
entered-agree entries reentries players busts new agree room unknown number =
    let behind = count_by (λ other. comes_before other.place new.place) players in
    let added = length-append entries (new.name ∷ []) in
    record {
      few = omega (arith, added, room);
      names = names-added entries new.name unknown agree.names;
      once = λ n.
          let counted = sum_by-insert (λ player. cond (is_numbered n player) 1 0) players behind new in
          let old = agree.once n in
          let more = owed_more (length entries) n in
          let size : length entries + 1 ≡ length (entries ++ new.name ∷ []) = omega (arith, added) in
          let here = ap (λ (m : ℕ). cond {A = ℕ} (m == n) 1 0) number in
          let there = ap (λ (m : ℕ). cond {A = ℕ} (nat_lt n m) 1 0) size in
          omega (arith, counted, old, more, here, there);
      named = All-insert (IsNamed (entries ++ new.name ∷ [])) players behind new
          (All-weaker (IsNamed entries) (IsNamed (entries ++ new.name ∷ []))
          (λ player is. slice_get-more entries player.player player.name new.name is) players agree.named)
          (rw number (slice_get-new entries new.name));
    }

-- They agree once a player who has no seat sat down again, and his row left the list.
reentered-agree : (entries : List (List ℕ)) (reentries : ℕ) (players : List Seated) (busts : List Bust) (new : Seated)
    → AreEntered entries reentries players busts → length entries + reentries < most_entries
    → slice_get entries new.player ≡ Some new.name → count_by (is_numbered new.player) players ≡ 0
    → AreEntered entries (reentries + 1) (sit_down new players) (taken_back new.player busts)
reentered-agree entries reentries players busts new agree room named out =
    let behind = count_by (λ other. comes_before other.place new.place) players in
    record {
      few = omega (arith, room);
      names = agree.names;
      once = λ n.
          let counted = sum_by-insert (λ player. cond (is_numbered n player) 1 0) players behind new in
          let old = agree.once n in
          let taken = taken-count n new.player busts in
          let his = agree.once new.player in
          let one = one_owed new.player (length entries) (slice_get_within entries new.player new.name named) in
          by_number n (new.player == n) refl counted old taken (omega (arith, his, one, out));
      named = All-insert (IsNamed entries) players behind new agree.named named;
    }
  where
    by_number : (n : ℕ) (b : Bool) → (new.player == n) ≡ b
        → count_by (is_numbered n) (sit_down new players)
        ≡ count_by (is_numbered n) players + cond {A = ℕ} (new.player == n) 1 0
        → count_by (is_numbered n) players + count_by (is_bust_of n) busts ≡ rows_owed entries n
        → count_by (is_bust_of n) (taken_back new.player busts)
        + cond (new.player == n) (count_by (is_bust_of n) busts) 0 ≡ count_by (is_bust_of n) busts
        → count_by (is_bust_of new.player) busts ≡ 1
        → count_by (is_numbered n) (sit_down new players) + count_by (is_bust_of n) (taken_back new.player busts)
        ≡ rows_owed entries n
    by_number n true is counted old taken one =
        let same = eqb-true new.player n is in
        let here = rw same at one in
        let sits = rw is at counted in
        let left = rw is at taken in
        omega (arith, sits, old, left, here)
    by_number n false is counted old taken one =
        let sits = rw is at counted in
        let left = rw is at taken in
        omega (arith, sits, old, left)

-- The groups rise once a player was taken back.
grouped-taken : (number : ℕ) (busts : List Bust) (group : ℕ) → AreGrouped busts group
    → AreGrouped (taken_back number busts) group
grouped-taken number busts group grouped = record {
  groups = is_pairwise-kept (λ (earlier later : Bust). nat_le earlier.group later.group)
      (λ bust. not (is_bust_of number bust)) busts grouped.groups;
  past = list_all-kept (λ (bust : Bust). nat_le bust.group group) (λ bust. not (is_bust_of number bust)) busts
      grouped.past;
}

sold_more : (n m stack before after play removed added : ℕ) → m ≡ n + 1 → after ≡ before + stack
    → before + play + removed ≡ n * stack + added → after + play + removed ≡ m * stack + added
sold_more n m stack before after play removed added more sits kept = rw more (omega (arith, sits, kept))

-- A book is valid once a player sat down with the stack that a player starts with, where the entries, the players and
-- those who are out agree then.
valid_sold : (book : BookState) (number : ℕ) (name : List ℕ) (table seat : ℕ) (entries : List (List ℕ))
    (reentries : ℕ) (busts : List Bust) → IsValid book → MayBuy book table seat → number < most_entries
    → count_by (is_numbered number) book.seating.players ≡ 0
    → AreEntered entries reentries (sit_down (starter book number name table seat) book.seating.players) busts
    → AreGrouped busts book.group
    → length entries + reentries ≡ length book.entries + book.reentries + 1
    → IsValid (record (sold_to book (starter book number name table seat)) {
      entries = entries;
      reentries = reentries;
      busts = busts;
    })
valid_sold book number name table seat entries reentries busts valid may small stands agree grouped one_more =
    let has = right_has book.plan valid.plan.right in
    let new = starter book number name table seat in
    let behind = count_by (λ other. comes_before other.place new.place) book.seating.players in
    let some = has.some_stack in
    let rests = ne_eqb book.plan.stack 0 (λ nothing. omega (arith, some, nothing)) in
    record {
      plan = valid.plan;
      entries = agree;
      tables = record {
        lawful = seating-sit_down book.seating new valid.tables.lawful
            (rw (valid.tables.tables, valid.tables.seats) (and_from _ _ may.there may.within))
            (lt-ltb number most_entries small)
            may.free
            (none_by_count (is_numbered number) book.seating.players stands);
        tables = valid.tables.tables;
        seats = valid.tables.seats;
        room = valid.tables.room;
        nobody = valid.tables.nobody;
        playing = valid.tables.playing;
      };
      hands = record {
        starts = valid.hands.starts;
        lent = λ number. ap (map start_seat)
            (filter-insert_no (is_lent number) book.seating.players behind new
            (and_right (table == number) (book.plan.stack == 0) rests)) ∙ valid.hands.lent number;
      };
      chips =
          sold_more (length book.entries + book.reentries) (length entries + reentries) book.plan.stack (rest_in book)
          _ (play_of book) book.removed book.added one_more
          (sum_by-insert (λ (player : Seated). player.stack) book.seating.players behind new) valid.chips;
      units = record {
        units = valid.units.units;
        whole = list_all-insert _ book.seating.players behind new valid.units.whole
            (eq-eqb _ _
            (whole_at (status_at book.seating.tables table) book.plan.stack (valid.units.units table may.there)
            (whole_earlier book.plan.blinds book.level book.plan.late book.plan.stack has.levels valid.plan.first
            (ltb-false book.plan.late book.level may.early) has.most_late has.whole)));
        due = due_more book.seating.tables book.seating.players
            (sit_down new book.seating.players) valid.units.due more;
        few = valid.units.few;
      };
      marked = marked_more book.seating.tables book.seating.players
          (sit_down new book.seating.players) valid.marked more;
      busts = grouped;
      counted = omega (arith, valid.counted);
      raised = omega (arith, valid.raised);
    }
  where
    more : (other : ℕ) → count_at book.seating.players other
        ≤ count_at (sit_down (starter book number name table seat) book.seating.players) other
    more other =
        let new = starter book number name table seat in
        let one = sum_by-insert (λ player. cond {A = ℕ} (sits_at other player) 1 0) book.seating.players
        (count_by (λ other. comes_before other.place new.place) book.seating.players) new in
        omega (arith, one)

    whole_at : (status : TableStatus) (stack : ℕ) → IsUnitOf (unit_of_level book.plan.blinds book.level) status
        → stack % unit_of_level book.plan.blinds book.level ≡ 0 → stack % status.unit ≡ 0
    whole_at status stack is whole = by_race status.race refl
      where
        by_race : (race : Option ℕ) → status.race ≡ race → stack % status.unit ≡ 0
        by_race None none = ap (λ (unit : ℕ). stack % unit) (is.own none) ∙ whole
        by_race (Some new) at = whole_times stack status.unit new (next_times status.unit new (is.from new at).next)
            (ap (λ (unit : ℕ). stack % unit) (is.new new at) ∙ whole)

-- A book is valid after an entry that is not refused.
pub valid_entered : (book : BookState) (name : List ℕ) (table seat : ℕ) → IsValid book
    → book_refusal book (Enter name table seat) ≡ None → IsValid (entered book name table seat)
valid_entered book name table seat valid none =
    let may = entry_passed book name table seat none in
    let new = newcomer book name table seat in
    let room = may.buys.room in
    let added = length-append book.entries (name ∷ []) in
    let his = valid.entries.once (length book.entries) in
    let nobody = nobody_yet (length book.entries) in
    valid_sold book (length book.entries) name table seat (book.entries ++ name ∷ []) book.reentries book.busts valid
    may.buys (omega (arith, room)) (omega (arith, his, nobody))
    (entered-agree book.entries book.reentries book.seating.players book.busts new valid.entries room may.new refl)
    valid.busts (omega (arith, added))

-- A book is valid after a re-entry that is not refused.
pub valid_reentered : (book : BookState) (name : List ℕ) (table seat : ℕ) → IsValid book
    → book_refusal book (Reenter name table seat) ≡ None → IsValid (reentered book name table seat)
valid_reentered book name table seat valid none =
    let may = reentry_passed book name table seat none in
    let number = number_in book name in
    let new = returner book name table seat in
    let room = may.buys.room in
    let named = number_named book.entries name may.known in
    let within = slice_get_within book.entries number name named in
    let out = none_counted_of book.seating.players number may.out in
    valid_sold book number name table seat book.entries (book.reentries + 1) (taken_back number book.busts) valid
    may.buys (omega (arith, room, within)) out
    (reentered-agree book.entries book.reentries book.seating.players book.busts new valid.entries room named out)
    (grouped-taken number book.busts book.group valid.busts) (omega arith)

-- A player who may re-enter is out, once.
pub one_out : (book : BookState) (name : List ℕ) (table seat : ℕ) → IsValid book
    → book_refusal book (Reenter name table seat) ≡ None → count_by (is_bust_of (number_in book name)) book.busts ≡ 1
one_out book name table seat valid none =
    let may = reentry_passed book name table seat none in
    let number = number_in book name in
    let within = slice_get_within book.entries number name (number_named book.entries name may.known) in
    let out = none_counted_of book.seating.players number may.out in
    let his = valid.entries.once number in
    let one = one_owed number (length book.entries) within in
    omega (arith, out, his, one)
