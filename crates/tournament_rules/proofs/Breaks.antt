-- A book is valid once a table broke.
use Rattle.std.proofs.Common.{◌≡◌, ◌∙◌, refl, sym, ap, subst, ℕ, zero, suc, ◌+◌, ◌≤◌, ◌<◌, Bool, true, false, cond, ◌==◌, ◌&&◌, ◌||◌, List, [], ◌∷◌, length, get_or, arith}
use Rattle.std.specs.Prelude.{not, filter, find, count_by, nat_lt, slice_set, is_some, is_none, option_map, Option, Some, None, IsPermutation}
use Rattle.std.specs.List.{list_all, list_any}
use Rattle.std.specs.Option.{option_map_or, ForSome}
use Rattle.std.proofs.lemmas.Bool.{and_parts, or_parts, not-true, eqb-true, and_right}
use Rattle.std.proofs.lemmas.Bool.Decides.{nat_tests}
use Rattle.std.proofs.lemmas.List.Sorted.{sum_by-IsPermutation, list_any-IsPermutation}
use Rattle.rulebook.specs.Pairs.{are_distinct}
use Rattle.rulebook.proofs.Checks.{none_holds}
use Rattle.rulebook.proofs.Passing.{count_by-none, find-filter, find-none, none-filter, none-find}
use Rattle.rulebook.proofs.Tests.{count_by-cons, find-all, find-passes, list_all-both, list_all-follows, none_by_count}
use Rattle.seat_book.specs.declared.place.Place.{Place}
use Rattle.seat_book.specs.declared.seated.Seated.{Seated}
use Rattle.seat_book.specs.declared.table_status.TableStatus.{TableStatus}
use Rattle.seat_book.specs.Places.{is_place_of}
use Rattle.seat_book.specs.Players.{sits_at, sits_in, player_at, player_of, players_at, are_apart}
use Rattle.seat_book.specs.Counts.{count_at}
use Rattle.seat_book.specs.Tables.{fresh_status, status_at, with_status, IsStatusOf}
use Rattle.seat_book.specs.Seatings.{Seating, is_race_pending, is_round_open, is_not_last}
use Rattle.seat_book.proofs.PlaceOrder.{same_place-itself}
use Rattle.balance_rule.specs.declared.balance.Move.{Move}
use Rattle.balance_rule.specs.EmptySeats.{is_empty_seat}
use Rattle.balance_rule.specs.Balance.{reseated, after_move}
use Rattle.balance_rule.specs.Filling.{is_same_place, fill_seats}
use Rattle.balance_rule.proofs.FreeSeats.{empty-nobody}
use Rattle.balance_rule.proofs.Movers.{found-numbered}
use Rattle.break_draw.specs.Draws.{IsDraw, is_draw}
use Rattle.break_draw.proofs.Reorders.{draw-exact}
use Rattle.break_draw.proofs.Chosen.{chosen-places}
use Rattle.break_draw.proofs.FillLaws.{chosen-empty, chosen-apart}
use Rattle.level_plan.specs.Items.{is_between}
use Rattle.level_plan.specs.Plans.{unit_of_level}
use Rattle.tournament_events.specs.declared.event.Event.TheVariants.{Break}
use Rattle.tournament_rules.specs.Books.{BookState, has_table, start_at}
use Rattle.tournament_rules.specs.Checks.{book_checks, book_refusal, is_table_open, is_playing}
use Rattle.tournament_rules.specs.Effects.{with_table, forgotten, broken}
use Rattle.tournament_rules.specs.Moving.{is_called, after_taking, after_all}
use Rattle.tournament_rules.specs.Units.{is_due}
use Rattle.tournament_rules.specs.Valid.{IsValid, is_lent}
use Rattle.tournament_rules.proofs.Passed.{is_so}
use Rattle.tournament_rules.proofs.Ends.{valid_counted}
use Rattle.tournament_rules.proofs.Begins.{all_rest}
use Rattle.tournament_rules.proofs.Fitting.{table_range, status_here, each_status, length-with_status}
use Rattle.tournament_rules.proofs.KeptUnits.{keeps-set, one_unit, starts_kept, units_kept}
use Rattle.tournament_rules.proofs.Moved.{MayMove, moved, book_moved, valid_moved, all-moved, filter-moved}

-- the right fill list of a break, and its places and names in some order
pub record IsDrawn (seating : Seating) (table : ℕ) (places : List Place) (names : List (List ℕ)) : Type 0 where
  pub fill : List Place
  pub is : fill_seats seating table ≡ Some fill
  pub right : IsDraw seating table fill places names

-- What is so of a break that is not refused.
pub record MayBreak (book : BookState) (table : ℕ) (places : List Place) (names : List (List ℕ)) : Type 0 where
  pub opened : is_table_open book table ≡ true
  pub rests : is_playing book table ≡ false
  pub no_race : is_race_pending book.seating ≡ false
  pub last : is_not_last book.seating table ≡ false
  pub drawn : IsDrawn book.seating table places names
  pub no_round : is_round_open book.seating ≡ false

drawn : (seating : Seating) (table : ℕ) (places : List Place) (names : List (List ℕ)) (found : Option (List Place))
    → fill_seats seating table ≡ found
    → option_map_or (λ fill. is_draw seating table fill places names) found false ≡ true
    → IsDrawn seating table places names
drawn seating table places names None is right = absurd cc
drawn seating table places names (Some fill) is right = record {
  fill = fill;
  is = is;
  right = (draw-exact seating table fill places names (is_draw seating table fill places names) refl).0 right;
}

-- A break that the book does not refuse is of the last open table, which rests, and its draw is right.
pub break_passed : (book : BookState) (table : ℕ) (places : List Place) (names : List (List ℕ))
    → book_refusal book (Break table places names) ≡ None → MayBreak book table places names
unfolding book_refusal
break_passed book table places names none =
    let all = none_holds (book_checks book (Break table places names)) none in
    let going = and_parts _ _ all in
    let listed = and_parts _ _ going.1 in
    let rests = and_parts _ _ listed.1 in
    let race = and_parts _ _ rests.1 in
    let last = and_parts _ _ race.1 in
    let room = and_parts _ _ last.1 in
    let right = and_parts _ _ room.1 in
    let round = and_parts _ _ right.1 in
    record {
      opened = is_so _ listed.0;
      rests = not-true _ rests.0;
      no_race = not-true _ race.0;
      last = not-true _ last.0;
      drawn = drawn book.seating table places names (fill_seats book.seating table) refl (is_so _ right.0);
      no_round = not-true _ round.0;
    }

-- What all pass, nobody fails.
all-any : {A : Type 0} (test : A → Bool) (items : List A)
    → list_any (λ item. not (test item)) items ≡ not (list_all test items)
all-any test [] = refl
all-any test (item ∷ items) = by_test (test item) (all-any test items)
  where
    by_test : (b : Bool) → list_any (λ item. not (test item)) items ≡ not (list_all test items)
        → (not b || list_any (λ item. not (test item)) items) ≡ not (b && list_all test items)
    by_test true rest = rest
    by_test false rest = refl

-- What all pass, all pass in any order.
pub all-permuted : {A : Type 0} (test : A → Bool) (items others : List A) → IsPermutation items others
    → list_all test items ≡ true → list_all test others ≡ true
all-permuted test items others same all = by_any (list_all test others) refl
  where
    by_any : (b : Bool) → list_all test others ≡ b → b ≡ true
    by_any true is = refl
    by_any false is =
        let here = all-any test items ∙ ap not all in
        let there = all-any test others ∙ ap not is in
        let alike = list_any-IsPermutation (λ item. not (test item)) items others same in
        sym here ∙ (alike ∙ there)

-- Where no two places are one, each comes once at most.
come_once : (places : List Place) → are_distinct is_same_place places ≡ true → (place : Place)
    → count_by (is_same_place place) places ≤ 1
come_once [] apart place = omega arith
come_once (first ∷ places) apart place =
    let parts = and_parts (list_all (λ other. not (is_same_place first other)) places)
    (are_distinct is_same_place places)
    apart in
    let one = count_by-cons (is_same_place place) first places in
    by_test (is_same_place place first) refl parts.0 one (come_once places parts.1 place)
  where
    another : (a b x y v w : ℕ) → (a == x && b == y) ≡ true → not (x == v && y == w) ≡ true
        → not (a == v && b == w) ≡ true
    another a b x y v w same apart = grind (arith, nat_tests)

    none_else : is_same_place place first ≡ true
        → list_all (λ other. not (is_same_place first other)) places ≡ true
        → count_by (is_same_place place) places ≡ 0
    none_else same apart =
        count_by-none (is_same_place place) places
        (list_all-follows (λ other. not (is_same_place first other)) (λ other. not (is_same_place place other)) places
        (λ other differ. another place.table place.seat first.table first.seat other.table other.seat same differ)
        apart)

    by_test : (b : Bool) → is_same_place place first ≡ b
        → list_all (λ other. not (is_same_place first other)) places ≡ true
        → count_by (is_same_place place) (first ∷ places)
        ≡ cond (is_same_place place first) 1 0 + count_by (is_same_place place) places
        → count_by (is_same_place place) places ≤ 1 → count_by (is_same_place place) (first ∷ places) ≤ 1
    by_test true is apart one rest =
        let here = ap (λ (b : Bool). cond {A = ℕ} b 1 0) is in
        let none = none_else is apart in
        omega (arith, one, here, none)
    by_test false is apart one rest =
        let here = ap (λ (b : Bool). cond {A = ℕ} b 1 0) is in
        omega (arith, one, here, rest)

-- The players of a table that rests may take these places: each is one of the plan's where nobody sits, and none comes
-- twice. The table has no marks, and no race is pending.
pub record MayTake (book : BookState) (table : ℕ) (places : List Place) : Type 0 where
  pub rest : filter (is_lent table) book.seating.players ≡ []
  pub bare : (status_at book.seating.tables table).marks ≡ None
  pub within : list_all (is_place_of book.seating.table_count book.seating.seat_count) places ≡ true
  pub free : list_all (λ place. is_empty_seat book.seating.players place.table place.seat) places ≡ true
  pub once : (place : Place) → count_by (is_same_place place) places ≤ 1
  pub there : is_between 1 book.plan.tables table ≡ true
  pub no_race : is_race_pending book.seating ≡ false

-- A place stays free while somebody takes another.
pub still_free : (players after : List Seated) (place : Place) (places : List Place)
    → ((other : Place) → is_same_place place other ≡ false → player_at players other ≡ None → player_at after other
    ≡ None)
    → list_all (λ other. is_empty_seat players other.table other.seat) places ≡ true
    → list_all (λ other. not (is_same_place place other)) places ≡ true
    → list_all (λ other. is_empty_seat after other.table other.seat) places ≡ true
still_free players after place places keeps free apart =
    list_all-both (λ (other : Place). is_empty_seat players other.table other.seat)
    (λ other. not (is_same_place place other)) (λ other. is_empty_seat after other.table other.seat) places
    (λ other here away. ap is_none (keeps other (not-true _ away) (empty-nobody players other.table other.seat here)))
    free apart

-- Who has a name at a table is found by his number.
pub named-found : (players : List Seated) (table : ℕ) (name : List ℕ) (player : Seated) → are_apart players ≡ true
    → find (is_called name) (players_at players table) ≡ Some player → player_of players player.player ≡ Some player
named-found players table name player apart found =
    found-numbered (λ other. sits_at table other && is_called name other) players player apart
    (sym (find-filter (sits_at table) (is_called name) players) ∙ found)

-- Once the player of a name took a place he has moved there.
pub taking : (seating : Seating) (table : ℕ) (name : List ℕ) (place : Place) (player : Seated)
    → are_apart seating.players ≡ true → find (is_called name) (players_at seating.players table) ≡ Some player
    → after_taking table name place seating ≡ record seating { players = moved place player seating.players }
taking seating table name place player apart found =
    rw (found, named-found seating.players table name player apart found) refl

module _ (book : BookState) (table : ℕ) (name : List ℕ) (place : Place) (places : List Place) (valid : IsValid book)
    (may : MayTake book table (place ∷ places)) where
  -- This is the book once the player of a name at a table took a place.
  abbrev pub taken_book : BookState
  taken_book = record book { seating = after_taking table name place book.seating }

  by_player : (player : Seated) → find (is_called name) (players_at book.seating.players table) ≡ Some player
      → IsValid (book_moved book place player) × MayTake (book_moved book place player) table places
  by_player player found =
      let players = book.seating.players in
      let lawful = valid.tables.lawful in
      let there = sym (find-filter (sits_at table) (is_called name) players) ∙ found in
      let number = named-found players table name player lawful.apart found in
      let sits = (and_parts (sits_at table player) (is_called name player)
      (find-passes (λ other. sits_at table other && is_called name other) players player there)).0 in
      let his_table : player.place.table ≡ table = eqb-true player.place.table table sits in
      let lent = not-true (is_lent table player)
      (find-all (λ other. sits_at table other && is_called name other) (λ other. not (is_lent table other)) players
      player there (none-filter (is_lent table) players may.rest)) in
      let rests : (player.stack == 0) ≡ false = rw sits at lent in
      let within = and_parts (is_place_of book.seating.table_count book.seating.seat_count place)
      (list_all (is_place_of book.seating.table_count book.seating.seat_count) places) may.within in
      let free = and_parts (is_empty_seat players place.table place.seat)
      (list_all (λ place. is_empty_seat players place.table place.seat) places) may.free in
      let may_move : MayMove book player place = record {
        found = number;
        rests = rests;
        within = within.0;
        free = empty-nobody players place.table place.seat free.0;
        keeps = λ marks is.
            let none = ap (λ (n : ℕ). (status_at book.seating.tables n).marks) his_table ∙ may.bare in absurd cc;
        no_race = may.no_race;
        unit = level_unit place.table (listed place within.0)
            ∙ sym (ap (λ (number : ℕ). (status_at book.seating.tables number).unit) his_table
            ∙ level_unit table may.there);
      } in
      let itself = ap (λ (b : Bool). cond {A = ℕ} b 1 0) (same_place-itself place) in
      let first = count_by-cons (is_same_place place) place places in
      let most = may.once place in
      let others : count_by (is_same_place place) places ≡ 0 = omega (arith, itself, first, most) in (
        valid_moved book player place valid may_move,
        record {
          rest = filter-moved place player players lawful.apart number (is_lent table) lent
              (and_right (place.table == table) (player.stack == 0) rests) ∙ may.rest;
          bare = may.bare;
          within = within.1;
          free = still_free players (moved place player players) place places (λ other differ none.
              find-none (sits_in other) (moved place player players)
              (all-moved place player players lawful.apart number (λ seated. not (sits_in other seated))
              (none-find (sits_in other) players none) (ap not differ)))
              free.1 (none_by_count (is_same_place place) places others);
          once = λ other.
              let one = count_by-cons (is_same_place other) place places in
              let most = may.once other in
              omega (arith, one, most);
          there = may.there;
          no_race = may.no_race;
        },
      )
    where
      level_unit : (number : ℕ) → is_between 1 book.plan.tables number ≡ true
          → (status_at book.seating.tables number).unit ≡ unit_of_level book.plan.blinds book.level
      level_unit = one_unit book.plan book.level book.added book.seating.tables book.seating.players valid.units
          may.no_race

      listed : (place : Place) → is_place_of book.seating.table_count book.seating.seat_count place ≡ true
          → is_between 1 book.plan.tables place.table ≡ true
      listed place within = rw (← valid.tables.tables) (and_parts _ _ within).0

  -- A book is valid once the player of a name took a place, and the others may take theirs.
  pub taken : IsValid taken_book × MayTake taken_book table places
  taken = by_find (find (is_called name) (players_at book.seating.players table)) refl
    where
      both : Seating → Type 0
      both seating = IsValid (record book { seating = seating })
          × MayTake (record book { seating = seating }) table places

      by_find : (found : Option Seated) → find (is_called name) (players_at book.seating.players table) ≡ found
          → both (option_map_or (λ move_. after_move move_ book.seating)
          (option_map (λ player. record { player = player.player; from = player.place; to = place }) found)
          book.seating)
      by_find None is =
          let within = and_parts (is_place_of book.seating.table_count book.seating.seat_count place)
          (list_all (is_place_of book.seating.table_count book.seating.seat_count) places) may.within in
          let free = and_parts (is_empty_seat book.seating.players place.table place.seat)
          (list_all (λ place. is_empty_seat book.seating.players place.table place.seat) places) may.free in (
            valid,
            record {
              rest = may.rest;
              bare = may.bare;
              within = within.1;
              free = free.1;
              once = λ other.
                  let one = count_by-cons (is_same_place other) place places in
                  let most = may.once other in
                  omega (arith, one, most);
              there = may.there;
              no_race = may.no_race;
            },
          )
      by_find (Some player) is =
          let players = book.seating.players in
          let number = named-found players table name player valid.tables.lawful.apart is in
          let move_ : Move = record { player = player.player; from = player.place; to = place } in
          let same : reseated move_ (player_of players player.player) players ≡ moved place player players =
          rw number refl in
          subst (λ (ps : List Seated). both (record book.seating { players = ps })) (sym same) (by_player player is)

-- A book is valid once players of a table that rests took places.
valid_all : (book : BookState) (table : ℕ) (names : List (List ℕ)) (places : List Place) → IsValid book
    → MayTake book table places → IsValid (record book { seating = after_all table names places book.seating })
valid_all book table [] places valid may = valid
valid_all book table (name ∷ names) [] valid may = valid
valid_all book table (name ∷ names) (place ∷ places) valid may =
    let first = taken book table name place places valid may in
    valid_all (taken_book book table name place places valid may) table names places first.0 first.1

-- A book is valid once the marks of a table are forgotten.
pub valid_forgotten : (book : BookState) (table : ℕ) → IsValid book → has_table book table ≡ true
    → IsValid (record book { seating = with_table book.seating table forgotten })
valid_forgotten book table valid there =
    let range = table_range 1 book.plan.tables table there in
    let lawful = valid.tables.lawful in
    let count = valid.tables.tables in
    let size = lawful.tables in
    let status = forgotten (status_at book.seating.tables table) in
    let stands = lawful.statuses table in
    let tables = book.seating.tables in
    let last : table ≤ length tables = omega (arith, range.1, count, size) in
    let keeps = keeps-set tables table status range.0 last refl refl in
    record {
      plan = valid.plan;
      entries = valid.entries;
      tables = record {
        lawful = record {
          some_tables = lawful.some_tables;
          most_tables = lawful.most_tables;
          some_seats = lawful.some_seats;
          most_seats = lawful.most_seats;
          tables = length-with_status tables table status ∙ size;
          statuses = λ other. each_status (λ number status. IsStatusOf book.seating.seat_count status) tables table
              status range.0 last (record { marks = λ marks is. absurd cc; unit = stands.unit; race = stands.race })
              other (lawful.statuses other);
          within = lawful.within;
          ordered = lawful.ordered;
          entries = lawful.entries;
          apart = lawful.apart;
        };
        tables = valid.tables.tables;
        seats = valid.tables.seats;
        room = valid.tables.room;
        nobody = valid.tables.nobody;
        playing = λ other. each_status (λ number status. status.playing ≡ is_some (start_at book.started number)) tables
            table status range.0 last (valid.tables.playing table) other (valid.tables.playing other);
      };
      hands = starts_kept book.plan tables
          (with_status tables table status) book.seating.players book.started valid.hands
          keeps.unit;
      chips = valid.chips;
      units = units_kept book.plan book.level book.added tables (with_status tables table status) book.seating.players
          book.seating.players valid.units keeps valid.units.whole valid.units.due;
      marked = λ other. each_status (λ number status. ForSome status.marks
          (λ marks. 1 ≤ count_at book.seating.players number)) tables table status range.0 last
          (λ marks is. absurd cc) other (valid.marked other);
      busts = valid.busts;
      counted = valid.counted;
      raised = valid.raised;
    }

-- the book once the marks of a table are forgotten
abbrev pub bare_book : BookState → ℕ → BookState
bare_book book table = record book { seating = with_table book.seating table forgotten }

-- The players of a table that may break may take the places of the draw, once its marks are forgotten.
pub may_take : (book : BookState) (table : ℕ) (places : List Place) (names : List (List ℕ)) → IsValid book
    → MayBreak book table places names → MayTake (bare_book book table) table places
may_take book table places names valid may =
    let opened = and_parts (has_table book table) (nat_lt 0 (count_at book.seating.players table)) may.opened in
    let range = table_range 1 book.plan.tables table opened.0 in
    let count = valid.tables.tables in
    let size = valid.tables.lawful.tables in
    let fill = may.drawn.fill in
    let there = count_at book.seating.players table in
    let right = may.drawn.right.places in
    record {
      rest = all_rest book table valid may.rests;
      bare = ap (λ (s : TableStatus). s.marks) (status_here book.seating.tables table
          (forgotten (status_at book.seating.tables table)) range.0
          (let last = range.1 in omega (arith, last, count, size)));
      within = all-permuted (is_place_of book.seating.table_count book.seating.seat_count) fill places right
          (chosen-places book.seating table there fill may.drawn.is);
      free = all-permuted (λ
          (place : Place). is_empty_seat book.seating.players place.table place.seat) fill places right
          (chosen-empty book.seating table there fill may.drawn.is);
      once = λ place.
          let one = come_once fill (chosen-apart book.seating table there fill may.drawn.is) place in
          let same = sum_by-IsPermutation (λ (other : Place). cond {A = ℕ} (is_same_place place other) 1 0) fill places
          right in
          omega (arith, one, same);
      there = opened.0;
      no_race =
          let last = range.1 in
          same_race book.seating.tables table (omega (arith, last, count, size)) may.no_race;
    }
  where
    same_race : (tables : List TableStatus) (table : ℕ) → table ≤ length tables → list_any is_due tables ≡ false
        → list_any is_due (with_status tables table (forgotten (status_at tables table))) ≡ false
    same_race tables zero last none = none
    same_race tables (suc below) last none = by_list tables below (omega (arith, last)) none
      where
        by_list : (tables : List TableStatus) (below : ℕ) → below < length tables → list_any is_due tables ≡ false
            → list_any is_due (slice_set tables below (forgotten (get_or tables below fresh_status))) ≡ false
        by_list [] below within none = absurd (omega (arith, within))
        by_list (status ∷ tables) zero within none = none
        by_list (status ∷ tables) (suc below) within none =
            let parts = or_parts (is_due status) (list_any is_due tables) none in
            rw parts.0 (by_list tables below (omega (arith, within)) parts.1)

-- A book is valid once a table broke.
pub valid_broken : (book : BookState) (table : ℕ) (places : List Place) (names : List (List ℕ)) → IsValid book
    → book_refusal book (Break table places names) ≡ None → IsValid (broken book table places names)
valid_broken book table places names valid none =
    let may = break_passed book table places names none in
    let opened = and_parts (has_table book table) (nat_lt 0 (count_at book.seating.players table)) may.opened in
    let bare = bare_book book table in
    let after = valid_all bare table names places (valid_forgotten book table valid opened.0)
    (may_take book table places names valid may) in
    let counted = valid.counted in
    let raised = valid.raised in
    valid_counted (record bare { seating = after_all table names places bare.seating }) (book.accepted + 1) book.stopped
    after (omega (arith, counted)) (omega (arith, raised))
