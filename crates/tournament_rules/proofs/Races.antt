-- A book is valid once the race that is pending at a table is made.
use Rattle.std.proofs.Common.{◌≡◌, ◌∙◌, refl, sym, ap, subst, ℕ, zero, suc, ◌+◌, ◌-◌, ◌*◌, ◌%◌, ◌^◌, ◌<◌, ◌≤◌, Bool, true, false, cond, ◌==◌, ◌&&◌, List, [], ◌∷◌, map, length, get_or, inl, inr, arith}
use Rattle.std.specs.Prelude.{not, filter, sum, sum_by, count_by, nat_lt, unwrap_or, Option, Some, None, is_some}
use Rattle.std.specs.List.{list_all, enumerate_from}
use Rattle.std.specs.Option.{option_map_or, ForSome}
use Rattle.std.proofs.lemmas.Bool.{and_parts, and_from, eqb-true, eqb-false, eq-eqb, ne_eqb, not-true, not_from_false}
use Rattle.std.proofs.lemmas.Bool.Decides.{nat_tests}
use Rattle.std.proofs.lemmas.List.{length-map}
use Rattle.std.proofs.lemmas.List.FromFn.{length-enumerate_from}
use Rattle.std.proofs.lemmas.List.Sums.{sum_by-cons, sum_by-set, sum_by-le, sum_by-le-sum_by}
use Rattle.std.proofs.Math.Nat.{mul-mod_right}
use Rattle.std.proofs.Math.Bool.{and-false}
use Rattle.rulebook.specs.Seats.{walk}
use Rattle.rulebook.specs.Pairs.{is_pairwise}
use Rattle.rulebook.proofs.Checks.{none_holds}
use Rattle.rulebook.proofs.Tests.{eqb-swap, find-all, some_there}
use Rattle.card_set.specs.declared.card.Card.{Card}
use Rattle.card_set.specs.declared.card.CardRow.{CardRow}
use Rattle.card_set.specs.Decks.{IsDeck}
use Rattle.card_set.proofs.DeckLaws.{AllPairs-from_repeats_none}
use Rattle.chip_race.specs.Races.{are_whole, given_value, is_among, winners, awarded_chips, race_result}
use Rattle.chip_race.proofs.Given.{given-one_or_none}
use Rattle.chip_race.proofs.Seats.{is_whole-at}
use Rattle.chip_race.proofs.SeatLaws.{stays_in, stays_empty, chips_change, whole_chips}
use Rattle.seat_book.specs.declared.place.Place.{Place}
use Rattle.seat_book.specs.declared.seated.Seated.{Seated}
use Rattle.seat_book.specs.declared.table_status.TableStatus.{TableStatus}
use Rattle.seat_book.specs.Players.{sits_at, sits_in, player_at}
use Rattle.seat_book.specs.Counts.{count_at}
use Rattle.seat_book.specs.Tables.{fresh_status, status_at, with_status}
use Rattle.seat_book.proofs.TakenSeats.{sits_in_seats, seats_of_places}
use Rattle.balance_rule.proofs.Movers.{found-place}
use Rattle.level_plan.specs.Items.{is_between, is_next_unit}
use Rattle.level_plan.specs.Plans.{unit_of_level}
use Rattle.level_plan.proofs.Levels.{unit_of_level_above}
use Rattle.tournament_events.specs.declared.event.Event.TheVariants.{Race}
use Rattle.tournament_rules.specs.Books.{BookState, has_table, start_at}
use Rattle.tournament_rules.specs.Checks.{book_checks, book_refusal, is_table_open, is_playing}
use Rattle.tournament_rules.specs.Effects.{raced}
use Rattle.tournament_rules.specs.Players.{start_seat, with_rest}
use Rattle.tournament_rules.specs.Racing.{unit_after, raced_off, stack_in, stacks_at, race_at, restacked}
use Rattle.tournament_rules.specs.Units.{IsUnitOf, is_whole_at, AreWhole, is_due}
use Rattle.tournament_rules.specs.Valid.{IsValid, is_lent}
use Rattle.tournament_rules.proofs.BySeats.{ten_seats, player_in, walk-sum, walk-alike, none_later, seats-sum, stacks-at, stacks-sum}
use Rattle.tournament_rules.proofs.Begins.{none_started, all_rest, few_chips}
use Rattle.tournament_rules.proofs.DealtIn.{none_first, nothing_whole}
use Rattle.tournament_rules.proofs.Entries.{right_has}
use Rattle.tournament_rules.proofs.Fitting.{table_range, status_here, status_elsewhere, each_status, seating_changed}
use Rattle.tournament_rules.proofs.Paying.{stack_of}
use Rattle.tournament_rules.proofs.Passed.{is_so}
use Rattle.tournament_rules.proofs.Restacked.{ChangesStacks, count_changed, entered_changed}
use Rattle.tournament_rules.proofs.SitDown.{sits_before, in_order-pairs}
use Rattle.tournament_rules.proofs.Units.{next_times, small_unit}

-- What is so of a race that is not refused.
pub record MayRace (book : BookState) (table : ℕ) (cards : List Card) : Type 0 where
  pub opened : is_table_open book table ≡ true
  pub rests : is_playing book table ≡ false
  pub deck : IsDeck cards
  pub unit : ℕ
  pub due : (status_at book.seating.tables table).race ≡ Some unit

-- A race that the book does not refuse is pending at an open table that rests, and is made with a deck.
pub race_passed : (book : BookState) (table : ℕ) (row : CardRow) → book_refusal book (Race table row) ≡ None
    → MayRace book table row.cards
unfolding book_refusal
race_passed book table row none =
    let all = none_holds (book_checks book (Race table row)) none in
    let going = and_parts _ _ all in
    let listed = and_parts _ _ going.1 in
    let rests = and_parts _ _ listed.1 in
    let deck = and_parts _ _ rests.1 in
    let due = and_parts _ _ deck.1 in
    let found = some_there (status_at book.seating.tables table).race (is_so _ due.0) in
    record {
      opened = is_so _ listed.0;
      rests = not-true _ rests.0;
      deck = record { whole = row.whole; distinct = AllPairs-from_repeats_none row.cards (not-true _ deck.0) };
      unit = found.0;
      due = found.1;
    }

-- A player whose stack the race may change keeps all else.
pub raced-stacks : (table : ℕ) (stacks : List ℕ) → ChangesStacks (restacked table stacks)
raced-stacks table stacks = record { same = λ player. by_test (sits_at table player) player }
  where
    by_test : (b : Bool) (player : Seated)
        → cond b (with_rest player (get_or stacks (player.place.seat - 1) 0)) player
        ≡ with_rest player (cond b (with_rest player (get_or stacks (player.place.seat - 1) 0)) player).stack
    by_test true player = refl
    by_test false player = refl

-- what the players of a table have by its seats
abbrev pub by_seat : List ℕ → Seated → ℕ
by_seat stacks player = get_or stacks (player.place.seat - 1) 0

-- The stacks at rest change by those of the table.
pub rest-raced : (table : ℕ) (stacks : List ℕ) (players : List Seated)
    → sum_by stack_of (map (restacked table stacks) players)
    + sum_by (λ player. cond (sits_at table player) player.stack 0) players
    ≡ sum_by stack_of players + sum_by (λ player. cond (sits_at table player) (by_seat stacks player) 0) players
rest-raced table stacks [] = refl
rest-raced table stacks (player ∷ players) =
    by_test (sits_at table player) _ _ _ _ _ _ _ _ (rest-raced table stacks players)
    (sum_by-cons stack_of (restacked table stacks player) (map (restacked table stacks) players))
    (sum_by-cons (λ (other : Seated). cond (sits_at table other) other.stack 0) player players)
    (sum_by-cons stack_of player players)
    (sum_by-cons (λ (other : Seated). cond (sits_at table other) (by_seat stacks other) 0) player players)
  where
    by_test : (b : Bool) (after here before there rest_after rest_here rest_before rest_there : ℕ)
        → rest_after + rest_here ≡ rest_before + rest_there
        → after ≡ (cond b (with_rest player (by_seat stacks player)) player).stack + rest_after
        → here ≡ cond b player.stack 0 + rest_here
        → before ≡ player.stack + rest_before
        → there ≡ cond b (by_seat stacks player) 0 + rest_there
        → after + here ≡ before + there
    by_test true after here before there rest_after rest_here rest_before rest_there rest one two three four =
        omega (arith, rest, one, two, three, four)
    by_test false after here before there rest_after rest_here rest_before rest_there rest one two three four =
        omega (arith, rest, one, two, three, four)

-- Everyone at a table has something after its race, where everyone had before.
above-raced : (value : ℕ → ℕ) (table : ℕ) (players : List Seated) → is_pairwise sits_before players ≡ true
    → list_all (sits_in_seats 10) players ≡ true → filter (is_lent table) players ≡ []
    → ((seat : ℕ) → 1 ≤ seat → seat ≤ 10 → 0 < stack_in players (record { table = table; seat = seat })
    → 0 < value seat)
    → list_all (λ player. not (sits_at table player && value player.place.seat == 0)) players ≡ true
above-raced value table [] ordered within none keeps = refl
above-raced value table (player ∷ players) ordered within none keeps =
    let apart = and_parts (list_all (sits_before player) players) (is_pairwise sits_before players) ordered in
    let here = and_parts (sits_in_seats 10 player) (list_all (sits_in_seats 10) players) within in
    let lent = none_first (is_lent table) player players none in
    let seat = table_range 1 10 player.place.seat here.0 in
    and_from _ _
    (by_table (sits_at table player) refl lent.0 (keeps player.place.seat seat.0 seat.1))
    (above-raced value table players apart.1 here.1 lent.1
    (λ at low high some. keeps at low high (still at (none_later player players apart.0) some)))
  where
    by_table : (b : Bool) → sits_at table player ≡ b → (b && player.stack == 0) ≡ false
        → (0 < stack_in (player ∷ players) (record { table = table; seat = player.place.seat })
        → 0 < value player.place.seat)
        → not (b && value player.place.seat == 0) ≡ true
    by_table false is lent kept = refl
    by_table true is lent kept =
        let own : stack_in (player ∷ players) (record { table = table; seat = player.place.seat }) ≡ player.stack =
        rw (is, eq-eqb player.place.seat player.place.seat refl) refl in
        let some = eqb-false player.stack 0 lent in
        let now = kept (omega (arith, own, some)) in
        not_from_false (value player.place.seat == 0)
        (ne_eqb (value player.place.seat) 0 (λ nothing. omega (arith, now, nothing)))

    still : (at : ℕ) → player_at players player.place ≡ None
        → 0 < stack_in players (record { table = table; seat = at })
        → 0 < stack_in (player ∷ players) (record { table = table; seat = at })
    still at nobody some = by_tests (sits_at table player) refl (player.place.seat == at) refl
      where
        by_tests : (b : Bool) → sits_at table player ≡ b → (c : Bool) → (player.place.seat == at) ≡ c
            → 0 < option_map_or (λ (player : Seated). player.stack)
            (cond (b && c) (Some player) (player_in players table at)) 0
        by_tests true is true same =
            let one = eqb-true player.place.table table is in
            let two = eqb-true player.place.seat at same in
            let place : player.place ≡ record { table = table; seat = at } =
            λ i. record { table = one i; seat = two i } in
            let none : player_in players table at ≡ None = ap (player_at players) (sym place) ∙ nobody in
            let zero = ap (λ (found : Option Seated). option_map_or (λ player. player.stack) found 0) none in
            absurd (omega (arith, zero, some))
        by_tests true is false differ = some
        by_tests false is c same = some

-- So those who have nothing at rest are who they were.
lent-raced : (stacks : List ℕ) (table other : ℕ) (players : List Seated) → filter (is_lent table) players ≡ []
    → list_all (λ player. not (sits_at table player && by_seat stacks player == 0)) players ≡ true
    → filter (is_lent other) (map (restacked table stacks) players) ≡ filter (is_lent other) players
lent-raced stacks table other [] none above = refl
lent-raced stacks table other (player ∷ players) none above =
    let lent = none_first (is_lent table) player players none in
    let parts = and_parts (not (sits_at table player && by_seat stacks player == 0))
    (list_all (λ player. not (sits_at table player && by_seat stacks player == 0)) players) above in
    by_table (sits_at table player) lent.0 parts.0 (lent-raced stacks table other players lent.1 parts.1)
  where
    by_table : (b : Bool) → (b && player.stack == 0) ≡ false → not (b && by_seat stacks player == 0) ≡ true
        → filter (is_lent other) (map (restacked table stacks) players) ≡ filter (is_lent other) players
        → filter (is_lent other) (cond b (with_rest player (by_seat stacks player)) player
        ∷ map (restacked table stacks) players) ≡ filter (is_lent other) (player ∷ players)
    by_table true before after rest =
        let now = not-true (by_seat stacks player == 0) after in
        let off = and-false (sits_at other player) in
        rw (now, before, off) rest
    by_table false before after rest = rw rest refl

-- Each stack is a multiple of its table's unit.
whole-raced : (tables after : List TableStatus) (table : ℕ) (stacks : List ℕ) (players : List Seated)
    → ((other : ℕ) → (table == other) ≡ false → (status_at after other).unit ≡ (status_at tables other).unit)
    → are_whole (status_at after table).unit stacks ≡ true → length stacks ≡ 10
    → list_all (sits_in_seats 10) players ≡ true → AreWhole tables players
    → AreWhole after (map (restacked table stacks) players)
whole-raced tables after table stacks [] same whole size within all = refl
whole-raced tables after table stacks (player ∷ players) same whole size within all =
    let here = and_parts (sits_in_seats 10 player) (list_all (sits_in_seats 10) players) within in
    let parts = and_parts (is_whole_at tables player) (list_all (is_whole_at tables) players) all in
    let seat = table_range 1 10 player.place.seat here.0 in
    and_from _ _ (by_table (sits_at table player) refl parts.0
    (is_whole-at (status_at after table).unit stacks (player.place.seat - 1) whole (omega
    (arith, size, seat.0, seat.1))))
    (whole-raced tables after table stacks players same whole size here.1 parts.1)
  where
    by_table : (b : Bool) → sits_at table player ≡ b → is_whole_at tables player ≡ true
        → by_seat stacks player % (status_at after table).unit ≡ 0
        → is_whole_at after (cond b (with_rest player (by_seat stacks player)) player) ≡ true
    by_table true is his now =
        let at = eqb-true player.place.table table is in
        ap (λ (number : ℕ). by_seat stacks player % (status_at after number).unit == 0) at ∙ eq-eqb _ 0 now
    by_table false is his now =
        ap (λ (unit : ℕ). player.stack % unit == 0)
        (same player.place.table (eqb-swap table player.place.table ∙ is)) ∙ his

-- A race from the old unit to the new one may be made of these stacks.
pub record CanRace (stacks : List ℕ) (old new : ℕ) : Type 0 where
  pub unit : 1 ≤ old
  pub multiple : new % old ≡ 0
  pub least : 2 * old ≤ new
  pub most : new ≤ 6 * old
  pub whole : are_whole old stacks ≡ true
  pub fits : sum stacks < 2 ^ 53

-- A greater unit that may come next is two to six times the one before.
next_bounds : (before unit : ℕ) → is_next_unit before unit ≡ true → before < unit
    → (2 * before ≤ unit) × (unit ≤ 6 * before)
next_bounds before unit next greater = (grind (arith, nat_tests), grind (arith, nat_tests))

-- The stacks in the seats of a table are whole chips of its unit.
stacks-whole : (tables : List TableStatus) (table : ℕ) (players : List Seated) → AreWhole tables players
    → are_whole (status_at tables table).unit (stacks_at players table) ≡ true
stacks-whole tables table players whole = by_seats ten_seats
  where
    unit : ℕ
    unit = (status_at tables table).unit

    by_player : (seat : ℕ) (found : Option Seated) → player_in players table seat ≡ found
        → (option_map_or (λ player. player.stack) found 0 % unit == 0) ≡ true
    by_player seat None is = nothing_whole unit
    by_player seat (Some player) is =
        let here = found-place players (record { table = table; seat = seat }) player is in
        ap (λ (place : Place). player.stack % (status_at tables place.table).unit == 0) (sym here)
        ∙ find-all (sits_in (record { table = table; seat = seat })) (is_whole_at tables) players player is whole

    by_seats : (seats : List ℕ)
        → are_whole unit (map (λ seat. stack_in players (record { table = table; seat = seat })) seats) ≡ true
    by_seats [] = refl
    by_seats (seat ∷ seats) = and_from _ _ (by_player seat (player_in players table seat) refl) (by_seats seats)

-- There are as many stacks after a race as before.
stacks-length : (stacks : List ℕ) (old new : ℕ) (cards : List Card)
    → length (race_result stacks old new cards).stacks ≡ length stacks
unfolding race_result
stacks-length stacks old new cards =
    length-map (enumerate_from 0 stacks) _ ∙ length-enumerate_from 0 stacks

-- A race adds at most one chip of the new unit for each seat.
added-few : (stacks : List ℕ) (old new : ℕ) (cards : List Card) → 1 ≤ new
    → (race_result stacks old new cards).added ≤ length stacks * new
unfolding race_result
added-few stacks old new cards some =
    let won = winners old new (awarded_chips new stacks) stacks cards in
    let given : ℕ × ℕ → ℕ = λ seat. given_value new (is_among won seat.0) seat.1 in
    let most = sum_by-le given new (enumerate_from 0 stacks)
    (λ k d within. one_chip (is_among won (get_or (enumerate_from 0 stacks) k d).0)
    (get_or (enumerate_from 0 stacks) k d).1) in
    let size = length-enumerate_from 0 stacks in
    subst (λ (count : ℕ). sum_by given (enumerate_from 0 stacks) ≤ count * new) size most
  where
    one_chip : (has_won : Bool) (stack : ℕ) → given_value new has_won stack ≤ new
    one_chip has_won stack = elim (given-one_or_none new has_won stack some) [
      | inl none ↦ omega (arith, none)
      | inr one ↦ omega (arith, one)
    ]

module _ (book : BookState) (table : ℕ) (cards : List Card) (valid : IsValid book)
    (may : MayRace book table cards) where
  abbrev players : List Seated
  players = book.seating.players

  abbrev status : TableStatus
  status = status_at book.seating.tables table

  abbrev before : List ℕ
  before = stacks_at players table

  abbrev after : List ℕ
  after = (race_at book.seating table cards).stacks

  abbrev tables_after : List TableStatus
  tables_after = with_status book.seating.tables table (raced_off status)

  there : is_between 1 book.plan.tables table ≡ true
  there = (and_parts (has_table book table) (nat_lt 0 (count_at players table)) may.opened).0

  range : (1 ≤ table) × (table ≤ length book.seating.tables)
  range =
      let range = table_range 1 book.plan.tables table there in
      let count = valid.tables.tables in
      let size = valid.tables.lawful.tables in
      (range.0, omega (arith, range.1, count, size))

  ordered : is_pairwise sits_before players ≡ true
  ordered = sym (in_order-pairs players) ∙ valid.tables.lawful.ordered

  within : list_all (sits_in_seats 10) players ≡ true
  within = seats_of_places book.seating.table_count book.seating.seat_count 10 players
      valid.tables.lawful.most_seats valid.tables.lawful.within

  own : 1 ≤ status.unit
  own = (valid.tables.lawful.statuses table).unit

  -- The race goes to the level's unit.
  pub new_unit : unit_after status ≡ unit_of_level book.plan.blinds book.level
  new_unit =
      ap (λ (race : Option ℕ). unwrap_or race status.unit) may.due
      ∙ (valid.units.units table there).new may.unit may.due

  pub some_unit : 1 ≤ unit_after status
  some_unit =
      let some = unit_of_level_above book.plan.blinds book.level (right_has book.plan valid.plan.right).levels in
      let same = new_unit in
      omega (arith, some, same)

  size : length after ≡ 10
  size = stacks-length before status.unit (unit_after status) cards

  -- Who had something has something.
  value_above : (seat : ℕ) → 1 ≤ seat → seat ≤ 10 → 0 < stack_in players (record { table = table; seat = seat })
      → 0 < get_or after (seat - 1) 0
  value_above seat low high some =
      let stack = stacks-at players table (seat - 1) (omega (arith, low, high)) in
      let number : seat - 1 + 1 ≡ seat = omega (arith, low) in
      let same = ap (λ (n : ℕ). stack_in players (record { table = table; seat = n })) number in
      stays_in before cards status.unit (unit_after status) (seat - 1) some_unit (omega (arith, low, high))
      (omega (arith, stack, same, some))

  -- Nobody sits where there is nothing.
  value_nobody : (seat : ℕ) → 1 ≤ seat → seat ≤ 10 → player_in players table seat ≡ None
      → get_or after (seat - 1) 0 ≡ 0
  value_nobody seat low high nobody =
      let stack = stacks-at players table (seat - 1) (omega (arith, low, high)) in
      let number : seat - 1 + 1 ≡ seat = omega (arith, low) in
      let same = ap (λ (n : ℕ). stack_in players (record { table = table; seat = n })) number in
      let none = ap (λ (found : Option Seated). option_map_or (λ player. player.stack) found 0) nobody in
      stays_empty before cards status.unit (unit_after status) (seat - 1) own some_unit refl may.deck
      (omega (arith, low, high)) (stack ∙ (same ∙ none))

  -- The stacks after the race are those of the players at the table.
  after_sum : sum after ≡ sum_by (λ player. cond (sits_at table player) (by_seat after player) 0) players
  after_sum =
      let value : ℕ → ℕ = λ seat. get_or after (seat - 1) 0 in
      let walked = walk-sum after 0 value (λ index inside.
      let number : 0 + index + 1 - 1 ≡ index = omega arith in ap (λ (n : ℕ). get_or after n 0) number) in
      let ten = ap (λ (count : ℕ). sum_by value (walk suc count 0)) size in
      sym walked ∙ (ten ∙ (walk-alike 10 0 value (λ seat. option_map_or (by_seat after)
      (player_in players table seat) 0)
      (λ seat low high. by_player seat (omega (arith, low)) (omega (arith, high)) (player_in players table seat) refl)
      ∙ seats-sum (by_seat after) table players ordered within))
    where
      by_player : (seat : ℕ) → 1 ≤ seat → seat ≤ 10 → (found : Option Seated) → player_in players table seat ≡ found
          → get_or after (seat - 1) 0 ≡ option_map_or (by_seat after) found 0
      by_player seat low high None is = value_nobody seat low high is
      by_player seat low high (Some player) is =
          let place = found-place players (record { table = table; seat = seat }) player is in
          ap (λ (place : Place). get_or after (place.seat - 1) 0) (sym place)

  -- The chips at the table change by what the race takes away and gives.
  pub chips-there : sum_by (λ player. cond (sits_at table player) (by_seat after player) 0) players
      + (race_at book.seating table cards).removed
      ≡ sum_by (λ player. cond (sits_at table player) player.stack 0) players + (race_at book.seating table cards).added
  chips-there =
      let here = stacks-sum table players ordered within in
      let now = after_sum in
      let change = chips_change before cards status.unit (unit_after status) in
      omega (arith, here, now, change)

  keeps_lent : (other : ℕ)
      → filter (is_lent other) (map (restacked table after) players) ≡ filter (is_lent other) players
  keeps_lent other =
      let none = all_rest book table valid may.rests in
      lent-raced after table other players none
      (above-raced (λ seat. get_or after (seat - 1) 0) table players ordered within none value_above)

  unit_here : (status_at tables_after table).unit ≡ unit_after status
  unit_here = ap (λ (status : TableStatus). status.unit)
      (status_here book.seating.tables table (raced_off status) range.0 range.1)

  unit_elsewhere : (other : ℕ) → (table == other) ≡ false
      → (status_at tables_after other).unit ≡ (status_at book.seating.tables other).unit
  unit_elsewhere other differ = ap (λ (status : TableStatus). status.unit)
      (status_elsewhere book.seating.tables table other (raced_off status) differ)

  counts : (other : ℕ) → count_at (map (restacked table after) players) other ≡ count_at players other
  counts other = count_changed (sits_at other) (restacked table after) (record { same = λ player stack. refl })
      (raced-stacks table after) players

  fewer_due : count_by is_due tables_after + 1 ≡ count_by is_due book.seating.tables
  fewer_due = by_number table range.0 range.1 may.due
    where
      by_number : (table : ℕ) → 1 ≤ table → table ≤ length book.seating.tables
          → (status_at book.seating.tables table).race ≡ Some may.unit
          → count_by is_due (with_status book.seating.tables table (raced_off
          (status_at book.seating.tables table))) + 1
          ≡ count_by is_due book.seating.tables
      by_number zero first last due = absurd (omega (arith, first))
      by_number (suc below) first last due =
          let sum = sum_by-set (λ (s : TableStatus). cond {A = ℕ} (is_due s) 1 0) book.seating.tables below
          (raced_off (status_at book.seating.tables (suc below))) fresh_status (omega (arith, last)) in
          let one = ap (λ (race : Option ℕ). cond {A = ℕ} (is_some race) 1 0) due in
          omega (arith, sum, one)

  -- What the race is made of is as it needs.
  pub can_race : CanRace before status.unit (unit_after status)
  can_race =
      let to = (valid.units.units table there).from may.unit may.due in
      let times = next_times status.unit may.unit to.next in
      let new : unit_after status ≡ may.unit =
      ap (λ (race : Option ℕ). unwrap_or race status.unit) may.due in
      let bounds = next_bounds status.unit may.unit to.next to.greater in
      let rest = sum_by-le-sum_by (λ (player : Seated). cond (sits_at table player) player.stack 0) stack_of players
      (λ player. at_most (sits_at table player) player.stack) in
      let here = stacks-sum table players ordered within in
      let kept = valid.chips in
      let all = few_chips book valid in
      record {
        unit = own;
        multiple = ap (λ (n : ℕ). n % status.unit) (new ∙ times.1) ∙ mul-mod_right status.unit times.0;
        least = omega (arith, new, bounds.0);
        most = omega (arith, new, bounds.1);
        whole = stacks-whole book.seating.tables table players valid.units.whole;
        fits = omega (arith, rest, here, kept, all);
      }
    where
      at_most : (sits : Bool) (stack : ℕ) → cond sits stack 0 ≤ stack
      at_most true stack = omega arith
      at_most false stack = omega arith

  -- A book is valid once the race that is pending at a table is made.
  pub valid_after : IsValid (raced book table cards)
  valid_after =
      let tables = book.seating.tables in
      let lawful = valid.tables.lawful in
      let stands = lawful.statuses table in
      let unit = unit_of_level book.plan.blinds book.level in
      let none = none_started book table valid may.rests in
      record {
        plan = valid.plan;
        entries = entered_changed book.entries book.reentries players book.busts (restacked table after) (raced-stacks table after)
            valid.entries;
        tables = record {
          lawful = seating_changed book.seating table (raced_off status) (restacked table after) lawful range.0
              (let last = range.1 in let all = lawful.tables in omega (arith, last, all))
              (record { marks = stands.marks; unit = some_unit; race = λ new at. absurd cc })
              (raced-stacks table after);
          tables = valid.tables.tables;
          seats = valid.tables.seats;
          room = valid.tables.room;
          nobody = valid.tables.nobody;
          playing = λ other. each_status
              (λ number status. status.playing ≡ is_some (start_at book.started number)) tables
              table (raced_off status) range.0 range.1 (valid.tables.playing table) other (valid.tables.playing other);
        };
        hands = record {
          starts = λ other start is.
              let began = valid.hands.starts other start is in
              let unit =
              each_status (λ number status. start_at book.started number ≡ Some start → start.blind.unit ≡ status.unit)
              tables table (raced_off status) range.0 range.1 (λ started. absurd cc) other (λ started. began.unit) is in
              record { here = began.here; lawful = began.lawful; seats = began.seats; unit = unit };
          lent = λ other. ap (λ (found : List Seated). map start_seat found) (keeps_lent other)
              ∙ valid.hands.lent other;
        };
        busts = valid.busts;
        chips =
            let kept = valid.chips in
            let rest = rest-raced table after players in
            let there = chips-there in
            omega (arith, kept, rest, there);
        units = record {
          units = λ other listed. each_status (λ number status. is_between 1 book.plan.tables number ≡ true
              → IsUnitOf unit status) tables table (raced_off status) range.0 range.1
              (λ here. record { own = λ none. new_unit; new = λ new at. absurd cc; from = λ new at. absurd cc })
              other (valid.units.units other) listed;
          whole = whole-raced tables tables_after table after players unit_elsewhere
              (ap (λ (unit : ℕ). are_whole unit after) unit_here
              ∙ whole_chips before cards status.unit (unit_after status) some_unit)
              size within valid.units.whole;
          due = λ other. each_status (λ number status. ForSome status.race
              (λ new. 1 ≤ count_at (map (restacked table after) players) number)) tables table (raced_off status)
              range.0 range.1 (λ new at. absurd cc) other
              (λ new at. let one = valid.units.due other new at in let same = counts other in omega (arith, one, same));
          few =
              let few = valid.units.few in
              let fewer = fewer_due in
              let added = added-few before status.unit (unit_after status) cards some_unit in
              let same = new_unit in
              let small = small_unit book.plan.blinds book.level (right_has book.plan valid.plan.right).levels in
              omega (arith, few, fewer, added, same, small);
        };
        marked = λ other. each_status (λ number status. ForSome status.marks
            (λ marks. 1 ≤ count_at (map (restacked table after) players) number)) tables table (raced_off status)
            range.0 range.1
            (λ marks is. let one = valid.marked table marks is in let same = counts table in omega (arith, one, same))
            other
            (λ marks is. let one = valid.marked other marks is in let same = counts other in omega (arith, one, same));
        counted = let counted = valid.counted in omega (arith, counted);
        raised = let raised = valid.raised in omega (arith, raised);
      }

-- A book is valid once a race that is not refused is made.
pub valid_raced : (book : BookState) (table : ℕ) (row : CardRow) → IsValid book
    → book_refusal book (Race table row) ≡ None → IsValid (raced book table row.cards)
valid_raced book table row valid none = valid_after book table row.cards valid (race_passed book table row none)
