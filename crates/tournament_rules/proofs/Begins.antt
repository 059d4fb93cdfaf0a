-- Each hand that begins starts lawfully, and a book is valid once a hand has begun.
use Rattle.std.proofs.Common.{◌≡◌, ◌∙◌, refl, sym, ap, subst, ℕ, zero, suc, ◌+◌, ◌-◌, ◌*◌, ◌^◌, ◌<◌, ◌≤◌, Bool, true, false, ◌==◌, List, [], ◌∷◌, ◌++◌, map, length, arith}
use Rattle.std.specs.Prelude.{not, nat_lt, filter, slice_get, slice_set, unwrap_or, Option, Some, None}
use Rattle.std.specs.List.{list_all}
use Rattle.std.specs.Option.{option_map_or, ForSome}
use Rattle.std.specs.Str.{bytes_eq}
use Rattle.std.proofs.lemmas.Bool.{and_parts, not-true}
use Rattle.std.proofs.lemmas.Bool.Decides.{nat_tests}
use Rattle.std.proofs.lemmas.List.Folds.{list_all-map}
use Rattle.std.proofs.lemmas.Option.{same_Some}
use Rattle.rulebook.proofs.Found.{none-by_test}
use Rattle.rulebook.specs.Pairs.{are_distinct}
use Rattle.rulebook.proofs.Tests.{list_all-filter}
use Rattle.rulebook.proofs.Pairs.{is_pairwise-filter}
use Rattle.rulebook.specs.Limits.{most_entries}
use Rattle.rulebook.proofs.Checks.{none_holds, none_holds-both}
use Rattle.card_set.specs.Decks.{IsDeck, repeats_a_card}
use Rattle.card_set.proofs.DeckLaws.{AllPairs-from_repeats_none}
use Rattle.card_set.specs.declared.card.Card.{Card}
use Rattle.card_set.specs.declared.card.CardRow.{CardRow}
use Rattle.level_plan.specs.Items.{is_between, is_blind}
use Rattle.level_plan.specs.Plans.{no_level, unit_of_level}
use Rattle.level_plan.specs.declared.plan.Blind.{Blind}
use Rattle.level_plan.proofs.Levels.{is_blind_level}
use Rattle.button_blinds.specs.Marks.{AreMarksOf}
use Rattle.button_blinds.proofs.NextMarksLaws.{marks-fit}
use Rattle.seat_book.specs.declared.seated.Seated.{Seated}
use Rattle.seat_book.specs.Counts.{count_at}
use Rattle.seat_book.specs.Players.{sits_at, taken_seats}
use Rattle.seat_book.specs.Tables.{status_at, with_status}
use Rattle.seat_book.proofs.TakenSeats.{sits_in_seats, seats_of_places, taken_count, taken_within}
use Rattle.balance_rule.specs.Halting.{is_halted}
use Rattle.hand_rounds.specs.Rounds.{has_begun}
use Rattle.table_engine.specs.declared.start.HandStart.{HandStart}
use Rattle.table_engine.specs.declared.start.StartSeat.{StartSeat}
use Rattle.table_engine.specs.Starts.{chips_of, have_playable_stacks, IsLawfulStart}
use Rattle.tournament_events.specs.declared.event.Event.TheVariants.{Begin}
use Rattle.tournament_rules.specs.Books.{BookState, has_table, start_at, starters_of, blind_now}
use Rattle.tournament_rules.specs.Players.{start_seat, is_dealt_in, dealt_seats, dealt_in}
use Rattle.tournament_rules.specs.Checks.{book_checks, book_refusal, deck_checks, due_checks, going_checks, is_playing, table_checks}
use Rattle.tournament_rules.specs.Chips.{sold_by}
use Rattle.tournament_rules.specs.Dealing.{next_at, next_start}
use Rattle.tournament_rules.specs.Effects.{playing_from, begun_book}
use Rattle.tournament_rules.specs.Valid.{IsValid, IsPlanned, IsStartAt, is_lent, without_stack}
use Rattle.tournament_rules.proofs.Restacked.{count_changed, entered_changed}
use Rattle.tournament_rules.proofs.Names.{seated_names}
use Rattle.tournament_rules.proofs.Passed.{is_so}
use Rattle.tournament_rules.proofs.Entries.{right_has}
use Rattle.tournament_rules.proofs.Fitting.{table_range, each_status, fitting_changed, starts_changed, play_changed, chips_of_start, due_more, marked_more}
use Rattle.tournament_rules.proofs.KeptUnits.{keeps-set, starts_kept, units_kept}
use Rattle.tournament_rules.proofs.NextMarks.{marks-within}
use Rattle.tournament_rules.proofs.DealtIn.{as_dealt, dealt-stacks, rest-dealt_in, lent-dealt_in, lent_elsewhere-dealt_in, whole-dealt_in, playable-dealt}
use Rattle.tournament_rules.proofs.WhoIsDealt.{numbers_distinct, keys_dealt, rising_dealt, most_dealt, dealt_there}

-- A hand may begin at a table: it is one of the plan's, no hand is played there, two or more sit there, it is not
-- halted, no race is pending there, and it has not begun in a round of hand-for-hand.
pub record MayBegin (book : BookState) (table : ℕ) : Type 0 where
  pub there : is_between 1 book.plan.tables table ≡ true
  pub rests : is_playing book table ≡ false
  pub two : 2 ≤ count_at book.seating.players table
  pub goes : is_halted book.seating table ≡ false
  pub no_race : (status_at book.seating.tables table).race ≡ None
  pub fresh : has_begun book.seating table ≡ false

two_sit : (count : ℕ) → nat_lt 0 count ≡ true → (count == 1) ≡ false → 2 ≤ count
two_sit count some lone = grind (arith, nat_tests)

-- A hand may begin where no check of the event holds.
pub may_begin : (book : BookState) (table : ℕ) (row : CardRow) → book_refusal book (Begin table row) ≡ None
    → MayBegin book table
unfolding book_refusal
may_begin book table row free =
    let all = none_holds (book_checks book (Begin table row)) free in
    let going = and_parts _ _ all in
    let listed = and_parts _ _ going.1 in
    let rests = and_parts _ _ listed.1 in
    let many = and_parts _ _ rests.1 in
    let goes = and_parts _ _ many.1 in
    let race = and_parts _ _ goes.1 in
    let round = and_parts _ _ race.1 in
    let parts = and_parts (has_table book table) (nat_lt 0 (count_at book.seating.players table)) (is_so _ listed.0) in
    record {
      there = parts.0;
      rests = not-true _ rests.0;
      two =
          two_sit (count_at book.seating.players table) parts.1 (not-true _ many.0);
      goes = not-true _ goes.0;
      no_race = none-by_test (status_at book.seating.tables table).race race.0;
      fresh = not-true _ round.0;
    }

-- Where no check of the event holds, no card comes twice in its row.
deck_of_begin : (book : BookState) (table : ℕ) (row : CardRow) → book_refusal book (Begin table row) ≡ None
    → IsDeck row.cards
unfolding book_refusal
deck_of_begin book table row free =
    let after_going = none_holds-both (going_checks book)
    (table_checks book table ++ due_checks book table ++ deck_checks row) free in
    let after_table = none_holds-both (table_checks book table) (due_checks book table ++ deck_checks row)
    after_going.1 in
    let after_due = none_holds-both (due_checks book table) (deck_checks row) after_table.1 in
    let none = and_parts (not (repeats_a_card row.cards)) true (none_holds (deck_checks row) after_due.1) in
    record { whole = row.whole; distinct = AllPairs-from_repeats_none row.cards (not-true _ none.0) }

-- The book has no start for a table where no hand is played.
pub none_started : (book : BookState) (table : ℕ) → IsValid book → is_playing book table ≡ false
    → start_at book.started table ≡ None
none_started book table valid rests =
    none-by_test (start_at book.started table) (ap not (sym (valid.tables.playing table) ∙ rests))

no_items : {A B : Type 0} (f : A → B) (items : List A) → map f items ≡ [] → items ≡ []
no_items f [] none = refl
no_items f (item ∷ items) none = absurd cc

-- Everyone at a table where no hand is played has something at rest.
pub all_rest : (book : BookState) (table : ℕ) → IsValid book → is_playing book table ≡ false
    → filter (is_lent table) book.seating.players ≡ []
all_rest book table valid rests =
    no_items start_seat (filter (is_lent table) book.seating.players)
    (valid.hands.lent table ∙ ap (λ (start : Option HandStart). map without_stack (starters_of start))
    (none_started book table valid rests))

product_small : (entries stack : ℕ) → entries ≤ most_entries → stack ≤ 1000000000 → entries * stack ≤ 640000000000
product_small entries stack few small = grind arith

-- All chips that were sold and given are far from the end of their type.
pub few_chips : (book : BookState) → IsValid book → sold_by book + book.added < 2 ^ 53
few_chips book valid =
    let has = right_has book.plan valid.plan.right in
    let most = product_small (length book.entries + book.reentries) book.plan.stack valid.entries.few has.most_stack in
    let few = valid.units.few in
    let last = valid.plan.last in
    let levels = has.level_count in
    omega (arith, most, few, last, levels)

-- So are the chips of those who are dealt in.
small_dealt : (book : BookState) (table : ℕ) (waiting : List Bool) → IsValid book
    → chips_of (dealt_seats table waiting book.seating.players) < 2 ^ 53
small_dealt book table waiting valid =
    let kept = valid.chips in
    let few = few_chips book valid in
    let gone = rest-dealt_in table waiting book.seating.players in
    omega (arith, kept, few, gone)

level_there : (blinds : List Blind) (index : ℕ) → index < length blinds
    → (blind : Blind) × (slice_get blinds index ≡ Some blind)
level_there [] index within = absurd (omega arith)
level_there (blind ∷ blinds) zero within = (blind, refl)
level_there (blind ∷ blinds) (suc index) within = level_there blinds index (omega arith)

-- The blinds and the unit of the current level are lawful.
pub lawful_blinds : (book : BookState) → IsPlanned book.plan book.level → is_blind (blind_now book) ≡ true
lawful_blinds book planned =
    let first = planned.first in
    let last = planned.last in
    let found = level_there book.plan.blinds (book.level - 1) (omega (arith, first, last)) in
    let lawful = is_blind_level book.plan.blinds (book.level - 1) found.0 (right_has book.plan planned.right).levels
    found.1 in
    rw found.1 lawful

-- The unit of the current level's blinds is that of the level.
pub unit_now : (book : BookState) → (blind_now book).unit ≡ unit_of_level book.plan.blinds book.level
unit_now book = by_find (slice_get book.plan.blinds (book.level - 1))
  where
    by_find : (found : Option Blind)
        → (unwrap_or found no_level).unit ≡ option_map_or (λ blind. blind.unit) found 1
    by_find None = refl
    by_find (Some blind) = refl

-- The unit of the current level's blinds is that of a table where a hand may begin.
pub unit_here : (book : BookState) (table : ℕ) → IsValid book → MayBegin book table
    → (blind_now book).unit ≡ (status_at book.seating.tables table).unit
unit_here book table valid may = unit_now book ∙ sym ((valid.units.units table may.there).own may.no_race)

-- A hand that may begin at a table starts lawfully.
pub lawful_start : (book : BookState) (table : ℕ) (cards : List Card) → IsValid book → MayBegin book table
    → IsDeck cards → IsLawfulStart (next_start book table cards)
lawful_start book table cards valid may deck =
    let players = book.seating.players in
    let waiting = (next_at book table).waiting in
    let lawful = valid.tables.lawful in
    let some : 2 ≤ book.plan.seats = subst (λ (seats : ℕ). 2 ≤ seats) valid.tables.seats lawful.some_seats in
    let most : book.plan.seats ≤ 10 = subst (λ (seats : ℕ). seats ≤ 10) valid.tables.seats lawful.most_seats in
    let seats : list_all (sits_in_seats book.plan.seats) players
    ≡ true = seats_of_places book.seating.table_count book.seating.seat_count book.plan.seats players
    (let same = valid.tables.seats in omega (arith, same)) lawful.within in
    let ten : list_all (sits_in_seats 10) players ≡ true =
    seats_of_places book.seating.table_count book.seating.seat_count 10 players lawful.most_seats lawful.within in
    let counted = taken_count table players lawful.ordered ten in
    let two = may.two in
    let marked = subst (λ (seats : ℕ). ForSome (status_at book.seating.tables table).marks (AreMarksOf seats))
    valid.tables.seats (lawful.statuses table).marks in
    let fit = marks-fit (status_at book.seating.tables table).marks (taken_seats players table) book.plan.seats most
    (taken_within book.plan.seats table players seats) (omega (arith, counted, two)) marked in
    let dealt = most_dealt table waiting players lawful.ordered ten in
    let two_play = fit.two_play in
    let found = filter (is_dealt_in table waiting) players in
    record {
      two = omega (arith, dealt, two_play);
      some_seats = some;
      most_seats = most;
      rising = rising_dealt table waiting players lawful.ordered;
      within = list_all-map (λ (player : StartSeat). is_between 1 book.plan.seats player.seat) start_seat found
          ∙ (sym (list_all-map (is_between 1 book.plan.seats) (λ (player : Seated). player.place.seat) found)
          ∙ list_all-filter (is_between 1 book.plan.seats) (λ (player : Seated). player.place.seat)
          (is_dealt_in table waiting) players
          (list_all-map (is_between 1 book.plan.seats) (λ (player : Seated). player.place.seat) players ∙ seats));
      numbers = ap (are_distinct (λ one other. one == other))
          (keys_dealt (λ player. player.player) (λ player. player.player) (λ player. refl) found)
          ∙ is_pairwise-filter (λ one other. not (one == other)) (λ player. player.player)
          (is_dealt_in table waiting) players (numbers_distinct players lawful.apart);
      entries = list_all-map (λ (player : StartSeat). nat_lt player.player most_entries) start_seat found
          ∙ (sym (list_all-map (λ number. nat_lt number most_entries) (λ (player : Seated). player.player) found)
          ∙ list_all-filter (λ number. nat_lt number most_entries) (λ (player : Seated). player.player)
          (is_dealt_in table waiting) players
          (list_all-map (λ number. nat_lt number most_entries) (λ (player : Seated). player.player) players
          ∙ lawful.entries));
      names = ap (are_distinct bytes_eq) (keys_dealt (λ player. player.name) (λ player. player.name) (λ player. refl)
          found)
          ∙ is_pairwise-filter (λ one other. not (bytes_eq one other)) (λ player. player.name)
          (is_dealt_in table waiting) players
          (seated_names book.entries players valid.entries.names valid.entries.named lawful.apart);
      stacks = ap (λ (unit : ℕ). have_playable_stacks unit (dealt_seats table waiting players))
          (unit_here book table valid may)
          ∙ playable-dealt book.seating.tables table waiting players (all_rest book table valid may.rests)
          valid.units.whole;
      chips = small_dealt book table waiting valid;
      marks = marks-within (status_at book.seating.tables table).marks (taken_seats players table) book.plan.seats
          (omega (arith, some)) marked;
      big = dealt_there table (next_at book table).marks.big waiting players fit.big_sits fit.big_plays;
      small = fit.apart;
      blinds = lawful_blinds book valid.plan;
      deck = deck;
    }

-- Each hand that begins starts lawfully.
pub start_is_lawful : (book : BookState) (table : ℕ) (row : CardRow) → IsValid book
    → book_refusal book (Begin table row) ≡ None → IsLawfulStart (next_start book table row.cards)
start_is_lawful book table row valid free =
    lawful_start book table row.cards valid (may_begin book table row free) (deck_of_begin book table row free)

-- A book is valid once a hand has begun.
pub valid_begun : (book : BookState) (table : ℕ) (row : CardRow) → IsValid book
    → book_refusal book (Begin table row) ≡ None → IsValid (begun_book book table row.cards)
valid_begun book table row valid free =
    let may = may_begin book table row free in
    let players = book.seating.players in
    let next = next_at book table in
    let start = next_start book table row.cards in
    let lawful = lawful_start book table row.cards valid may (deck_of_begin book table row free) in
    let range = table_range 1 book.plan.tables table may.there in
    let count = valid.tables.tables in
    let size = valid.tables.lawful.tables in
    let room = valid.tables.room in
    let within : table < length book.started = omega (arith, range.1, room) in
    let stands = valid.tables.lawful.statuses table in
    let rest = all_rest book table valid may.rests in
    let marks = subst (λ (seats : ℕ). AreMarksOf seats next.marks) (sym valid.tables.seats) lawful.marks in
    let tables = book.seating.tables in
    let status = playing_from next.marks book.seating.hands (status_at tables table) in
    let last : table ≤ length tables = omega (arith, range.1, count, size) in
    let keeps = keeps-set tables table status range.0 last refl refl in
    let sits : (number : ℕ) → count_at (dealt_in table next.waiting players) number ≡ count_at players number =
    λ number. count_changed (sits_at number) (as_dealt table next.waiting) (record { same = λ player stack. refl })
    (dealt-stacks table next.waiting) players in
    record {
      plan = valid.plan;
      entries = entered_changed book.entries book.reentries players book.busts (as_dealt table next.waiting)
          (dealt-stacks table next.waiting)
          valid.entries;
      tables = fitting_changed book.plan book.seating book.started table
          status (Some start) (as_dealt table next.waiting)
          valid.tables may.there
          (record {
            marks = λ found is. subst (AreMarksOf book.seating.seat_count) (same_Some next.marks found is)
                marks;
            unit = stands.unit;
            race = stands.race;
          }) refl (dealt-stacks table next.waiting);
      hands = starts_kept book.plan tables (with_status tables table status) (dealt_in table next.waiting players)
          (slice_set book.started table (Some start))
          (starts_changed book.plan tables players (dealt_in table next.waiting players) book.started table
          (Some start) valid.hands within
          (λ found is. subst (IsStartAt book.plan tables table) (same_Some start found is)
          (record { here = refl; lawful = lawful; seats = refl; unit = unit_here book table valid may }))
          (lent-dealt_in table next.waiting players rest)
          (λ other differ. lent_elsewhere-dealt_in table other next.waiting players differ)) keeps.unit;
      chips =
          let kept = valid.chips in
          let gone = rest-dealt_in table next.waiting players in
          let play = play_changed book.started table (Some start) within in
          let none : chips_of_start (start_at book.started table)
          ≡ 0 = ap chips_of_start (none_started book table valid may.rests) in
          omega (arith, kept, gone, play, none);
      units = units_kept book.plan book.level book.added tables (with_status tables table status) players
          (dealt_in table next.waiting players) valid.units keeps
          (whole-dealt_in tables table next.waiting players valid.units.whole)
          (due_more tables players (dealt_in table next.waiting players) valid.units.due
          (λ number. let same = sits number in omega (arith, same)));
      marked = λ other. each_status (λ number status. ForSome status.marks
          (λ marks. 1 ≤ count_at (dealt_in table next.waiting players) number)) tables table status range.0 last
          (λ marks is. let same = sits table in let two = may.two in omega (arith, same, two)) other
          (marked_more tables players (dealt_in table next.waiting players) valid.marked
          (λ number. let same = sits number in omega (arith, same)) other);
      busts = valid.busts;
      counted = let counted = valid.counted in omega (arith, counted);
      raised = let raised = valid.raised in omega (arith, raised);
    }
