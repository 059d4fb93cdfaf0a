-- The book once a hand has begun, and once one has ended, as its fields are written.
use Rattle.std.proofs.Common.{◌≡◌, ◌∙◌, refl, sym, ap, ◌≤◌, ◌<◌, ℕ, zero, suc, ◌+◌, Bool, true, List, [], ◌∷◌, ◌++◌, length, get_or, map, arith}
use Rattle.std.specs.Prelude.{not, nat_le, ◌&&◌, slice_set, Option, Some, None}
use Rattle.std.specs.List.{list_all}
use Rattle.std.proofs.lemmas.Bool.Decides.{nat_tests}
use Rattle.std.proofs.lemmas.List.{get_or_default, set-get_or}
use Rattle.card_set.specs.declared.card.Card.{Card}
use Rattle.card_set.specs.declared.card.CardRow.{CardRow}
use Rattle.card_set.specs.declared.game.Game.{Game}
use Rattle.level_plan.specs.declared.plan.Blind.{Blind}
use Rattle.level_plan.specs.Items.{is_between}
use Rattle.rulebook.proofs.Passing.{filter-filter}
use Rattle.rulebook.proofs.Tests.{list_all-follows, list_all-kept}
use Rattle.button_blinds.specs.SeatSets.{has_seat}
use Rattle.button_blinds.specs.declared.marks.NextMarks.{NextMarks}
use Rattle.place_list.specs.declared.bust.Bust.{Bust}
use Rattle.seat_book.specs.declared.seated.Seated.{Seated}
use Rattle.seat_book.specs.declared.table_status.TableStatus.{TableStatus}
use Rattle.seat_book.specs.Players.{sits_at, players_at}
use Rattle.seat_book.specs.Tables.{status_at, with_status}
use Rattle.seat_book.specs.Seatings.{Seating, IsSeating, sits_within}
use Rattle.table_engine.specs.declared.start.HandStart.{HandStart}
use Rattle.table_engine.specs.declared.start.StartSeat.{StartSeat}
use Rattle.table_engine.specs.Hands.{HandTerms}
use Rattle.table_engine.specs.Starts.{IsLawfulStart}
use Rattle.table_engine.specs.Results.{players_after}
use Rattle.tournament_events.specs.declared.event.Event.TheVariants.{Begin}
use Rattle.rulebook.specs.Checks.{first_that_holds}
use Rattle.tournament_rules.specs.Books.{BookState, start_at, blind_now}
use Rattle.tournament_rules.specs.Players.{start_seat, dealt_seats, dealt_in, put_back, stayed}
use Rattle.tournament_rules.specs.Dealing.{next_at, next_start}
use Rattle.tournament_rules.specs.Checks.{begin_checks, book_refusal}
use Rattle.tournament_rules.specs.Effects.{with_table, playing_from, at_rest, begun_book, ended, busted_by, bust_of, next_group, settled, void_at, void_first, stopped_book}
use Rattle.tournament_rules.specs.Valid.{IsFitting}
use Rattle.tournament_rules.proofs.Ends.{left-void_first}
use Rattle.floor_book.specs.Pay.{ArePayees}
use Rattle.floor_book.specs.Seats.{has_lawful_seat, dealt_of}

-- The refusal of a hand that is to begin is that of its checks.
pub begin_refusal : (book : BookState) (table : ℕ) (row : CardRow) → book_refusal book (Begin table row)
    ≡ first_that_holds (begin_checks book table row)
unfolding book_refusal
begin_refusal book table row = refl

-- The seats once a table plays and its players are dealt in.
pub seating_begun : (seating played dealt : Seating) (table : ℕ) (next : NextMarks) (hands : Bool)
    (status : TableStatus) → status ≡ status_at seating.tables table
    → played ≡ record seating {
      tables = with_status seating.tables table
          (record status { marks = Some next.marks; playing = true; begun = hands });
    }
    → dealt ≡ record played { players = dealt_in table next.waiting played.players }
    → dealt ≡ record (with_table seating table (playing_from next.marks hands))
    { players = dealt_in table next.waiting seating.players }
seating_begun seating played dealt table next hands status status_is played_is dealt_is = dealt_is
    ∙ rw (played_is, status_is) refl

-- The fields that a begin writes make the book of the definition.
pub begun_state : (book : BookState) (table : ℕ) (cards : List Card) (seating : Seating) (started : List (Option HandStart))
    → seating ≡ record (with_table book.seating table
    (playing_from (next_at book table).marks book.seating.hands))
    { players = dealt_in table (next_at book table).waiting book.seating.players }
    → started ≡ slice_set book.started table (Some (next_start book table cards))
    → record book { seating = seating; started = started; begun = book.begun + 1; accepted = book.accepted + 1 }
    ≡ begun_book book table cards
begun_state book table cards seating started seating_is out_is = rw (seating_is, out_is) refl

-- The fields that an end writes make the book of the definition.
pub ended_state : (book : BookState) (table : ℕ) (payees : List StartSeat) (paid rested : Seating)
    (started : List (Option HandStart)) → paid ≡ record book.seating { players = put_back payees book.seating.players }
    → rested ≡ with_table paid table at_rest → started ≡ slice_set book.started table None
    → record book { seating = rested; started = started } ≡ ended book table payees
ended_state book table payees paid rested started paid_is rested_is out_is = rw (rested_is, paid_is, out_is) refl

-- The fields that a settle writes make the book of the definition.
pub settled_state : (book : BookState) (hand : HandTerms) (payees : List StartSeat) (paid rested left : Seating)
    (busts : List Bust) (started : List (Option HandStart)) (group : ℕ) → payees ≡ players_after hand
    → paid ≡ record book.seating { players = put_back payees book.seating.players } → rested
    ≡ with_table paid hand.start.table at_rest
    → left ≡ record rested { players = stayed (busted_by hand) rested.players }
    → busts ≡ book.busts ++ map (bust_of book.group) (busted_by hand) → started ≡ slice_set book.started hand.start.table None
    → group ≡ next_group book
    → record book {
      seating = left;
      started = started;
      busts = busts;
      group = group;
      accepted = book.accepted + 1;
    } ≡ settled book hand
settled_state book hand payees paid rested left busts started group payees_is paid_is rested_is left_is busts_is out_is
    group_is = rw (left_is, busts_is, rested_is, paid_is, out_is, payees_is, group_is) refl

seat_known : (tables seats at seat : ℕ) → seats ≤ 10
    → ((nat_le 1 at && nat_le at tables) && (nat_le 1 seat && nat_le seat seats)) ≡ true → is_between 1 10 seat ≡ true
seat_known tables seats at seat most there = grind (arith, nat_tests)

-- All who sit at a table sit in a seat that a set of seats knows.
pub lawful_seats : (seating : Seating) (table : ℕ) → IsSeating seating
    → list_all has_lawful_seat (players_at seating.players table) ≡ true
lawful_seats seating table lawful =
    list_all-kept has_lawful_seat (sits_at table) seating.players
    (list_all-follows (sits_within seating.table_count seating.seat_count) has_lawful_seat seating.players
    (λ player there. seat_known seating.table_count seating.seat_count player.place.table player.place.seat
    lawful.most_seats there) lawful.within)

-- Those of a table who do not wait are dealt in.
pub dealt_at : (table : ℕ) (waiting : List Bool) (players : List Seated)
    → dealt_of waiting (players_at players table) ≡ dealt_seats table waiting players
dealt_at table waiting players =
    ap (map start_seat) (filter-filter (sits_at table) (λ player. not (has_seat waiting player.place.seat)) players)

-- The players of a start that is out may be paid.
pub payees_of : (start : HandStart) → IsLawfulStart start → ArePayees start.seats
payees_of start lawful = record { apart = lawful.numbers; entries = lawful.entries }

-- The fields that a void writes make the book of the definition.
pub voided_state : (book : BookState) (table : ℕ) (start : HandStart) → start_at book.started table ≡ Some start
    → ended book table start.seats ≡ void_at book table
voided_state book table start is = rw is refl

-- What is listed for a start makes the start of the definition.
pub start_state : (book : BookState) (table : ℕ) (deck : List Card) (next : NextMarks) (seats : List StartSeat)
    (seat_count begun : ℕ) (blind : Blind) (cap : ℕ) (game : Game) → next ≡ next_at book table
    → seats ≡ dealt_seats table next.waiting book.seating.players → seat_count ≡ book.plan.seats → begun ≡ book.begun
    → blind ≡ blind_now book → cap ≡ book.plan.cap → game ≡ book.plan.game
    → (let start : HandStart = record {
      table = table;
      serial = begun + 1;
      seats = seats;
      seat_count = seat_count;
      marks = next.marks;
      blind = blind;
      cap = cap;
      game = game;
      deck = deck;
    }
    in start)
    ≡ next_start book table deck
start_state book table deck next seats seat_count begun blind cap game next_is seats_is count_is begun_is blind_is
    cap_is game_is = rw (seats_is, next_is, count_is, begun_is, blind_is, cap_is, game_is) refl

-- A start that is taken out of its slot was out at its table.
pub taken_out : (started : List (Option HandStart)) (index table : ℕ) (slot taken : Option HandStart) (start : HandStart)
    → index < length started → index ≡ table → slot ≡ get_or started index slot → taken ≡ slot → taken ≡ Some start
    → start_at started table ≡ Some start
taken_out started index table slot taken start within same slot_is taken_is is =
    ap (λ (table : ℕ). start_at started table) (sym same)
    ∙ (get_or_default started index None slot within ∙ (sym slot_is ∙ (sym taken_is ∙ is)))

-- The book has a place for each of its tables.
pub place_of_table : (book : BookState) (index table : ℕ) → IsFitting book.plan book.seating book.started
    → index ≡ table → table ≤ book.seating.table_count → index < length book.started
place_of_table book index table fits same last = omega (arith, fits.tables, fits.room)

-- Where no start is out at a table, its void leaves the book.
pub voided_none : (book : BookState) (index table : ℕ) (slot taken after : Option HandStart)
    → index < length book.started → index ≡ table → slot ≡ get_or book.started index slot → taken ≡ slot
    → taken ≡ None → after ≡ None → record book { started = slice_set book.started index after } ≡ void_at book table
voided_none book index table slot taken after within same slot_is taken_is none after_is =
    let nobody : start_at book.started index ≡ None =
    get_or_default book.started index None slot within ∙ (sym slot_is ∙ (sym taken_is ∙ none)) in
    let left : slice_set book.started index after ≡ book.started =
    ap (slice_set book.started index) (after_is ∙ sym nobody) ∙ set-get_or book.started index None in
    let there : start_at book.started table ≡ None =
    ap (λ (table : ℕ). start_at book.started table) (sym same) ∙ nobody in
    let state : void_at book table ≡ book = rw there refl in
    ap (λ (started : List (Option HandStart)). record book { started = started }) left ∙ sym state

-- The book has a place for each table of which it keeps a start.
pub kept_within : (started : List (Option HandStart)) (table : ℕ) (start : HandStart)
    → start_at started table ≡ Some start → table < length started
kept_within [] table start is = absurd cc
kept_within (slot ∷ started) zero start is = omega arith
kept_within (slot ∷ started) (suc table) start is = let further = kept_within started table start is in omega
    (arith, further)

-- Voids leave the number of tables.
pub left_count : (book : BookState) (tables : ℕ) → (void_first book tables).seating.table_count
    ≡ book.seating.table_count
left_count book tables =
    left-void_first (λ book. book.seating.table_count) (record { same = λ book table payees. refl }) book tables

-- Voids are no accepted events.
pub left_accepted : (book : BookState) (tables : ℕ) → (void_first book tables).accepted ≡ book.accepted
left_accepted book tables =
    left-void_first (λ book. book.accepted) (record { same = λ book table payees. refl }) book tables

-- The fields that a stop writes make the book of the definition.
pub stopped_state : (book now : BookState) (below : ℕ) → now ≡ void_first book below → below ≡ book.plan.tables
    → record now { stopped = true; accepted = now.accepted + 1 } ≡ stopped_book book
stopped_state book now below now_is all =
    let is : now ≡ void_first book book.plan.tables = now_is ∙ ap (void_first book) all in
    ap (λ (now : BookState). record now { stopped = true; accepted = now.accepted + 1 }) is
    ∙ ap (λ (accepted : ℕ). record (void_first book book.plan.tables) { stopped = true; accepted = accepted + 1 })
    (left_accepted book book.plan.tables)

-- A start that was made for a table and a deck is made for its own.
pub start_of_itself : (book : BookState) (table : ℕ) (cards : List Card) (start : HandStart)
    → start ≡ next_start book table cards → start ≡ next_start book start.table start.deck
start_of_itself book table cards start is =
    is ∙ sym (λ i. next_start book (ap (λ (start : HandStart). start.table) is i)
    (ap (λ (start : HandStart). start.deck) is i))

-- A start's hand makes of the book what its table and its deck do.
pub begun_of_start : (book : BookState) (table : ℕ) (cards : List Card) (start : HandStart)
    → start ≡ next_start book table cards → begun_book book start.table start.deck ≡ begun_book book table cards
begun_of_start book table cards start is =
    λ i. begun_book book (ap (λ (start : HandStart). start.table) is i) (ap (λ (start : HandStart). start.deck) is i)

begun_by_steps : (book : BookState) (table index : ℕ) (cards : List Card) (played dealt : Seating) (next : NextMarks)
    (hands : Bool) (status : TableStatus) (start : HandStart) → index ≡ table → next ≡ next_at book table
    → hands ≡ book.seating.hands → status ≡ status_at book.seating.tables table
    → played ≡ record book.seating {
      tables = with_status book.seating.tables table
          (record status { marks = Some next.marks; playing = true; begun = hands });
    }
    → dealt ≡ record played { players = dealt_in table next.waiting played.players } → start
    ≡ next_start book table cards
    → record book {
      seating = dealt;
      started = slice_set book.started index (Some start);
      begun = book.begun + 1;
      accepted = book.accepted + 1;
    } ≡ begun_book book table cards
begun_by_steps book table index cards played dealt next hands status start index_is next_is hands_is status_is played_is
    dealt_is start_is =
    let seated = seating_begun book.seating played dealt table next hands status status_is played_is dealt_is in
    let here : record (with_table book.seating table (playing_from next.marks hands))
    { players = dealt_in table next.waiting book.seating.players }
    ≡ record (with_table book.seating table (playing_from (next_at book table).marks book.seating.hands))
    { players = dealt_in table (next_at book table).waiting book.seating.players } =
    rw (next_is, hands_is) refl in
    let started : slice_set book.started index (Some start)
    ≡ slice_set book.started table (Some (next_start book table cards)) = rw (index_is, start_is) refl in
    begun_state book table cards dealt (slice_set book.started index (Some start)) (seated ∙ here) started

-- What is done as a hand is put out, step by step, makes the book of the definition.
pub put_out_by_steps : (book now : BookState) (start : HandStart) (index : ℕ) (played dealt : Seating)
    (next : NextMarks) (hands : Bool) (status : TableStatus) → book ≡ now → index ≡ start.table
    → next ≡ next_at now start.table → hands ≡ book.seating.hands
    → status ≡ status_at book.seating.tables start.table
    → played ≡ record book.seating {
      tables = with_status book.seating.tables start.table
          (record status { marks = Some next.marks; playing = true; begun = hands });
    }
    → dealt ≡ record played { players = dealt_in start.table next.waiting played.players }
    → start ≡ next_start now start.table start.deck
    → record book {
      seating = dealt;
      started = slice_set book.started index (Some start);
      begun = book.begun + 1;
      accepted = book.accepted + 1;
    } ≡ begun_book now start.table start.deck
put_out_by_steps book now start index played dealt next hands status seen index_is next_is hands_is status_is played_is
    dealt_is start_is =
    begun_by_steps book start.table index start.deck played dealt next hands status start index_is
    (next_is ∙ sym (ap (λ (book : BookState). next_at book start.table) seen)) hands_is status_is played_is dealt_is
    (start_is ∙ sym (ap (λ (book : BookState). next_start book start.table start.deck) seen))
    ∙ ap (λ (book : BookState). begun_book book start.table start.deck) seen
