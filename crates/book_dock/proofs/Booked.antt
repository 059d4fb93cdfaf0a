-- The entries that the book's changes are told by.
use Rattle.std.proofs.Common.{◌≡◌, ◌∙◌, refl, sym, ap, subst, ℕ, ◌+◌, ◌≤◌, true, false, List, [], ◌∷◌, ◌++◌, length, map, arith}
use Rattle.std.specs.Prelude.{Option, Some, None, if◌then◌else◌, is_none, nat_lt, option_map, IsErr, IsErrAnd, Result, Ok, Err}
use Rattle.std.specs.Option.{option_map_or}
use Rattle.card_set.specs.declared.card.CardRow.{CardRow}
use Rattle.card_set.proofs.CardLaws.{same_row}
use Rattle.std.proofs.lemmas.Bool.{and_parts, ltb-true}
use Rattle.std.proofs.lemmas.List.{length-map}
use Rattle.level_plan.specs.Items.{is_between}
use Rattle.seat_book.specs.Counts.{count_at}
use Rattle.floor_text.specs.declared.refusal.Refusal.{Refusal}
use Rattle.table_engine.specs.declared.start.HandStart.{HandStart}
use Rattle.table_engine.specs.declared.record.ActFault.{ActFault}
use Rattle.table_engine.specs.declared.record.ActFault.TheVariants.{No, NoMemory}
use Rattle.table_engine.specs.declared.record.HandRecord.{HandRecord}
use Rattle.table_engine.specs.Acts.{IsAnswer}
use Rattle.table_engine.specs.Plays.{recorded_hand}
use Rattle.table_engine.specs.declared.start.StartSeat.{StartSeat}
use Rattle.table_engine.specs.declared.record.ActOf.{ActOf}
use Rattle.table_engine.specs.Hands.{HandTerms}
use Rattle.table_engine.specs.Results.{players_after, stack_after_hand, with_stack}
use Rattle.table_engine.specs.Starts.{IsLawfulStart}
use Rattle.tournament_events.specs.declared.event.Event.{Event}
use Rattle.tournament_events.specs.declared.event.Event.TheVariants as events
use Rattle.seat_book.specs.declared.place.Place.{Place}
use Rattle.balance_rule.specs.Filling.{empty_elsewhere, fill_seats, lacks_room, names_at}
use Rattle.break_draw.proofs.FillRoom.{without_room-none}
use Rattle.break_draw.specs.declared.random.DrawKind.TheVariants.{Seats, Names}
use Rattle.break_draw.specs.Generator.{drawn_order}
use Rattle.floor_director.specs.DrawnDecks.{deck_drawn}
use Rattle.tournament_rules.specs.Books.{BookState, has_table, start_at}
use Rattle.tournament_rules.specs.Checks.{book_refusal, is_right_draw}
use Rattle.tournament_rules.specs.Dealing.{next_start}
use Rattle.tournament_rules.specs.Effects.{begun_book, book_effect, settled}
use Rattle.tournament_rules.specs.Kinds.{is_order}
use Rattle.tournament_rules.specs.Report.{book_report, empty_report, report_of}
use Rattle.tournament_rules.specs.Valid.{IsValid, IsValidState}
use Rattle.tournament_rules.proofs.Breaks.{MayBreak, break_passed}
use Rattle.tournament_rules.proofs.Steps.{valid_events}
use Rattle.tournament_rules.specs.States.{PlayState, book_after, hand_table}
use Rattle.view_rules.specs.declared.entries.JournalEntry.{JournalEntry}
use Rattle.view_rules.specs.declared.entries.StackLine.{StackLine}
use Rattle.view_rules.specs.Lines.{stack_after}
use Rattle.dock_rules.specs.Journals.{Has, Tale, book_of, entry_told, expand, next_break, next_row, seats_drawn, serial_of, stacks_of, tale_of, with_draws}
use Rattle.dock_rules.specs.Kept.{IsKept, at_rest, owed}
use Rattle.dock_rules.specs.Points.{hand_begun, next_begin, refusal_at}
use Rattle.dock_rules.proofs.Coming.{book-kept, kept-event, refusal-kept}
use Rattle.dock_rules.proofs.Drawing.{next-right}
use Rattle.dock_rules.proofs.JournalTales.{state-told}
use Rattle.dock_rules.proofs.Rooms.{owed-settled}
use Rattle.book_dock.specs.Asked.{IsRefused, rest_lines}
use Rattle.book_dock.proofs.Few.{few-players}

-- The same refusal has the same answers.
pub answer-same : {T : Type 0} (one other : Option Refusal) (result : Result T ActFault) → one ≡ other
    → IsAnswer one result → IsAnswer other result
answer-same one other (Ok value) same is = sym same ∙ is
answer-same one other (Err (No refusal)) same is = sym same ∙ is
answer-same one other (Err NoMemory) same is = sym same ∙ is

-- A refusal that is handed on is the answer.
pub refused-exit : {T : Type 0} (refusal : Option Refusal) (reason : Refusal) (result : Result T ActFault)
    → refusal ≡ Some reason → IsErr result → IsErrAnd result (λ fault. fault ≡ No reason) → IsAnswer refusal result
refused-exit refusal reason (Ok value) is error same = let never : false ≡ true = error in absurd cc
refused-exit {T = T} refusal reason (Err fault) is error same =
    subst (λ (fault : ActFault). IsAnswer {T = T} refusal (Err fault)) (sym same) is

-- So is want of memory where nothing refuses.
pub memory-exit : {T : Type 0} (refusal : Option Refusal) (result : Result T ActFault)
    → refusal ≡ None → IsErr result → IsErrAnd result (λ fault. fault ≡ NoMemory) → IsAnswer refusal result
memory-exit refusal (Ok value) is error same = let never : false ≡ true = error in absurd cc
memory-exit {T = T} refusal (Err fault) is error same =
    subst (λ (fault : ActFault). IsAnswer {T = T} refusal (Err fault)) (sym same) is

-- An answer that is handed on stays one.
pub handed-exit : {T : Type 0} (refusal : Option Refusal) (fault : ActFault) (result : Result T ActFault)
    → IsAnswer {T = T} refusal (Err fault) → IsErr result → IsErrAnd result (λ given. given ≡ fault)
    → IsAnswer refusal result
handed-exit refusal fault (Ok value) is error same = let never : false ≡ true = error in absurd cc
handed-exit {T = T} refusal fault (Err given) is error same =
    subst (λ (fault : ActFault). IsAnswer {T = T} refusal (Err fault)) (sym same) is

module _ (journal : List JournalEntry) (seed : List ℕ) (book : BookState) (kept : IsKept journal seed book) where
  -- The book of the journal's tale.
  pub book-is : book ≡ book_of (tale_of journal)
  book-is = sym (book-kept (tale_of journal) book kept.come)

  -- The row that is drawn by the seed and the number of entries is the next one.
  pub row-is : (row : CardRow) → row.cards ≡ deck_drawn seed (tale_of journal).count → row ≡ next_row (tale_of journal)
  row-is row drawn = same_row row (next_row (tale_of journal))
      (drawn ∙ (λ i. deck_drawn (sym kept.seeded i) (tale_of journal).count))

  -- The book is valid.
  pub valid-is : IsValid book
  valid-is =
      let told = subst IsValidState (sym (state-told journal)) (valid_events (expand journal)) in
      (told.play (at_rest book) kept.come).book

  -- A begin is refused at the journal as the book refuses it.
  pub begin-refusal : (table : ℕ) (row : CardRow) → row ≡ next_row (tale_of journal)
      → book_refusal book (events.Begin table row) ≡ refusal_at (tale_of journal) (next_begin (tale_of journal) table)
  begin-refusal table row drawn =
      ap (λ (row : CardRow). book_refusal book (events.Begin table row)) drawn
      ∙ sym (refusal-kept (tale_of journal) book (next_begin (tale_of journal) table) kept.come refl)

  -- The hand that a begin gives is that of the journal.
  pub hand-is : (table : ℕ) (row : CardRow) → row ≡ next_row (tale_of journal)
      → hand_begun (tale_of journal) table ≡ record { start = next_start book table row.cards; acts = [] }
  hand-is table row drawn =
      sym (λ i. record { start = next_start (book-is i) table (drawn i).cards; acts = [] })

  -- The entry of a begin.
  pub begin-entry : (caller table : ℕ) (row : CardRow) → row ≡ next_row (tale_of journal)
      → entry_told (tale_of journal) caller (next_begin (tale_of journal) table) [] ≡ record {
        caller = caller;
        seed = seed;
        event = events.Begin table row;
        serial = book.begun + 1;
        acts = [];
        stacks = [];
      }
  begin-entry caller table row drawn = sym (λ i. record {
    caller = caller;
    seed = sym kept.seeded i;
    event = events.Begin table (drawn i);
    serial = (book-is i).begun + 1;
    acts = [];
    stacks = [];
  })

  -- So is the one that is made of its parts.
  pub begin-told : (caller table number serial : ℕ) (row : CardRow) (entry : JournalEntry)
      → row ≡ next_row (tale_of journal) → number ≡ table → serial ≡ book.begun + 1
      → entry ≡ record {
        caller = caller;
        seed = seed;
        event = events.Begin number row;
        serial = serial;
        acts = [];
        stacks = [];
      }
      → entry ≡ entry_told (tale_of journal) caller (next_begin (tale_of journal) table) []
  begin-told caller table number serial row entry drawn same counted is =
      is
      ∙ (λ i. record {
        caller = caller;
        seed = seed;
        event = events.Begin (same i) row;
        serial = counted i;
        acts = [];
        stacks = [];
      })
      ∙ sym (begin-entry caller table row drawn)

  -- The journal with a begin more is kept.
  pub begin-kept : (caller table : ℕ) (row : CardRow) → row ≡ next_row (tale_of journal)
      → book_refusal book (events.Begin table row) ≡ None
      → IsKept (journal ++ entry_told (tale_of journal) caller (next_begin (tale_of journal) table) [] ∷ []) seed
      (begun_book book table row.cards)
  begin-kept caller table row drawn free =
      subst (λ (row : CardRow). IsKept
      (journal ++ entry_told (tale_of journal) caller (next_begin (tale_of journal) table) [] ∷ []) seed
      (begun_book book table row.cards)) (sym drawn)
      (kept-event journal seed book caller (next_begin (tale_of journal) table) kept refl refl
      (ap (λ (row : CardRow). book_refusal book (events.Begin table row)) (sym drawn) ∙ free))

  -- What is told of an order.
  order-told : (tale : Tale) (event : Event) → is_order event ≡ true
      → (serial_of tale event ≡ 0)
      × (stacks_of tale event [] ≡ rest_lines event (book_effect (book_of tale) None event))
  order-told tale (events.Plan line) order = absurd cc
  order-told tale events.Go order = absurd cc
  order-told tale (events.Begin table row) order = absurd cc
  order-told tale (events.Act table name act) order = absurd cc
  order-told tale (events.Time table) order = absurd cc
  order-told tale (events.Settle table) order = absurd cc
  order-told tale event order = (refl, refl)

  order-hand : (event : Event) → is_order event ≡ true → hand_table event ≡ None
  order-hand (events.Act table name act) order = absurd cc
  order-hand (events.Time table) order = absurd cc
  order-hand (events.Settle table) order = absurd cc
  order-hand event order = refl

  -- An order is refused at the journal as the book refuses it.
  pub order-refusal : (event : Event) → is_order event ≡ true
      → book_refusal book event ≡ refusal_at (tale_of journal) event
  order-refusal event order =
      sym (refusal-kept (tale_of journal) book event kept.come (order-hand event order))

  -- The entry of an order.
  pub order-entry : (caller : ℕ) (event : Event) → is_order event ≡ true
      → entry_told (tale_of journal) caller event [] ≡ record {
        caller = caller;
        seed = seed;
        event = event;
        serial = 0;
        acts = [];
        stacks = rest_lines event (book_effect book None event);
      }
  order-entry caller event order =
      let told = order-told (tale_of journal) event order in
      sym (λ i. record {
        caller = caller;
        seed = sym kept.seeded i;
        event = event;
        serial = sym told.0 i;
        acts = [];
        stacks = (ap (λ (book : BookState). rest_lines event (book_effect book None event)) book-is ∙ sym told.1) i;
      })

  -- So is the one that is made of its parts.
  pub order-told_so : (caller : ℕ) (event : Event) (stacks : List StackLine) (entry : JournalEntry)
      → is_order event ≡ true → stacks ≡ rest_lines event (book_effect book None event)
      → entry ≡ record { caller = caller; seed = seed; event = event; serial = 0; acts = []; stacks = stacks }
      → entry ≡ entry_told (tale_of journal) caller event []
  order-told_so caller event stacks entry order lines is =
      is
      ∙ (λ i. record { caller = caller; seed = seed; event = event; serial = 0; acts = []; stacks = lines i })
      ∙ sym (order-entry caller event order)

  -- What the book does with an order that nothing refuses is what the order makes of it.
  pub order-done : (event : Event) → book_refusal book event ≡ None
      → book_after book event ≡ book_effect book None event
  order-done event free =
      ap (λ (refusal : Option Refusal). if is_none refusal then book_effect book None event else book) free

  -- The journal with an order more is kept.
  pub order-kept : (caller : ℕ) (event : Event) → is_order event ≡ true → with_draws (tale_of journal) event ≡ event
      → book_refusal book event ≡ None
      → IsKept (journal ++ entry_told (tale_of journal) caller event [] ∷ []) seed (book_effect book None event)
  order-kept caller event order drawn free =
      kept-event journal seed book caller event kept (order-hand event order) drawn free

  -- The next break of a table, by the book's seats.
  drawn-here : ℕ → Event
  drawn-here table = events.Break table (seats_drawn (tale_of journal) (fill_seats book.seating table))
      (drawn_order (tale_of journal).seed Names (tale_of journal).count (names_at book.seating table))

  here-is : (table : ℕ) → drawn-here table ≡ next_break (tale_of journal) table
  unfolding drawn-here
  here-is table = ap (λ (book : BookState). events.Break table
      (seats_drawn (tale_of journal) (fill_seats book.seating table))
      (drawn_order (tale_of journal).seed Names (tale_of journal).count (names_at book.seating table))) book-is

  -- The check of a break by any right draw tells of the next one.
  pub break-checked : {T : Type 0} (table : ℕ) (result : Result T Refusal) → IsValid book
      → ((places : List Place) (names : List (List ℕ))
      → (lacks_room book.seating table ≡ false → is_right_draw book table places names ≡ true)
      → IsRefused (book_refusal book (events.Break table places names)) result)
      → IsRefused (refusal_at (tale_of journal) (next_break (tale_of journal) table)) result
  unfolding drawn-here
  break-checked table result valid checked =
      subst (λ (refusal : Option Refusal). IsRefused refusal result)
      (ap (book_refusal book) (here-is table)
      ∙ sym (refusal-kept (tale_of journal) book (next_break (tale_of journal) table) kept.come refl))
      (checked (seats_drawn (tale_of journal) (fill_seats book.seating table))
      (drawn_order (tale_of journal).seed Names (tale_of journal).count (names_at book.seating table))
      (next-right (tale_of journal) book table valid))

  -- What the checks of a break refuse with, of whatever right draw, is why the next break is refused.
  pub break-refused : (table : ℕ) (reason : Refusal)
      → ((places : List Place) (names : List (List ℕ))
      → (lacks_room book.seating table ≡ false → is_right_draw book table places names ≡ true)
      → book_refusal book (events.Break table places names) ≡ Some reason)
      → refusal_at (tale_of journal) (next_break (tale_of journal) table) ≡ Some reason
  break-refused table reason checked = break-checked {T = ℕ} table (Err reason) valid-is checked

  -- Where they refuse no right draw, nothing refuses the next break.
  pub break-free : (table : ℕ)
      → ((places : List Place) (names : List (List ℕ))
      → (lacks_room book.seating table ≡ false → is_right_draw book table places names ≡ true)
      → book_refusal book (events.Break table places names) ≡ None)
      → refusal_at (tale_of journal) (next_break (tale_of journal) table) ≡ None
  break-free table checked = break-checked {T = ℕ} table (Ok 0) valid-is checked

  -- What is so of the next break of a table where nothing refuses it.
  may-break : (table : ℕ) → refusal_at (tale_of journal) (next_break (tale_of journal) table) ≡ None
      → MayBreak book table (seats_drawn (tale_of journal) (fill_seats (book_of (tale_of journal)).seating table))
      (drawn_order (tale_of journal).seed Names (tale_of journal).count
      (names_at (book_of (tale_of journal)).seating table))
  may-break table free = break_passed book table
      (seats_drawn (tale_of journal) (fill_seats (book_of (tale_of journal)).seating table))
      (drawn_order (tale_of journal).seed Names (tale_of journal).count
      (names_at (book_of (tale_of journal)).seating table))
      (sym (refusal-kept (tale_of journal) book (next_break (tale_of journal) table) kept.come refl) ∙ free)

  -- It is then of a table of the book.
  pub break-there : (table : ℕ) → refusal_at (tale_of journal) (next_break (tale_of journal) table) ≡ None
      → is_between 1 book.seating.table_count table ≡ true
  break-there table free =
      ap (λ (count : ℕ). is_between 1 count table) valid-is.tables.tables
      ∙ (and_parts (has_table book table) (nat_lt 0 (count_at book.seating.players table))
      (may-break table free).opened).0

  -- Its players have seats to take.
  pub break-fills : (table : ℕ) → refusal_at (tale_of journal) (next_break (tale_of journal) table) ≡ None
      → lacks_room book.seating table ≡ true → ⊥
  break-fills table free lacks =
      let none = without_room-none book.seating valid-is.tables.lawful table
      (ltb-true (empty_elsewhere book.seating table) (count_at book.seating.players table) lacks) in
      let some = (may-break table free).drawn.is in
      let never : None ≡ Some (may-break table free).drawn.fill = sym none ∙ some in
      absurd cc

  -- The break that is made of the draw is the next one.
  pub break-made : (table : ℕ) (fill seats : List Place) (names : List (List ℕ))
      → fill_seats book.seating table ≡ Some fill
      → seats ≡ drawn_order seed Seats (tale_of journal).count fill
      → names ≡ drawn_order seed Names (tale_of journal).count (names_at book.seating table)
      → events.Break table seats names ≡ next_break (tale_of journal) table
  unfolding drawn-here
  break-made table fill seats names filled drawn called =
      (λ i. events.Break table
      ((drawn ∙ ((λ j. drawn_order (sym kept.seeded j) Seats (tale_of journal).count fill)
      ∙ ap (seats_drawn (tale_of journal)) (sym filled))) i)
      ((called ∙ (λ j. drawn_order (sym kept.seeded j) Names (tale_of journal).count (names_at book.seating table))) i))
      ∙ here-is table

  -- What is reported of the book is what is reported at the journal.
  pub report-is : book_report book ≡ report_of (tale_of journal).state
  report-is = sym (ap (λ (play : Option PlayState). option_map_or (λ play. book_report play.book) play empty_report)
      kept.come)

  -- The hand that a caller has is out in the book.
  pub has-in_book : (caller : ℕ) (start : HandStart) → Has caller start (tale_of journal) → book.stopped ≡ false
      → (start_at book.started start.table ≡ Some start) × ((tale_of journal).holder start.table ≡ caller)
  has-in_book caller start has going =
      let held = has (sym (ap (λ (book : BookState). book.stopped) book-is) ∙ going) in
      (ap (λ (book : BookState). start_at book.started start.table) book-is ∙ held.0, held.1)

  -- The start of a hand that is out is lawful.
  pub lawful-out : (start : HandStart) → start_at book.started start.table ≡ Some start → IsLawfulStart start
  lawful-out start is = (valid-is.hands.starts start.table start is).lawful

  -- A hand that is out is still to be settled.
  pub owed-one : (start : HandStart) (acts : List ActOf) → book.stopped ≡ false
      → start_at book.started start.table ≡ Some start
      → owed (settled book (record { start = start; acts = acts })) + 1 ≡ owed book
  owed-one start acts going is = owed-settled book (record { start = start; acts = acts }) going is

  -- The players of a hand that is out are few, also after it.
  pub few-after : (done : HandRecord) → start_at book.started done.start.table ≡ Some done.start
      → length (players_after (recorded_hand done)) ≤ 10
  few-after done is =
      let few = few-players done.start (lawful-out done.start is) in
      let hand : HandTerms = recorded_hand done in
      let same = length-map done.start.seats
      (λ (player : StartSeat). with_stack player (stack_after_hand hand player)) in
      omega (arith, few, same)

  -- The entry of a settle.
  pub settle-entry : (caller : ℕ) (done : HandRecord) → start_at book.started done.start.table ≡ Some done.start
      → entry_told (tale_of journal) caller (events.Settle done.start.table) done.acts ≡ record {
        caller = caller;
        seed = seed;
        event = events.Settle done.start.table;
        serial = 0;
        acts = done.acts;
        stacks = map (stack_after done.start.table) (players_after (recorded_hand done));
      }
  settle-entry caller done is =
      let found : start_at (book_of (tale_of journal)).started done.start.table ≡ Some done.start =
      sym (ap (λ (book : BookState). start_at book.started done.start.table) book-is) ∙ is in
      sym (λ i. record {
        caller = caller;
        seed = sym kept.seeded i;
        event = events.Settle done.start.table;
        serial = 0;
        acts = done.acts;
        stacks = option_map_or (λ hand. map (stack_after done.start.table) (players_after hand))
            (option_map (λ start. record { start = start; acts = done.acts }) (sym found i)) [];
      })

  -- So is the one that is made of its parts.
  pub settle-told : (caller : ℕ) (done : HandRecord) (number : ℕ) (stacks : List StackLine) (entry : JournalEntry)
      → start_at book.started done.start.table ≡ Some done.start → number ≡ done.start.table
      → stacks ≡ map (stack_after done.start.table) (players_after (recorded_hand done))
      → entry ≡ record {
        caller = caller;
        seed = seed;
        event = events.Settle number;
        serial = 0;
        acts = done.acts;
        stacks = stacks;
      }
      → entry ≡ entry_told (tale_of journal) caller (events.Settle done.start.table) done.acts
  settle-told caller done number stacks entry out same lines is =
      is
      ∙ (λ i. record {
        caller = caller;
        seed = seed;
        event = events.Settle (same i);
        serial = 0;
        acts = done.acts;
        stacks = lines i;
      })
      ∙ sym (settle-entry caller done out)
