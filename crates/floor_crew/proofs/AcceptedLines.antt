-- Events that are accepted one after another are writable, where whoever enters has a name that a line may hold.
use Rattle.std.proofs.Common.{◌≡◌, ◌∙◌, refl, sym, ap, subst, ℕ, zero, suc, ◌%◌, ◌≤◌, Bool, true, false, List, [], ◌∷◌, ◌++◌, map, length, length-append, get_or, arith}
use Rattle.std.specs.Prelude.{◌&&◌, ◌||◌, not, nat_le, nat_lt, is_some, Contains, Option, Some, None, option_map, option_and_then, if◌then◌else◌}
use Rattle.std.specs.List.{All, list_all, AllByRecursion}
use Rattle.std.specs.Option.{option_map_or}
use Rattle.std.specs.Str.{bytes_eq}
use Rattle.std.proofs.lemmas.Bool.{and_parts, and_from, or_parts}
use Rattle.std.proofs.lemmas.Bool.Decides.{nat_tests}
use Rattle.std.proofs.lemmas.List.{get_or_default, length-map}
use Rattle.std.proofs.lemmas.List.Elements.{recursion_from_All}
use Rattle.std.proofs.lemmas.List.Folds.{list_all-append}
use Rattle.std.proofs.lemmas.List.Sorted.{length_permutation}
use Rattle.std.proofs.lemmas.List.Sums.{length-filter}
use Rattle.std.proofs.lemmas.Option.{same_Some}
use Rattle.std.proofs.lemmas.Slice.Eq.{bytes_eq-Decides}
use Rattle.rulebook.proofs.Tests.{some_there}
use Rattle.floor_text.specs.Names.{is_name}
use Rattle.floor_text.specs.Numbers.{IsLineNumber}
use Rattle.chip_race.proofs.Given.{multiple-le}
use Rattle.level_plan.specs.Items.{are_shares, is_between, is_blind, may_follow}
use Rattle.level_plan.specs.Limits.{greatest_amount, most_levels, most_shares, whole_pool}
use Rattle.level_plan.specs.Drafts.{Draft, is_wrong_line}
use Rattle.level_plan.specs.declared.line.PlanItem.{PlanItem}
use Rattle.level_plan.specs.declared.line.PlanLine.{PlanLine}
use Rattle.level_plan.specs.declared.line.PlanLine.TheVariants as lines
use Rattle.level_plan.specs.declared.plan.Blind.{Blind}
use Rattle.entry_list.specs.Entries.{is_known}
use Rattle.seat_book.specs.declared.place.Place.{Place}
use Rattle.seat_book.specs.Counts.{count_at}
use Rattle.seat_book.specs.Places.{is_place_of}
use Rattle.seat_book.specs.Players.{players_at, sits_at}
use Rattle.seat_book.specs.Seatings.{Seating}
use Rattle.balance_rule.specs.Filling.{filled, names_at}
use Rattle.break_draw.proofs.Room.{filled-last}
use Rattle.line_words.specs.Fields.{HasLineAmount, IsLineName, IsLinePlace}
use Rattle.betting_round.specs.declared.act.Act.{Act}
use Rattle.table_engine.specs.declared.record.ActOf.{ActOf}
use Rattle.table_engine.specs.Hands.{HandTerms}
use Rattle.tournament_events.specs.declared.answer.Answer.{Answer}
use Rattle.tournament_events.specs.declared.answer.Answer.TheVariants.{Ok, No, PlanWrong}
use Rattle.tournament_events.specs.declared.event.Event.{Event}
use Rattle.tournament_events.specs.declared.event.Event.TheVariants as events
use Rattle.floor_events.specs.Spelling.{IsWritable}
use Rattle.tournament_rules.specs.Apart.{hand_refusal}
use Rattle.tournament_rules.specs.Books.{BookState, has_table, start_at}
use Rattle.tournament_rules.specs.Checks.{book_refusal, is_table_open}
use Rattle.tournament_rules.specs.Effects.{book_effect, settled}
use Rattle.tournament_rules.specs.States.{State, PlayState, accepted, acts_at, answer_to, answered, first_state, hand_at, is_accepted, planning_answer, planning_effect, play_effect, refusal_of, state_after}
use Rattle.tournament_rules.specs.Valid.{IsValid, IsValidPlay, IsValidState}
use Rattle.tournament_rules.proofs.Balances.{balance_passed}
use Rattle.tournament_rules.proofs.Begins.{may_begin}
use Rattle.tournament_rules.proofs.Breaks.{break_passed, may_take}
use Rattle.tournament_rules.proofs.Ends.{left-void_first}
use Rattle.tournament_rules.proofs.Entries.{right_has}
use Rattle.tournament_rules.proofs.Fitting.{table_range}
use Rattle.tournament_rules.proofs.MoveLaws.{most_there}
use Rattle.tournament_rules.proofs.Passed.{act_passed, entry_passed, passed-parts, plan_late, reentry_passed, settle_passed, time_passed}
use Rattle.tournament_rules.proofs.Races.{race_passed}
use Rattle.tournament_rules.proofs.Steps.{accepted_none, valid_first_state, valid_state_after}
use Rattle.tournament_laws.specs.Named.{names_in}
use Rattle.tournament_laws.proofs.NamedPlayers.{named_known}
use Rattle.view_rules.specs.declared.entries.JournalEntry.{JournalEntry}
use Rattle.dock_rules.specs.Journals.{IsLegalJournal, act_event, acts_before, are_accepted, events_of, expand}
use Rattle.dock_rules.proofs.Coming.{accepted-in_play}
use Rattle.dock_rules.proofs.JournalTales.{accepted-told}
use Rattle.floor_crew.specs.EnteredNames.{EntersByName}
use Rattle.floor_crew.proofs.AmountsBehind.{amount-small}
use Rattle.floor_crew.proofs.LineParts.{Fits, writable}

-- whether all who entered have names
abbrev are_names : List (List ℕ) → Bool
are_names entries = list_all is_name entries

-- Who is known among names has a name.
known-name : (entries : List (List ℕ)) (name : List ℕ) → are_names entries ≡ true → is_known entries name ≡ true
    → is_name name ≡ true
known-name [] name names known = absurd cc
known-name (first ∷ entries) name names known =
    by_first (bytes_eq name first) refl known (λ later. known-name entries name parts.1 later)
  where
    parts : (is_name first ≡ true) × (are_names entries ≡ true)
    parts = and_parts (is_name first) (are_names entries) names

    by_first : (same : Bool) → bytes_eq name first ≡ same → (same || is_known entries name) ≡ true
        → (is_known entries name ≡ true → is_name name ≡ true) → is_name name ≡ true
    by_first true same known later = ap is_name ((bytes_eq-Decides name first).0 same) ∙ parts.0
    by_first false other known later = later known

names-settled : (book : BookState) (hand : Option HandTerms)
    → (option_map_or (settled book) hand book).entries ≡ book.entries
names-settled book None = refl
names-settled book (Some hand) = refl

-- Whoever entered has a name after an event, where whoever enters by it has one.
names-after : (book : BookState) (hand : Option HandTerms) (event : Event) → EntersByName event
    → are_names book.entries ≡ true → are_names (book_effect book hand event).entries ≡ true
names-after book hand (events.Enter name table seat) enters names =
    list_all-append is_name book.entries (name ∷ []) ∙ and_from _ _ names (and_from _ _ enters refl)
names-after book hand (events.Settle table) enters names = ap are_names (names-settled book hand) ∙ names
names-after book hand events.Stop enters names =
    ap are_names (left-void_first (λ book. book.entries) (record { same = λ book table payees. refl }) book
    book.plan.tables) ∙ names
names-after book hand event enters names = names

-- Whoever entered has a name.
abbrev AreNamed : State → Type 0
AreNamed state = (play : PlayState) → state.play ≡ Some play → are_names play.book.entries ≡ true

no_wrong : (wrong : Bool) (item : PlanItem) → is_accepted (if wrong then PlanWrong item else Ok) ≡ true → wrong ≡ false
no_wrong true item taken = absurd cc
no_wrong false item taken = refl

second : (given one other : Bool) → (given || not (one && other)) ≡ false → one ≡ true
second true one other none = absurd cc
second false true other none = refl
second false false other none = absurd cc

lawful : (given right : Bool) → (given || not right) ≡ false → right ≡ true
lawful true right none = absurd cc
lawful false true none = refl
lawful false false none = absurd cc

amount_small : (given : Bool) (n : ℕ) → (given || nat_lt greatest_amount n) ≡ false → IsLineNumber n
amount_small given n none =
    let few : n ≤ greatest_amount = (let parts = or_parts given (nat_lt greatest_amount n) none in
    let past = parts.1 in grind (arith, nat_tests)) in
    omega (arith, few)

between_small : (given : Bool) (low high n : ℕ) → high ≤ greatest_amount
    → (given || not (is_between low high n)) ≡ false → IsLineNumber n
between_small given low high n most none =
    let range = table_range low high n (lawful given (is_between low high n) none) in
    omega (arith, range.1, most)

blind-fits : (blind : Blind) → is_blind blind ≡ true → Fits (events.Plan (lines.Blinds blind))
blind-fits blind right =
    let small : 1 ≤ blind.small = grind (arith, nat_tests) in
    let below : blind.small ≤ blind.big = grind (arith, nat_tests) in
    let big : blind.big ≤ greatest_amount = grind (arith, nat_tests) in
    let whole : blind.small % blind.unit ≡ 0 = grind (arith, nat_tests) in
    let unit = multiple-le blind.unit blind.small whole small in
    let ante : blind.ante ≤ greatest_amount = grind (arith, nat_tests) in
    (omega (arith, below, big), (omega (arith, big), (omega (arith, unit, below, big), omega (arith, ante))))

shares-fit : (shares : List ℕ) → list_all (is_between 1 whole_pool) shares ≡ true
    → AllByRecursion (λ share. share ≤ whole_pool) shares
shares-fit [] all = tt
shares-fit (share ∷ shares) all =
    let parts = and_parts (is_between 1 whole_pool share) (list_all (is_between 1 whole_pool) shares) all in
    ((table_range 1 whole_pool share parts.0).1, shares-fit shares parts.1)

-- A line of a plan that is not wrong may stand in a line.
plan-fits : (draft : Draft) (line : PlanLine) → is_wrong_line draft line ≡ false → Fits (events.Plan line)
plan-fits draft (lines.Game game) none = tt
plan-fits draft (lines.Tables n) none = between_small (is_some draft.tables) 1 64 n (omega arith) none
plan-fits draft (lines.Seats n) none = between_small (is_some draft.seats) 2 10 n (omega arith) none
plan-fits draft (lines.Stack n) none =
    between_small (is_some draft.stack) 1 greatest_amount n (omega arith) none
plan-fits draft (lines.Buyin n) none = amount_small (is_some draft.buyin) n none
plan-fits draft (lines.Late n) none = between_small (is_some draft.late) 1 most_levels n (omega arith) none
plan-fits draft (lines.Blinds blind) none =
    blind-fits blind (second (nat_le most_levels (length draft.blinds)) (is_blind blind) (may_follow draft.blinds blind)
    none)
plan-fits draft (lines.Limit n) none = between_small (is_some draft.cap) 1 9 n (omega arith) none
plan-fits draft (lines.Shares shares) none =
    let right = lawful (is_some draft.shares) (are_shares shares) none in
    let parts = and_parts (is_between 1 most_shares (length shares)) _ right in
    let each = and_parts (list_all (is_between 1 whole_pool) shares) _ parts.1 in
    let count = table_range 1 most_shares (length shares) parts.0 in
    (count.0, count.1, shares-fit shares each.0)

-- What is accepted before the plan is whole may stand in a line.
planning-fits : (draft : Draft) (event : Event) → is_accepted (planning_answer draft event) ≡ true → Fits event
planning-fits draft (events.Plan line) taken = plan-fits draft line (no_wrong (is_wrong_line draft line) _ taken)
planning-fits draft events.Go taken = tt
planning-fits draft event taken = absurd cc

-- The number of a table is a number of a line.
table-small : (book : BookState) (table : ℕ) → IsValid book → has_table book table ≡ true → IsLineNumber table
table-small book table valid there =
    let range = table_range 1 book.plan.tables table there in
    let most = (right_has book.plan valid.plan.right).most_tables in
    omega (arith, range.1, most)

-- So is that of an open one.
open-small : (book : BookState) (table : ℕ) → IsValid book → is_table_open book table ≡ true → IsLineNumber table
open-small book table valid opened =
    table-small book table valid
    (and_parts (has_table book table) (nat_lt 0 (count_at book.seating.players table)) opened).0

-- As many seats are chosen as are to be filled.
chosen-count : (seating : Seating) (table n : ℕ) (chosen : List Place) → filled seating table n ≡ Some chosen
    → length chosen ≡ n
chosen-count seating table zero chosen is = let none : [] ≡ chosen = cc in ap length (sym none)
chosen-count seating table (suc n) chosen is =
    let last = filled-last seating table n chosen is in
    let before = chosen-count seating table n last.0 last.1.1.0 in
    let all = ap length last.1.1.2 ∙ length-append last.0 (last.1.0 ∷ []) in
    omega (arith, before, all)

places-fit : (tables seats : ℕ) (places : List Place) → tables ≤ 64 → seats ≤ 10
    → list_all (is_place_of tables seats) places ≡ true → AllByRecursion IsLinePlace places
places-fit tables seats [] few_tables few_seats all = tt
places-fit tables seats (place ∷ places) few_tables few_seats all =
    let parts = and_parts (is_place_of tables seats place) (list_all (is_place_of tables seats) places) all in
    let both = and_parts (is_between 1 tables place.table) (is_between 1 seats place.seat) parts.0 in
    let table = table_range 1 tables place.table both.0 in
    let seat = table_range 1 seats place.seat both.1 in (
      record {
        table = record { first = table.0; last = let last = table.1 in omega (arith, last, few_tables) };
        first = seat.0;
        last = let last = seat.1 in omega (arith, last, few_seats);
      },
      places-fit tables seats places few_tables few_seats parts.1,
    )

-- What is so of each item that a list has is so of all.
all-contained : {A : Type 0} (P : A → Type 0) (items : List A) → ((item : A) → Contains items item → P item)
    → AllByRecursion P items
all-contained P items each = recursion_from_All P items
    (λ k d within. each (get_or items k d) (k, within, get_or_default items k (get_or items k d) d within))

-- A break that is accepted may stand in a line.
break-fits : (book : BookState) (table : ℕ) (places : List Place) (names : List (List ℕ)) → IsValid book
    → book_refusal book (events.Break table places names) ≡ None → AllByRecursion IsLineName names
    → Fits (events.Break table places names)
break-fits book table places names valid free named =
    let may = break_passed book table places names free in
    let take = may_take book table places names valid may in
    let seating = book.seating in
    let opened = and_parts (has_table book table) (nat_lt 0 (count_at seating.players table)) may.opened in
    let some : 1 ≤ count_at seating.players table = (let there = opened.1 in grind (arith, nat_tests)) in
    let lawful_seats = valid.tables.lawful.most_seats in
    let most = most_there seating valid.tables.lawful table in
    let chosen = chosen-count seating table (count_at seating.players table) may.drawn.fill may.drawn.is in
    let as_many = length_permutation may.drawn.fill places may.drawn.right.places in
    let there = length_permutation (names_at seating table) names may.drawn.right.players in
    let called : length (names_at seating table) ≡ length (players_at seating.players table) =
    length-map (players_at seating.players table) (λ seated. seated.name) in
    let found = length-filter (sits_at table) seating.players in
    let tables = valid.tables.tables in
    let most_tables_ = (right_has book.plan valid.plan.right).most_tables in (
      table-small book table valid opened.0,
      (
        (
          omega (arith, some, chosen, as_many),
          omega (arith, most, lawful_seats, chosen, as_many),
          places-fit seating.table_count seating.seat_count places (omega (arith, tables, most_tables_)) lawful_seats
              take.within,
        ),
        (
          omega (arith, some, there, called, found),
          omega (arith, most, lawful_seats, there, called, found),
          named,
        ),
      ),
    )

-- An act that is accepted has an amount that may stand in a line.
act-fits : (play : PlayState) (table : ℕ) (name : List ℕ) (act : Act) → IsValidPlay play
    → refusal_of play (events.Act table name act) ≡ None → HasLineAmount act
act-fits play table name act valid free =
    let parts = passed-parts play (events.Act table name act) free in
    let may = act_passed play.book table name act parts.0 in
    let out = some_there (start_at play.book.started table)
    (sym (valid.book.tables.playing table) ∙ may.playing) in
    let hand : HandTerms = record { start = out.0; acts = acts_at play.acts table } in
    let there : hand_at play table ≡ Some hand =
    ap (option_map (λ start. record { start = start; acts = acts_at play.acts table })) out.1 in
    amount-small hand name act (valid.book.hands.starts table out.0 out.1).lawful (valid.plays table hand there)
    (sym (ap (option_and_then (hand_refusal (events.Act table name act))) there) ∙ parts.1)

-- What is accepted once the plan is whole may stand in a line.
playing-fits : (play : PlayState) (event : Event) → IsValidPlay play → EntersByName event
    → refusal_of play event ≡ None → ((name : List ℕ) → Contains (names_in event) name → IsLineName name) → Fits event
playing-fits play (events.Plan line) valid enters free named =
    absurd (plan_late play.book line (passed-parts play (events.Plan line) free).0)
playing-fits play events.Go valid enters free named = tt
playing-fits play (events.Enter name table seat) valid enters free named =
    let book = play.book in
    let may = entry_passed book name table seat (passed-parts play (events.Enter name table seat) free).0 in
    let range = table_range 1 book.plan.seats seat may.buys.within in
    let most = (right_has book.plan valid.book.plan.right).most_seats in
    (enters, (table-small book table valid.book may.buys.there, omega (arith, range.1, most)))
playing-fits play (events.Reenter name table seat) valid enters free named =
    let book = play.book in
    let may = reentry_passed book name table seat (passed-parts play (events.Reenter name table seat) free).0 in
    let range = table_range 1 book.plan.seats seat may.buys.within in
    let most = (right_has book.plan valid.book.plan.right).most_seats in
    (named name (0, omega arith, refl), (table-small book table valid.book may.buys.there, omega (arith, range.1, most)))
playing-fits play (events.Begin table row) valid enters free named =
    table-small play.book table valid.book
    (may_begin play.book table row (passed-parts play (events.Begin table row) free).0).there
playing-fits play (events.Act table name act) valid enters free named = (
  table-small play.book table valid.book
      (act_passed play.book table name act (passed-parts play (events.Act table name act) free).0).there,
  (named name (0, omega arith, refl), act-fits play table name act valid free),
)
playing-fits play (events.Time table) valid enters free named =
    table-small play.book table valid.book
    (time_passed play.book table (passed-parts play (events.Time table) free).0).there
playing-fits play (events.Settle table) valid enters free named =
    table-small play.book table valid.book
    (settle_passed play.book table (passed-parts play (events.Settle table) free).0).there
playing-fits play (events.Balance from to) valid enters free named =
    let may = balance_passed play.book from to (passed-parts play (events.Balance from to) free).0 in
    (open-small play.book from valid.book may.from_open, open-small play.book to valid.book may.to_open)
playing-fits play (events.Break table places names) valid enters free named =
    break-fits play.book table places names valid.book
    (passed-parts play (events.Break table places names) free).0 (all-contained IsLineName names named)
playing-fits play (events.Race table row) valid enters free named =
    open-small play.book table valid.book
    (race_passed play.book table row (passed-parts play (events.Race table row) free).0).opened
playing-fits play event valid enters free named = tt

accepted_ok : (answer : Answer) → is_accepted answer ≡ true → answer ≡ Ok
accepted_ok Ok taken = refl
accepted_ok (No refusal) taken = absurd cc
accepted_ok (PlanWrong item) taken = absurd cc

-- An accepted event may stand in a line, and whoever has entered after it has a name.
record IsLined (state : State) (event : Event) : Type 0 where
  fits : Fits event
  named : AreNamed (state_after state event)

lined : (state : State) (event : Event) → IsValidState state → AreNamed state → EntersByName event
    → is_accepted (answer_to state event) ≡ true → IsLined state event
lined state event valid named enters taken = by_play state.play refl
  where
    after : (state_after state event).play
        ≡ (option_map_or (λ (play : PlayState). record state { play = Some (play_effect play event) }) state.play
        (planning_effect state event)).play
    after = ap (λ (yes : Bool). (if yes then accepted state event else state).play) taken

    planned : (event : Event) → state.play ≡ None → (play : PlayState)
        → (planning_effect state event).play ≡ Some play → are_names play.book.entries ≡ true
    planned events.Go none play is =
        subst (λ (play : PlayState). are_names play.book.entries ≡ true) (same_Some _ play is) refl
    planned event none play is = let never : None ≡ Some play = sym none ∙ is in absurd cc

    by_play : (found : Option PlayState) → state.play ≡ found → IsLined state event
    by_play None none = record {
      fits = planning-fits state.draft event
          (sym (ap (λ (found : Option PlayState).
          is_accepted (option_map_or (λ play. answered (refusal_of play event)) found
          (planning_answer state.draft event))) none) ∙ taken);
      named = λ play is. planned event none play
          (sym (after ∙ ap (λ (found : Option PlayState).
          (option_map_or (λ (play : PlayState). record state { play = Some (play_effect play event) }) found
          (planning_effect state event)).play) none) ∙ is);
    }
    by_play (Some play) is =
        let free = accepted_none (refusal_of play event)
        (sym (ap (λ (found : Option PlayState).
        is_accepted (option_map_or (λ play. answered (refusal_of play event)) found
        (planning_answer state.draft event))) is) ∙ taken) in
        let accept = accepted-in_play state play event is free in
        record {
          fits = playing-fits play event (valid.play play is) enters free
              (λ name has. known-name play.book.entries name (named play is)
              (sym (ap (λ (found : Option PlayState).
              option_map_or (λ play. is_known play.book.entries name) found false) is)
              ∙ named_known state event name valid (accepted_ok (answer_to state event) taken) has));
          named = λ other same.
              subst (λ (play : PlayState). are_names play.book.entries ≡ true)
              (same_Some (play_effect play event) other (sym accept.play_is ∙ same))
              (names-after play.book _ event enters (named play is));
        }

-- So is each event of a list of which each is accepted in its turn.
writable-from : (state : State) (made : List Event) → IsValidState state → AreNamed state
    → are_accepted state made ≡ true → AllByRecursion EntersByName made → AllByRecursion IsWritable made
writable-from state [] valid named all enter = tt
writable-from state (event ∷ made) valid named all enter =
    let parts = and_parts (is_accepted (answer_to state event)) (are_accepted (state_after state event) made) all in
    let here = lined state event valid named enter.0 parts.0 in (
      writable event here.fits,
      writable-from (state_after state event) made (valid_state_after state event valid) here.named parts.1 enter.1,
    )

-- Events of a legal list are writable, where whoever enters has a name that a line may hold.
writable_list : (made : List Event) → are_accepted first_state made ≡ true → AllByRecursion EntersByName made
    → AllByRecursion IsWritable made
writable_list made all enter =
    writable-from first_state made valid_first_state (λ play is. let never : None ≡ Some play = is in absurd cc) all
    enter

act-enters : (table : ℕ) (acts : List ActOf) → AllByRecursion EntersByName (map (act_event table) acts)
act-enters table [] = tt
act-enters table (act ∷ acts) = (by_time act.by_time, act-enters table acts)
  where
    by_time : (timed : Bool) → EntersByName (if timed then events.Time table else events.Act table act.name act.act)
    by_time true = tt
    by_time false = tt

before-enters : (event : Event) (acts : List ActOf) → AllByRecursion EntersByName (acts_before event acts)
before-enters (events.Settle table) acts = act-enters table acts
before-enters event acts = tt

joined : (one other : List Event) → AllByRecursion EntersByName one → AllByRecursion EntersByName other
    → AllByRecursion EntersByName (one ++ other)
joined [] other first all = all
joined (event ∷ one) other first all = (first.0, joined one other first.1 all)

entered : (entries : List JournalEntry) → AllByRecursion (λ (entry : JournalEntry). EntersByName entry.event) entries
    → AllByRecursion EntersByName (expand entries)
entered [] all = tt
entered (entry ∷ entries) all = joined (events_of entry) (expand entries)
    (joined (acts_before entry.event entry.acts) (entry.event ∷ []) (before-enters entry.event entry.acts) (all.0, tt))
    (entered entries all.1)

-- The events of a legal journal are writable, where whoever enters by it has a name that a line may hold.
pub writable_journal : (journal : List JournalEntry) → IsLegalJournal journal
    → All (λ (entry : JournalEntry). EntersByName entry.event) journal → AllByRecursion IsWritable (expand journal)
writable_journal journal legal all = writable_list (expand journal) (accepted-told journal legal.allowed)
    (entered journal (recursion_from_All (λ (entry : JournalEntry). EntersByName entry.event) journal all))
