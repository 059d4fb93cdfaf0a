-- What the events of a tournament come of that was held at doors: the lines that were said at them.
use Rattle.std.proofs.Common.{◌≡◌, ◌∙◌, refl, sym, ap, subst, ◌==◌, ℕ, zero, suc, ◌+◌, ◌<◌, ◌≤◌, Bool, true, List, [], ◌∷◌, ◌++◌, Option, Some, None, length, map, arith}
use Rattle.std.specs.Prelude.{◌||◌, All, Any, IfSome, filter, option_map, option_to_list, slice_get, slice_index_or, vec_len}
use Rattle.std.specs.List.{AllByRecursion, AllZip, cons_option, filter_map, flat_map}
use Rattle.std.specs.Option.{option_map_or}
use Rattle.std.proofs.lemmas.Bool.{or_right}
use Rattle.std.proofs.lemmas.Bool.Decides.{nat_tests}
use Rattle.std.proofs.lemmas.List.{map-append}
use Rattle.std.proofs.lemmas.List.Elements.{All-map, All-pop, All-weaker, recursion_from_All}
use Rattle.std.proofs.lemmas.Option.{slice_get-map, slice_get_within}
use Rattle.std.proofs.lemmas.Slice.Zip.{AllZip-long}
use Rattle.history_lock.specs.Entries.{IsGrownByPasses, entries_by}
use Rattle.history_lock.specs.Passes.{own, pass_number, seen}
use Rattle.history_lock.specs.declared.pass.Pass.{Pass}
use mathlib.Core.List.{IsPrefix}
use Rattle.level_plan.specs.Plans.{PlanTerms}
use Rattle.plan_files.specs.Words.{WordTerms}
use Rattle.links.specs.Telling.{DoorTelling, Telling}
use Rattle.view_rules.specs.declared.entries.JournalEntry.{JournalEntry}
use Rattle.view_rules.specs.declared.entries.TableEntry.{TableEntry}
use Rattle.view_rules.specs.declared.entries.TableEntry.TheVariants.{Opened, Acted, Closed}
use Rattle.dock_rules.specs.Journals.{expand, journal_caller, tale_of}
use Rattle.dock_rules.specs.Tables.{table_caller}
use Rattle.dock_rules.proofs.JournalTales.{legal-before, tale_append}
use Rattle.table_dock.specs.contracts.hold.TableHoldGrows.TheImpl as of_table_dock
use Rattle.table_dock.specs.declared.hold.TableHold.{TableHold}
use Rattle.table_worker.specs.Ties.{IsBrought, is_act}
use Rattle.book_dock.specs.Docks.{book_passes}
use Rattle.book_dock.specs.Opening.{opening}
use Rattle.session_desk.specs.Desks.{AreInOrder, acted_at, numbers_of, of_table, sights}
use Rattle.session_desk.specs.Moves.{HasMoved}
use Rattle.session_desk.specs.Standings.{first_standing}
use Rattle.session_desk.specs.Talks.{Served, WasServed, brought_in}
use Rattle.session_desk.proofs.Rows.{has-index, if-some}
use Rattle.floor_crew.specs.declared.floor.Floor.{Floor}
use Rattle.floor_crew.specs.declared.jobs.Attended.{Attended}
use Rattle.floor_crew.specs.declared.jobs.Work.{Work}
use Rattle.floor_crew.specs.declared.passes.Passes.{Passes}
use Rattle.floor_crew.specs.AtHand.{AreMakers}
use Rattle.floor_crew.specs.Closed.{HasClosed}
use Rattle.floor_crew.specs.Asks.{LineSaid, asks_at, asks_told}
use Rattle.floor_crew.specs.Wishes.{WasAsked, Wish, is_move_wished, unowed, wish_of, wish_said}
use Rattle.floor_crew.specs.Working.{HasAttended, HasDone, IsWorkAt}
use Rattle.floor_crew.proofs.AskedAtDoors.{both-parts, brought-weight, door-asked}
use Rattle.floor_crew.proofs.AskedFor.{brought_weight, event_weight, log-asked, log_weight, said_weight}
use Rattle.floor_crew.proofs.AskedHands.{table_weight, whole_weight, worker-weight}
use Rattle.floor_crew.proofs.AskedJournals.{AreRising, DeskBrief, IsBriefOf, IsTableOf, WorkBrief, is_among, journal-weight}
use Rattle.floor_crew.proofs.BackAt.{desk-at, table-is, work-at}
use Rattle.floor_crew.proofs.Callers.{Book}
use Rattle.floor_crew.proofs.DeskOrders.{desk-none}
use Rattle.floor_crew.proofs.HeldRuns.{runs_of}
use Rattle.floor_crew.proofs.NamedMoves.{move_wished}
use Rattle.floor_crew.proofs.OpenedLocks.{Row}
use Rattle.floor_crew.proofs.UnowedHeld.{desks-unowed, journal-unowed, works-unowed}
use Rattle.floor_crew.proofs.UnowedMoves.{bad_in}
use Rattle.floor_crew.proofs.Weights.{count-weigh, one_if, weigh, weigh-append, weigh-filter_map, weigh-map}
use Rattle.floor_crew.proofs.Zipped.{all-at, all-from, if-found, zip-at}

-- A pass of a table.
abbrev TablePass : Type 0
TablePass = Pass TableHold TableEntry of_table_dock.ghosts

-- the number of a pass
abbrev number_of : TablePass → ℕ
number_of pass = pass_number pass

abbrev book_number : Book → ℕ
book_number pass = pass_number pass

module _ {A : Type 0} (number : A → ℕ) where
  -- Where some item has a number, the number is among theirs.
  any-among : (items : List A) (k index : ℕ) (item : A) → index < length items → slice_index_or items index item ≡ item
      → number item ≡ k → is_among (map number items) k ≡ true
  any-among [] k index item within is holds = absurd (omega (arith, within))
  any-among (first ∷ items) k zero item within is holds =
      let same : number first ≡ k = ap number is ∙ holds in
      let here : (k == number first) ≡ true = grind (arith, nat_tests) in
      ap (λ (so : Bool). so || is_among (map number items) k) here
  any-among (first ∷ items) k (suc index) item within is holds =
      or_right (k == number first) (is_among (map number items) k)
      (any-among items k index item (omega (arith, within)) is holds)

-- Numbers that are those of their places rise.
rising-from : (least : ℕ) (numbers : List ℕ)
    → ((index n : ℕ) → slice_get numbers index ≡ Some n → n ≡ least + index) → AreRising least numbers
rising-from least [] each = tt
rising-from least (n ∷ numbers) each =
    let first : n ≡ least = let here = each 0 n refl in omega (arith, here) in (
      omega (arith, first),
      rising-from (n + 1) numbers
          (λ index m at. let here = each (suc index) m at in omega (arith, here, first)),
    )

-- Entries of which none is an act weigh nothing.
no-acts : (f : Wish → ℕ) (table : ℕ) (history : List TableEntry) → filter is_act history ≡ []
    → weigh (table_weight f table) history ≡ 0
no-acts f table [] none = refl
no-acts f table (Opened start ∷ history) none = let later = no-acts f table history none in omega (arith, later)
no-acts f table (Acted caller act ∷ history) none = absurd cc
no-acts f table (Closed ∷ history) none = let later = no-acts f table history none in omega (arith, later)

module _ {D L : Type 0} (door_told : D → Option (DoorTelling L)) (door_faults : D → ℕ)
    (link_told : L → Option Telling) (link_faults : L → ℕ) (words : WordTerms) (floor : Floor) where
  abbrev Has : D → Attended D → Type 0
  Has door one = HasAttended floor door_told door_faults link_told link_faults words door one

  abbrev brief_of : (door : D) (one : Attended D) → Has door one → DeskBrief
  brief_of door one its = record {
    book = pass_number one.desk.book;
    tables = (numbers_of one.desk).tables;
    brought = brought_in (flat_map (λ (s : Served L). s.log) its.worked.sessions);
  }

  -- the desks in brief
  abbrev pub briefs : (doors : List D) (attended : List (Attended D)) → AllZip Has doors attended → List DeskBrief
  briefs [] attended each = []
  briefs (door ∷ doors) [] each = []
  briefs (door ∷ doors) (one ∷ attended) each = brief_of door one each.0 ∷ briefs doors attended each.1

  -- What the desks brought was asked for at the doors.
  briefs-asked : (f : Wish → ℕ) (doors : List D) (attended : List (Attended D)) (each : AllZip Has doors attended)
      (said : List LineSaid) → asks_at door_told link_told words (runs_of doors attended) ≡ Some said
      → weigh (λ (desk : DeskBrief). brought_weight f desk.brought) (briefs doors attended each)
      ≤ weigh (said_weight f) said
  briefs-asked f [] attended each said is = omega arith
  briefs-asked f (door ∷ doors) [] each said is = omega arith
  briefs-asked f (door ∷ doors) (one ∷ attended) each said is =
      let its = each.0 in
      let worked = its.worked in
      let parts = both-parts (asks_told link_told words (door_told door) (door_told one.door))
      (asks_at door_told link_told words (runs_of doors attended)) said is in
      let later = briefs-asked f doors attended each.1 parts.second parts.other_is in
      let here = door-asked words (vec_len floor.docks) (log_weight f) (said_weight f)
      (λ numbers start front last are going.
      log-asked f words (vec_len floor.docks) numbers start first_standing [] front last refl are going) link_told
      link_faults (numbers_of its.start)
      (sights its.start) (sights one.desk) (door_told door) (door_told one.door) worked.sessions parts.first
      (recursion_from_All (WasServed link_told link_faults words (vec_len floor.docks) (numbers_of its.start)
      (sights its.start) (sights one.desk)) worked.sessions worked.each) worked.door parts.one_is in
      let same = brought-weight f worked.sessions in
      let all : weigh (said_weight f) said ≡ weigh (said_weight f) (parts.first ++ parts.second) =
      ap (weigh (said_weight f)) parts.all_is in
      let sum = weigh-append (said_weight f) parts.first parts.second in
      omega (arith, later, here, same, all, sum)

  module _ (f : Wish → ℕ) (journal : List JournalEntry) (histories : ℕ → List TableEntry) where
    -- The orders of each desk are those that its pass made.
    briefs-books : (doors : List D) (attended : List (Attended D)) (each : AllZip Has doors attended)
        → AllByRecursion (λ (one : Attended D).
        entries_by journal_caller (pass_number one.desk.book) journal ≡ own one.desk.book) attended
        → AllByRecursion (IsBriefOf f journal histories) (briefs doors attended each)
    briefs-books [] attended each has = tt
    briefs-books (door ∷ doors) [] each has = tt
    briefs-books (door ∷ doors) (one ∷ attended) each has =
        let its = each.0 in
        let worked = its.worked in
        let orders = (brought_in (flat_map (λ (s : Served L). s.log) worked.sessions)).orders in (
          record {
            orders = has.0
                ∙ (worked.moved.book.own_after ∙ ap (λ (l : List JournalEntry). l ++ orders) its.none_at_book);
            none_settled = desk-none link_told link_faults words (vec_len floor.docks) (numbers_of its.start)
                (sights its.start) (sights one.desk) worked.sessions
                (recursion_from_All (WasServed link_told link_faults words (vec_len floor.docks)
                (numbers_of its.start) (sights its.start) (sights one.desk)) worked.sessions worked.each);
          },
          briefs-books doors attended each.1 has.1,
        )

    module _ (index : ℕ) (within : index < length floor.docks.items) where
      -- the passes that the desks have of a table
      abbrev theirs : List (Attended D) → List TablePass
      theirs attended = filter_map (λ (one : Attended D). of_table one.desk.tables.items (suc index)) attended

      -- Each desk has a pass of it.
      briefs-numbers : (doors : List D) (attended : List (Attended D)) (each : AllZip Has doors attended)
          → map number_of (theirs attended)
          ≡ map (λ (desk : DeskBrief). desk.tables (suc index)) (briefs doors attended each)
      briefs-numbers [] [] each = refl
      briefs-numbers [] (one ∷ attended) each = absurd each
      briefs-numbers (door ∷ doors) [] each = refl
      briefs-numbers (door ∷ doors) (one ∷ attended) each =
          let its = each.0 in
          let found = has-index one.desk.tables.items index (omega (arith, within, its.its.count)) in
          let number : (numbers_of one.desk).tables (suc index) ≡ pass_number found.0 =
          ap (λ (found : Option TablePass). option_map_or number_of found 0) found.1 in
          ap (λ (found : Option TablePass). map number_of (cons_option found (theirs attended))) found.1
          ∙ (λ i. sym number i ∷ briefs-numbers doors attended each.1 i)

      -- What each made there are the acts that it brought.
      briefs-acts : (doors : List D) (attended : List (Attended D)) (each : AllZip Has doors attended)
          → AllByRecursion (λ (pass : TablePass).
          entries_by table_caller (pass_number pass) (histories (suc index)) ≡ own pass) (theirs attended)
          → AllByRecursion (λ (desk : DeskBrief).
          entries_by table_caller (desk.tables (suc index)) (histories (suc index))
          ≡ acted_at (desk.tables (suc index)) (suc index) desk.brought.acts) (briefs doors attended each)
      briefs-acts [] attended each has = tt
      briefs-acts (door ∷ doors) [] each has = tt
      briefs-acts (door ∷ doors) (one ∷ attended) each has =
          let its = each.0 in
          let worked = its.worked in
          let acts = (brought_in (flat_map (λ (s : Served L). s.log) worked.sessions)).acts in
          let found = has-index one.desk.tables.items index (omega (arith, within, its.its.count)) in
          let pass : TablePass = found.0 in
          let first = has-index its.start.tables.items index
          (omega (arith, within, its.its.count, worked.moved.count)) in
          let start : TablePass = first.0 in
          let P : TablePass → Type 0 = λ p.
          entries_by table_caller (pass_number p) (histories (suc index)) ≡ own p in
          let all = subst (λ (found : Option TablePass). AllByRecursion P (cons_option found (theirs attended))) found.1
          has in
          let moved = if-found (λ other. HasMoved 0 (acted_at (pass_number start) (suc index) acts) start other)
          (of_table one.desk.tables.items (suc index)) pass found.1
          (if-found (λ p. IfSome (of_table one.desk.tables.items (suc index))
          (λ other. HasMoved 0 (acted_at (pass_number p) (suc index) acts) p other))
          (of_table its.start.tables.items (suc index)) start first.1 (worked.moved.tables (suc index))) in
          let none = if-found (λ p. own p ≡ []) (of_table its.start.tables.items (suc index)) start first.1
          (its.none_at_tables (suc index)) in
          let number : (numbers_of one.desk).tables (suc index) ≡ pass_number pass =
          ap (λ (found : Option TablePass). option_map_or number_of found 0) found.1 in
          let here : entries_by table_caller (pass_number pass) (histories (suc index))
          ≡ acted_at (pass_number pass) (suc index) acts =
          all.0
          ∙ (moved.own_after
          ∙ (ap (λ (l : List TableEntry). l ++ acted_at (pass_number start) (suc index) acts) none
          ∙ ap (λ (n : ℕ). acted_at n (suc index) acts) (sym moved.number))) in (
            subst (λ (n : ℕ). entries_by table_caller n (histories (suc index)) ≡ acted_at n (suc index) acts)
                (sym number) here,
            briefs-acts doors attended each.1 all.1,
          )

      -- A worker and its table.
      worker-table : (doors : List D) (attended : List (Attended D)) (each : AllZip Has doors attended)
          (before after : Work) → HasDone before after → after.table ≡ suc index
          → (tale_of journal).legal ≡ true → IsPrefix (seen after.book) journal
          → entries_by journal_caller (pass_number after.book) journal ≡ own after.book
          → (row : Row) → row.items ≡ theirs attended ++ after.dock ∷ []
          → AreMakers table_caller row (histories (suc index))
          → All (λ pass. IsPrefix (seen pass) (histories (suc index))) row.items
          → IsTableOf f journal histories (briefs doors attended each)
          (record { book = pass_number after.book; table = suc index })
      worker-table doors attended each before after done number legal noted has row items makers saw =
          let history = histories (suc index) in
          let k = pass_number after.book in
          let split = All-pop (λ (p : TablePass). entries_by table_caller (pass_number p) history ≡ own p) row.items
          (theirs attended) (Some after.dock) items makers.each in
          let front = (All-pop (λ (p : TablePass). IsPrefix (seen p) history) row.items (theirs attended)
          (Some after.dock) items saw).1 in
          let told : (tale_of (seen after.book)).legal ≡ true =
          legal-before (tale_of (seen after.book)) noted.0
          (ap (λ t. t.legal) (sym (tale_append (seen after.book) noted.0) ∙ ap tale_of noted.1) ∙ legal) in
          let brought = subst (λ (t : ℕ). IsBrought k t (seen after.book) (seen after.dock)) number done.brought in
          let most = worker-weight f k (suc index) (seen after.book) (seen after.dock) told brought in
          let same : weigh (whole_weight f) (entries_by journal_caller k journal)
          ≡ weigh (whole_weight f) (entries_by journal_caller k (seen after.book)) =
          ap (weigh (whole_weight f)) (has ∙ sym after.book.mine) in
          let longer : weigh (table_weight f (suc index)) (seen after.dock ++ front.0)
          ≡ weigh (table_weight f (suc index)) history =
          ap (weigh (table_weight f (suc index))) front.1 in
          let sum = weigh-append (table_weight f (suc index)) (seen after.dock) front.0 in
          let mine : entries_by table_caller 0 history ≡ entries_by table_caller 0 (seen after.dock) =
          subst (λ (n : ℕ). entries_by table_caller n history ≡ entries_by table_caller n (seen after.dock)) done.first
          (split.1 ∙ sym after.dock.mine) in
          let numbers : map number_of row.items
          ≡ map (λ (desk : DeskBrief). desk.tables (suc index)) (briefs doors attended each) ++ 0 ∷ [] =
          ap (map number_of) items
          ∙ (map-append number_of (theirs attended) (after.dock ∷ [])
          ∙ (λ i. briefs-numbers doors attended each i ++ done.first i ∷ [])) in
          record {
            within = omega (arith, most, same, longer, sum);
            callers = recursion_from_All (λ (entry : TableEntry). is_among
                (map (λ (desk : DeskBrief). desk.tables (suc index)) (briefs doors attended each) ++ 0 ∷ [])
                (table_caller entry) ≡ true) history
                (All-weaker (λ (entry : TableEntry). Any (λ pass. pass_number pass ≡ table_caller entry) row.items)
                (λ (entry : TableEntry). is_among
                (map (λ (desk : DeskBrief). desk.tables (suc index)) (briefs doors attended each) ++ 0 ∷ [])
                (table_caller entry) ≡ true)
                (λ entry any. subst (λ (l : List ℕ). is_among l (table_caller entry) ≡ true) numbers
                (any-among number_of row.items (table_caller entry) any.0 any.1 any.2 any.3 any.4))
                history makers.all);
            none_own = ap (weigh (table_weight f (suc index))) mine
                ∙ no-acts f (suc index) (entries_by table_caller 0 (seen after.dock)) brought.no_acts;
            acts = briefs-acts doors attended each
                (recursion_from_All (λ (p : TablePass). entries_by table_caller (pass_number p) history ≡ own p)
                (theirs attended) split.0);
          }

  -- The workers and what came back, with the passes of each table's row and those of the book.
  pub record AreBackAt (doors : List D) (attended : List (Attended D)) (before after : List Work) (passes : Passes)
      : Type 0 where
    pub order : AreInOrder floor.docks.items
    pub desks : AllZip Has doors attended
    pub done : AllZip HasDone before after
    pub works : AllZip (IsWorkAt floor) floor.docks.items after
    pub books : passes.books.items
        ≡ map (λ (one : Attended D). one.desk.book) attended ++ map (λ (work : Work). work.book) after
    pub many : length passes.tables.items ≡ length floor.docks.items
    pub rows : (index : ℕ) (row : Row) → slice_get passes.tables.items index ≡ Some row
        → row.items ≡ filter_map (λ (one : Attended D). of_table one.desk.tables.items (suc index)) attended
        ++ option_to_list (slice_get (map (λ (work : Work). work.dock) after) index)

  -- the workers in brief
  abbrev work_briefs : List Work → List WorkBrief
  work_briefs works = map (λ (work : Work). record { book = pass_number work.book; table = work.table }) works

  module _ (doors : List D) (attended : List (Attended D)) (before after : List Work) (passes : Passes)
      (back : AreBackAt doors attended before after passes) (journal : List JournalEntry)
      (closed : HasClosed floor passes journal) where
    abbrev HasOwn : Book → Type 0
    HasOwn pass = entries_by journal_caller (pass_number pass) journal ≡ own pass

    tables-rise : AreRising 1 (map (λ (work : WorkBrief). work.table) (work_briefs after))
    tables-rise =
        rising-from 1 (map (λ (work : WorkBrief). work.table) (work_briefs after))
        (λ index n at. by_work index n (slice_get after index) refl
        (sym (slice_get-map (λ (work : WorkBrief). work.table) (work_briefs after) index
        ∙ ap (option_map (λ (work : WorkBrief). work.table))
        (slice_get-map (λ (work : Work). record { book = pass_number work.book; table = work.table }) after index))
        ∙ at))
      where
        by_work : (index n : ℕ) (found : Option Work) → slice_get after index ≡ found
            → option_map (λ (work : WorkBrief). work.table)
            (option_map (λ (work : Work). record { book = pass_number work.book; table = work.table }) found) ≡ Some n
            → n ≡ 1 + index
        by_work index n None at is = absurd cc
        by_work index n (Some work) at is =
            let same : work.table ≡ n = cc in
            let number = table-is floor after back.order back.works index work at in
            omega (arith, same, number)

    -- Each desk's pass of the book made what the journal has of its number.
    own-desks : AllByRecursion (λ (one : Attended D). HasOwn one.desk.book) attended
    own-desks = recursion_from_All (λ (one : Attended D). HasOwn one.desk.book) attended
        (all-from (λ (one : Attended D). HasOwn one.desk.book) attended
        (λ index one at. all-at HasOwn passes.books.items closed.own index one.desk.book
        (desk-at attended after passes.books.items back.books index one at)))

    desks-noted : AllByRecursion (λ (one : Attended D). IsPrefix (seen one.desk.book) journal) attended
    desks-noted = recursion_from_All (λ (one : Attended D). IsPrefix (seen one.desk.book) journal) attended
        (all-from (λ (one : Attended D). IsPrefix (seen one.desk.book) journal) attended
        (λ index one at. all-at (λ (p : Book). IsPrefix (seen p) journal) passes.books.items closed.seen.of_book index
        one.desk.book (desk-at attended after passes.books.items back.books index one at)))

    own-works : AllByRecursion (λ (work : Work). HasOwn work.book) after
    own-works = recursion_from_All (λ (work : Work). HasOwn work.book) after
        (all-from (λ (work : Work). HasOwn work.book) after
        (λ index work at. all-at HasOwn passes.books.items closed.own (length attended + index) work.book
        (work-at attended after passes.books.items back.books index work at)))

    works-noted : AllByRecursion (λ (work : Work). IsPrefix (seen work.book) journal) after
    works-noted = recursion_from_All (λ (work : Work). IsPrefix (seen work.book) journal) after
        (all-from (λ (work : Work). IsPrefix (seen work.book) journal) after
        (λ index work at. all-at (λ (p : Book). IsPrefix (seen p) journal) passes.books.items closed.seen.of_book
        (length attended + index) work.book (work-at attended after passes.books.items back.books index work at)))

    briefs-map : (doors : List D) (attended : List (Attended D)) (each : AllZip Has doors attended)
        → map book_number (map (λ (one : Attended D). one.desk.book) attended)
        ≡ map (λ (desk : DeskBrief). desk.book) (briefs doors attended each)
    briefs-map [] [] each = refl
    briefs-map [] (one ∷ attended) each = absurd each
    briefs-map (door ∷ doors) [] each = refl
    briefs-map (door ∷ doors) (one ∷ attended) each =
        ap (λ (l : List ℕ). pass_number one.desk.book ∷ l) (briefs-map doors attended each.1)

    works-map : (works : List Work) → map book_number (map (λ (work : Work). work.book) works)
        ≡ map (λ (work : WorkBrief). work.book) (work_briefs works)
    works-map [] = refl
    works-map (work ∷ works) = ap (λ (l : List ℕ). pass_number work.book ∷ l) (works-map works)

    -- Each caller is one of them.
    callers-among : (added : List JournalEntry) → All (λ entry. journal_caller entry < book_passes floor.book) added
        → AllByRecursion (λ (entry : JournalEntry). is_among
        (map (λ (desk : DeskBrief). desk.book) (briefs doors attended back.desks)
        ++ map (λ (work : WorkBrief). work.book) (work_briefs after)) entry.caller ≡ true) added
    callers-among added below =
        let of_desks = map (λ (one : Attended D). one.desk.book) attended in
        let of_works = map (λ (work : Work). work.book) after in
        let numbers : map book_number passes.books.items
        ≡ map (λ (desk : DeskBrief). desk.book) (briefs doors attended back.desks)
        ++ map (λ (work : WorkBrief). work.book) (work_briefs after) =
        ap (map book_number) back.books
        ∙ (map-append book_number of_desks of_works
        ∙ (λ i. briefs-map doors attended back.desks i ++ works-map after i)) in
        let Among : JournalEntry → Type 0 = λ entry. is_among
        (map (λ (desk : DeskBrief). desk.book) (briefs doors attended back.desks)
        ++ map (λ (work : WorkBrief). work.book) (work_briefs after)) entry.caller ≡ true in
        recursion_from_All Among added
        (All-weaker (λ (entry : JournalEntry). journal_caller entry < book_passes floor.book) Among
        (λ entry less.
        let any = closed.numbers entry.caller less in
        subst (λ (l : List ℕ). is_among l entry.caller ≡ true) numbers
        (any-among book_number passes.books.items entry.caller any.0 any.1 any.2 any.3 any.4)) added below)

    module _ (f : Wish → ℕ) where
      -- the table of each worker
      table-of : (index : ℕ) (work : Work) → slice_get after index ≡ Some work
          → IsTableOf f journal closed.histories (briefs doors attended back.desks)
          (record { book = pass_number work.book; table = work.table })
      table-of index work at =
          let number = table-is floor after back.order back.works index work at in
          let within = slice_get_within after index work at in
          let many = AllZip-long (IsWorkAt floor) floor.docks.items after back.works in
          let here : index < length floor.docks.items = omega (arith, within, many) in
          let as_many = AllZip-long HasDone before after back.done in
          let first = has-index before index (omega (arith, within, as_many)) in
          let done = zip-at HasDone before after back.done index first.0 work first.1 at in
          let row = has-index passes.tables.items index (omega (arith, here, back.many)) in
          let found = slice_get-map (λ (w : Work). w.dock) after index ∙ ap (option_map (λ (w : Work). w.dock)) at in
          let items = back.rows index row.0 row.1
          ∙ ap (λ (found : Option TablePass).
          filter_map (λ (one : Attended D). of_table one.desk.tables.items (suc index)) attended
          ++ option_to_list found) found in
          let made = if-found (λ r. AreMakers table_caller r (closed.histories (suc index)))
          (of_table passes.tables.items (suc index)) row.0 row.1 (closed.made (suc index)) in
          let saw = if-found (λ r. All (λ pass. IsPrefix (seen pass) (closed.histories (suc index))) r.items)
          (of_table passes.tables.items (suc index)) row.0 row.1 (closed.seen.of_tables (suc index)) in
          let place = length attended + index in
          let there = work-at attended after passes.books.items back.books index work at in
          let has = all-at HasOwn passes.books.items closed.own place work.book there in
          let noted = all-at (λ (p : Book). IsPrefix (seen p) journal) passes.books.items closed.seen.of_book place
          work.book there in
          subst (λ (t : ℕ). IsTableOf f journal closed.histories (briefs doors attended back.desks)
          (record { book = pass_number work.book; table = t })) (sym number)
          (worker-table f journal closed.histories index here doors attended back.desks first.0 work done number
          closed.legal.allowed noted has row.0 items made saw)

      -- The events weigh no more than what was said.
      events-asked : (plan : PlanTerms) (seed : List ℕ)
          → IsGrownByPasses journal_caller (book_passes floor.book) (opening seed plan) journal
          → (said : List LineSaid) → asks_at door_told link_told words (runs_of doors attended) ≡ Some said
          → weigh (event_weight f) (expand journal) ≤ weigh (said_weight f) said
      events-asked plan seed grown said is =
          let desks = briefs doors attended back.desks in
          let works = work_briefs after in
          let books = briefs-books f journal closed.histories doors attended back.desks own-desks in
          let tables = recursion_from_All (IsTableOf f journal closed.histories desks) works
          (All-map (IsTableOf f journal closed.histories desks)
          (λ (work : Work). record { book = pass_number work.book; table = work.table }) after
          (all-from (λ (work : Work). IsTableOf f journal closed.histories desks
          (record { book = pass_number work.book; table = work.table })) after table-of)) in
          let brought = journal-weight f journal closed.histories seed plan grown.0 1 desks works grown.1
          (callers-among grown.0 grown.2) books tables tables-rise in
          let asked = briefs-asked f doors attended back.desks said is in
          omega (arith, brought, asked)

    -- Of those that are not the order owed no more are in the journal than the floor asked for by name.
    moves-asked : (plan : PlanTerms) (seed : List ℕ)
        → IsGrownByPasses journal_caller (book_passes floor.book) (opening seed plan) journal
        → (said : List LineSaid) → asks_at door_told link_told words (runs_of doors attended) ≡ Some said
        → unowed journal ≤ weigh (said_weight move_wished) said
    moves-asked plan seed grown said is =
        let Bad : ℕ → ℕ = λ (k : ℕ). bad_in k journal in
        let of_desks = map (λ (desk : DeskBrief). desk.book) (briefs doors attended back.desks) in
        let of_works = map (λ (work : WorkBrief). work.book) (work_briefs after) in
        let all = journal-unowed seed plan journal grown.0 (of_desks ++ of_works) grown.1
        (callers-among grown.0 grown.2) in
        let sum = weigh-append Bad of_desks of_works in
        let desks = desks-unowed door_told door_faults link_told link_faults words floor journal doors attended
        back.desks said is own-desks desks-noted in
        let works = works-unowed door_told door_faults link_told link_faults words floor journal before after back.done
        own-works works-noted in
        let at_desks : weigh Bad of_desks
        ≡ weigh (λ (one : Attended D). bad_in (pass_number one.desk.book) journal) attended =
        ap (weigh Bad) (sym (briefs-map doors attended back.desks))
        ∙ (weigh-map Bad book_number (map (λ (one : Attended D). one.desk.book) attended)
        ∙ weigh-map (λ (pass : Book). Bad (pass_number pass)) (λ (one : Attended D). one.desk.book) attended) in
        let at_works : weigh Bad of_works
        ≡ weigh (λ (work : Work). bad_in (pass_number work.book) journal) after =
        ap (weigh Bad) (sym (works-map after))
        ∙ (weigh-map Bad book_number (map (λ (work : Work). work.book) after)
        ∙ weigh-map (λ (pass : Book). Bad (pass_number pass)) (λ (work : Work). work.book) after) in
        omega (arith, all, sum, desks, works, at_desks, at_works)

    -- The events of the journal come of what was said at the doors, where they tell.
    pub held-asked : (plan : PlanTerms) (seed : List ℕ)
        → IsGrownByPasses journal_caller (book_passes floor.book) (opening seed plan) journal
        → IfSome (asks_at door_told link_told words (runs_of doors attended)) (WasAsked journal)
    held-asked plan seed grown =
        if-some (asks_at door_told link_told words (runs_of doors attended)) (WasAsked journal)
        (λ said is. record {
          wishes = λ test.
              let f : Wish → ℕ = λ (wish : Wish). one_if (test wish) in
              let most = events-asked f plan seed grown said is in
              let one = count-weigh test (filter_map wish_of (expand journal)) in
              let two = weigh-filter_map f wish_of (expand journal) in
              let three = count-weigh test (filter_map wish_said said) in
              let four = weigh-filter_map f wish_said said in
              omega (arith, most, one, two, three, four);
          moves =
              let most = moves-asked plan seed grown said is in
              let one = count-weigh is_move_wished (filter_map wish_said said) in
              let two = weigh-filter_map move_wished wish_said said in
              omega (arith, most, one, two);
        })
