-- The journal and the histories of the tables match, of a tournament that was held at doors.
use Rattle.std.proofs.Common.{◌≡◌, ◌∙◌, inl, inr, refl, sym, ap, subst, ℕ, zero, suc, ◌+◌, ◌<◌, false, true, List, [], ◌∷◌, ◌++◌, Option, Some, None, length, map, arith}
use Rattle.std.specs.Prelude.{All, option_map, option_to_list, slice_get, vec_len}
use Rattle.std.specs.List.{filter_map, flat_map}
use Rattle.std.proofs.lemmas.List.Elements.{All-append, All-map, All-pop, recursion_from_All}
use Rattle.std.proofs.lemmas.Option.{slice_get-map, slice_get_within}
use Rattle.std.proofs.lemmas.Slice.Zip.{AllZip-long}
use mathlib.Core.List.{IsPrefix}
use Rattle.history_lock.specs.Entries.{IsGrownByPasses, entries_by}
use Rattle.history_lock.specs.Limits.{opener}
use Rattle.history_lock.specs.Passes.{own, pass_number, seen}
use Rattle.history_lock.specs.declared.pass.Pass.{Pass}
use Rattle.level_plan.specs.Plans.{PlanTerms}
use Rattle.level_plan.specs.declared.line.PlanLine.{PlanLine}
use Rattle.plan_files.specs.PlanLines.{lines_of_plan}
use Rattle.plan_files.specs.Words.{WordTerms}
use Rattle.tournament_events.specs.declared.event.Event.TheVariants as events
use Rattle.links.specs.Telling.{DoorTelling, Telling}
use Rattle.view_rules.specs.declared.entries.JournalEntry.{JournalEntry}
use Rattle.view_rules.specs.declared.entries.TableEntry.{TableEntry}
use Rattle.dock_rules.specs.Journals.{journal_caller, plain_entry, tale_of}
use Rattle.dock_rules.specs.Tables.{table_caller}
use Rattle.dock_rules.specs.Whole.{DoMatch}
use Rattle.table_dock.specs.contracts.hold.TableHoldGrows.TheImpl as of_table_dock
use Rattle.table_dock.specs.declared.hold.TableHold.{TableHold}
use Rattle.book_dock.specs.Docks.{book_passes}
use Rattle.book_dock.specs.Opening.{opening}
use Rattle.session_desk.specs.Desks.{numbers_of, of_table, sights}
use Rattle.session_desk.specs.Talks.{Served, WasServed}
use Rattle.session_desk.proofs.Rows.{has-index}
use Rattle.table_worker.specs.Ties.{IsBrought}
use Rattle.floor_crew.specs.declared.floor.Floor.{Floor}
use Rattle.floor_crew.specs.declared.jobs.Attended.{Attended}
use Rattle.floor_crew.specs.declared.jobs.Work.{Work}
use Rattle.floor_crew.specs.declared.passes.Passes.{Passes}
use Rattle.floor_crew.specs.AtHand.{AreMakers}
use Rattle.floor_crew.specs.Closed.{HasClosed}
use Rattle.floor_crew.specs.Working.{HasAttended, HasDone, IsWorkAt}
use Rattle.floor_crew.proofs.AskedHeld.{AreBackAt}
use Rattle.floor_crew.proofs.BackAt.{desk-at, table-is, work-at}
use Rattle.floor_crew.proofs.Callers.{Book}
use Rattle.floor_crew.proofs.DeskOrders.{desk-no_hands, orders_in}
use Rattle.floor_crew.proofs.OfHands.{has_hands}
use Rattle.floor_crew.proofs.OpenedLocks.{Row}
use Rattle.floor_crew.proofs.WholeJournals.{stopped-all}
use Rattle.floor_crew.proofs.WorkersMatch.{IsKnown, history-all, workers-match}
use Rattle.floor_crew.proofs.Zipped.{all-at, all-from, if-found, zip-at}

-- A pass of a table.
abbrev TablePass : Type 0
TablePass = Pass TableHold TableEntry of_table_dock.ghosts

-- The plan's lines and their end begin and settle no hand.
opening-none : (seed : List ℕ) (lines : List PlanLine)
    → has_hands (map (plain_entry opener seed) (map events.Plan lines ++ events.Go ∷ [])) ≡ false
opening-none seed [] = refl
opening-none seed (line ∷ lines) = opening-none seed lines

module _ {D L : Type 0} (door_told : D → Option (DoorTelling L)) (door_faults : D → ℕ)
    (link_told : L → Option Telling) (link_faults : L → ℕ) (words : WordTerms) (floor : Floor) (doors : List D)
    (attended : List (Attended D)) (before after : List Work) (passes : Passes)
    (back : AreBackAt door_told door_faults link_told link_faults words floor doors attended before after passes)
    (journal : List JournalEntry) (closed : HasClosed floor passes journal) where
  abbrev Has : D → Attended D → Type 0
  Has door one = HasAttended floor door_told door_faults link_told link_faults words door one

  abbrev HasOwn : Book → Type 0
  HasOwn pass = entries_by journal_caller (pass_number pass) journal ≡ own pass

  -- the number at the book of the worker of a table
  abbrev number_at : Option Work → Option ℕ
  number_at found = option_map (λ (work : Work). pass_number work.book) found

  abbrev worker_of : ℕ → Option ℕ
  worker_of table = number_at (of_table after table)

  -- A desk begins and settles no hand.
  desk-none : (index : ℕ) (one : Attended D) → slice_get attended index ≡ Some one
      → has_hands (entries_by journal_caller (pass_number one.desk.book) journal) ≡ false
  desk-none index one at =
      let many = AllZip-long Has doors attended back.desks in
      let within = slice_get_within attended index one at in
      let door = has-index doors index (omega (arith, within, many)) in
      let its = zip-at Has doors attended back.desks index door.0 one door.1 at in
      let worked = its.worked in
      let orders = orders_in (flat_map (λ (s : Served L). s.log) worked.sessions) in
      let has = all-at HasOwn passes.books.items closed.own index one.desk.book
      (desk-at attended after passes.books.items back.books index one at) in
      let made : own one.desk.book ≡ orders =
      worked.moved.book.own_after ∙ ap (λ (l : List JournalEntry). l ++ orders) its.none_at_book in
      ap has_hands (has ∙ made)
      ∙ desk-no_hands link_told link_faults words (vec_len floor.docks) (numbers_of its.start) (sights its.start)
      (sights one.desk) worked.sessions
      (recursion_from_All (WasServed link_told link_faults words (vec_len floor.docks) (numbers_of its.start)
      (sights its.start) (sights one.desk)) worked.sessions worked.each)

  -- Each number of a pass is a worker's, or that of a desk.
  known : (k : ℕ) → k < book_passes floor.book → IsKnown journal worker_of k
  known k below =
      let P : Book → Type 0 = λ pass. IsKnown journal worker_of (pass_number pass) in
      let of_desks = All-map P (λ (one : Attended D). one.desk.book) attended
      (all-from (λ (one : Attended D). P one.desk.book) attended (λ index one at. inr (desk-none index one at))) in
      let of_works = All-map P (λ (work : Work). work.book) after
      (all-from (λ (work : Work). P work.book) after (λ index work at. inl (suc index, ap number_at at))) in
      let all = subst (All P) (sym back.books)
      (All-append P (map (λ (one : Attended D). one.desk.book) attended) (map (λ (work : Work). work.book) after)
      of_desks of_works) in
      let any = closed.numbers k below in
      let here = subst P any.3 (all any.0 any.1 any.2) in
      subst (IsKnown journal worker_of) any.4 here

  -- A worker has seen the whole journal and the whole history of its table.
  brought-at : (index : ℕ) (work : Work) → slice_get after index ≡ Some work
      → IsBrought (pass_number work.book) (suc index) journal (closed.histories (suc index))
  brought-at index work at =
      let history = closed.histories (suc index) in
      let number = table-is floor after back.order back.works index work at in
      let within = slice_get_within after index work at in
      let many = AllZip-long (IsWorkAt floor) floor.docks.items after back.works in
      let here : index < length floor.docks.items = omega (arith, within, many) in
      let as_many = AllZip-long HasDone before after back.done in
      let first = has-index before index (omega (arith, within, as_many)) in
      let done = zip-at HasDone before after back.done index first.0 work first.1 at in
      let row = has-index passes.tables.items index (omega (arith, here, back.many)) in
      let theirs = filter_map (λ (one : Attended D). of_table one.desk.tables.items (suc index)) attended in
      let found = slice_get-map (λ (w : Work). w.dock) after index ∙ ap (option_map (λ (w : Work). w.dock)) at in
      let items = back.rows index row.0 row.1
      ∙ ap (λ (found : Option TablePass). theirs ++ option_to_list found) found in
      let makers = if-found (λ r. AreMakers table_caller r history) (of_table passes.tables.items (suc index)) row.0
      row.1 (closed.made (suc index)) in
      let saw = if-found (λ r. All (λ pass. IsPrefix (seen pass) history) r.items)
      (of_table passes.tables.items (suc index)) row.0 row.1 (closed.seen.of_tables (suc index)) in
      let made = (All-pop (λ (p : TablePass). entries_by table_caller (pass_number p) history ≡ own p) row.0.items
      theirs (Some work.dock) items makers.each).1 in
      let front = (All-pop (λ (p : TablePass). IsPrefix (seen p) history) row.0.items theirs (Some work.dock) items
      saw).1 in
      let noted = all-at (λ (p : Book). IsPrefix (seen p) journal) passes.books.items closed.seen.of_book
      (length attended + index) work.book (work-at attended after passes.books.items back.books index work at) in
      let mine : entries_by table_caller 0 history ≡ entries_by table_caller 0 (seen work.dock) =
      subst (λ (n : ℕ). entries_by table_caller n history ≡ entries_by table_caller n (seen work.dock)) done.first
      (made ∙ sym work.dock.mine) in
      let all_noted = stopped-all (seen work.book) journal noted closed.legal.allowed done.brought.stopped in
      let all_told = history-all (seen work.dock) history front (closed.tables (suc index)) mine
      done.brought.none_lies in
      subst (λ (t : ℕ × (List JournalEntry × List TableEntry)).
      IsBrought (pass_number work.book) t.0 t.1.0 t.1.1)
      (λ i. (number i, (all_noted i, all_told i))) done.brought

  brought : (table k : ℕ) → worker_of table ≡ Some k → IsBrought k table journal (closed.histories table)
  brought zero k is = absurd cc
  brought (suc index) k is = by_work (slice_get after index) refl is
    where
      by_work : (found : Option Work) → slice_get after index ≡ found → number_at found ≡ Some k
          → IsBrought k (suc index) journal (closed.histories (suc index))
      by_work None at is = absurd cc
      by_work (Some work) at is =
          let same : pass_number work.book ≡ k = cc in
          subst (λ (n : ℕ). IsBrought n (suc index) journal (closed.histories (suc index))) same
          (brought-at index work at)

  nowhere : (table : ℕ) → worker_of table ≡ None → closed.histories table ≡ []
  nowhere zero is = closed.nowhere zero refl
  nowhere (suc index) is = closed.nowhere (suc index) (by_row (slice_get passes.tables.items index) refl)
    where
      by_row : (found : Option Row) → slice_get passes.tables.items index ≡ found
          → slice_get passes.tables.items index ≡ None
      by_row None at = at
      by_row (Some row) at =
          let within = slice_get_within passes.tables.items index row at in
          let many = AllZip-long (IsWorkAt floor) floor.docks.items after back.works in
          let work = has-index after index (omega (arith, within, many, back.many)) in
          let never : None ≡ Some (pass_number work.0.book) = sym is ∙ ap number_at work.1 in
          absurd cc

  -- The journal and the histories of all tables are legal, and match.
  pub held-matched : (plan : PlanTerms) (seed : List ℕ)
      → IsGrownByPasses journal_caller (book_passes floor.book) (opening seed plan) journal
      → (tale_of journal).ended ≡ true → DoMatch journal closed.histories
  held-matched plan seed grown ended = record {
    journal_legal = closed.legal;
    tables_legal = closed.tables;
    match_ = workers-match journal worker_of closed.histories (book_passes floor.book) (opening seed plan)
        (record {
          ended = ended;
          legal = closed.tables;
          grown = grown;
          opened_none = opening-none seed (lines_of_plan plan);
          known = known;
          brought = brought;
          nowhere = nowhere;
        });
  }
