-- The passes of a desk are collected.
use Rattle.std.proofs.Common.{◌≡◌, ◌∙◌, refl, sym, ap, subst, ℕ, zero, suc, ◌+◌, ◌<◌, ◌≤◌, List, [], ◌∷◌, ◌++◌, Option, Some, None, length, map, length-append, arith}
use Rattle.std.specs.Prelude.{All, IfSome, Vec, option_map, slice_get, vec_capacity, vec_len}
use Rattle.std.specs.List.{AllZip}
use Rattle.std.specs.Option.{option_map_or}
use Rattle.std.proofs.lemmas.List.Elements.{All-append, All-map, All-pop, All-push, All-same}
use Rattle.std.proofs.lemmas.List.{length-map}
use Rattle.std.proofs.lemmas.Option.{slice_get-map, slice_get_within}
use Rattle.std.proofs.lemmas.Slice.Zip.{AllZip-long}
use mathlib.Core.List.{IsPrefix}
use Rattle.history_lock.specs.declared.grows.Grows.{Ghosts}
use Rattle.history_lock.specs.declared.pass.Pass.{Pass}
use Rattle.history_lock.specs.Passes.{LockId, lock_of, seen}
use Rattle.view_rules.specs.declared.entries.JournalEntry.{JournalEntry}
use Rattle.view_rules.specs.declared.entries.TableEntry.{TableEntry}
use Rattle.table_dock.specs.contracts.hold.TableHoldGrows.TheImpl as of_table_dock
use Rattle.table_dock.specs.declared.hold.TableHold.{TableHold}
use Rattle.book_dock.specs.contracts.hold.BookHoldGrows.TheImpl as of_book_dock
use Rattle.book_dock.specs.declared.hold.BookHold.{BookHold}
use Rattle.floor_crew.specs.declared.jobs.Work.{Work}
use Rattle.floor_crew.specs.Working.{IsWorkAt}
use Rattle.table_dock.specs.declared.dock.TableDock.{TableDock}
use Rattle.table_dock.specs.Docks.{dock_id}
use Rattle.book_dock.specs.Docks.{book_id}
use Rattle.session_desk.specs.declared.desk.Desk.{Desk}
use Rattle.session_desk.specs.Desks.{AreLater, IsDeskOf, Sights, of_table, sights}
use Rattle.session_desk.proofs.Rows.{has-index, if-some}
use Rattle.floor_crew.specs.declared.floor.Floor.{Floor}
use Rattle.floor_crew.specs.declared.passes.Passes.{Passes}
use Rattle.floor_crew.specs.AtHand.{AreCollected, AreOf, AreSeen, HasRoom, IsWorkSeen}
use Rattle.floor_crew.specs.Rows.{AreSpread, IsPutBehind}
use Rattle.floor_crew.proofs.Spreading.{spread-at}
use Rattle.floor_crew.proofs.Zipped.{all-at, all-from, get-before, get-beyond, if-found, zip-at, zip-from}

-- what is found begins with what is seen in it
found-prefix : {P E : Type 0} (seen_by : P → List E) (found : Option P) (history : List E)
    → ((pass : P) → found ≡ Some pass → IsPrefix (seen_by pass) history)
    → IsPrefix (option_map_or seen_by found []) history
found-prefix seen_by None history each = (history, refl)
found-prefix seen_by (Some pass) history each = each pass refl

module _ {Val E A : Type 0} {g : Ghosts Val E} where
  -- one pass more of a lock
  pub one-more : (lock : LockId) (count : ℕ) (before after : Vec (Pass Val E g) A) (pass : Pass Val E g)
      → AreOf lock count before → IsPutBehind before pass after → lock_of pass ≡ lock → AreOf lock (count + 1) after
  one-more lock count before after pass some put its = record {
    locks = All-same (λ (p : Pass Val E g). lock_of p ≡ lock) after.items (before.items ++ pass ∷ []) put.items
        (All-push (λ (p : Pass Val E g). lock_of p ≡ lock) before.items pass some.locks its);
    counted =
        let longer = ap length put.items in
        omega (arith, after.ok.0, before.ok.0, longer, length-append before.items (pass ∷ []), some.counted);
  }

  -- a history begins with what one pass more has seen, and so it does with what the others have seen
  pub one-fewer : (history : List E) (before after : Vec (Pass Val E g) A) (pass : Pass Val E g)
      → IsPutBehind before pass after → All (λ (p : Pass Val E g). IsPrefix (seen p) history) after.items
      → All (λ (p : Pass Val E g). IsPrefix (seen p) history) before.items × IsPrefix (seen pass) history
  one-fewer history before after pass put each =
      All-pop (λ (p : Pass Val E g). IsPrefix (seen p) history) after.items before.items (Some pass) put.items each

-- One row of passes was put behind the rows of the tables.
module _ (before after : Passes) (row : List (Pass TableHold TableEntry of_table_dock.ghosts))
    (spread : AreSpread before.tables.items after.tables.items row)
    (as_many : length row ≡ length before.tables.items) where
  -- they are those of the floor's docks
  rows-collected : (floor : Floor) (each : ℕ)
      → ((index : ℕ) (dock : TableDock) (pass : Pass TableHold TableEntry of_table_dock.ghosts)
      → slice_get floor.docks.items index ≡ Some dock → slice_get row index ≡ Some pass → lock_of pass ≡ dock_id dock)
      → AllZip (λ dock passes. AreOf (dock_id dock) each passes) floor.docks.items before.tables.items
      → AllZip (λ dock passes. AreOf (dock_id dock) (each + 1) passes) floor.docks.items after.tables.items
  rows-collected floor each locks old =
      let many = AllZip-long (λ (dock : TableDock) passes. AreOf (dock_id dock) each passes) floor.docks.items
      before.tables.items old in
      zip-from (λ (dock : TableDock) passes. AreOf (dock_id dock) (each + 1) passes) floor.docks.items
      after.tables.items (spread.count ∙ many)
      (λ index dock passes at there.
      let within = slice_get_within floor.docks.items index dock at in
      let here = spread-at before.tables.items after.tables.items row spread as_many index
      (omega (arith, within, many)) in
      let same : here.2 ≡ passes = cc (here.5, there) in
      subst (λ r. AreOf (dock_id dock) (each + 1) r) same
      (one-more (dock_id dock) each here.0 here.2 here.1
      (zip-at (λ (d : TableDock) r. AreOf (dock_id d) each r) floor.docks.items before.tables.items old index dock
      here.0 at here.3) here.6 (locks index dock here.1 at here.4)))

  -- what begins with all that they have seen
  module _ (end : Sights) (each : AreSeen end after) where
    row-seen : (table : ℕ) → IsPrefix (option_map_or seen (of_table row table) []) (end.tables table)
    row-seen zero = (end.tables 0, refl)
    row-seen (suc index) =
        found-prefix seen (slice_get row index) (end.tables (suc index))
        (λ pass there.
        let within = slice_get_within row index pass there in
        let here = spread-at before.tables.items after.tables.items row spread as_many index
        (omega (arith, within, as_many)) in
        let same : here.1 ≡ pass = cc (here.4, there) in
        subst (λ p. IsPrefix (seen p) (end.tables (suc index))) same
        (one-fewer (end.tables (suc index)) here.0 here.2 here.1 here.6
        (if-found (λ passes. All (λ p. IsPrefix (seen p) (end.tables (suc index))) passes.items)
        (slice_get after.tables.items index) here.2 here.5 (each.of_tables (suc index)))).1)

    rows-seen : (table : ℕ) → IfSome (of_table before.tables.items table)
        (λ passes. All (λ p. IsPrefix (seen p) (end.tables table)) passes.items)
    rows-seen zero = tt
    rows-seen (suc index) =
        if-some (slice_get before.tables.items index)
        (λ passes. All (λ p. IsPrefix (seen p) (end.tables (suc index))) passes.items)
        (λ passes at.
        let within = slice_get_within before.tables.items index passes at in
        let here = spread-at before.tables.items after.tables.items row spread as_many index within in
        let same : here.0 ≡ passes = cc (here.3, at) in
        subst (λ r. All (λ p. IsPrefix (seen p) (end.tables (suc index))) r.items) same
        (one-fewer (end.tables (suc index)) here.0 here.2 here.1 here.6
        (if-found (λ r. All (λ p. IsPrefix (seen p) (end.tables (suc index))) r.items)
        (slice_get after.tables.items index) here.2 here.5 (each.of_tables (suc index)))).0)

-- The passes of a desk were collected.
module _ (before after : Passes) (desk : Desk) (put : IsPutBehind before.books desk.book after.books)
    (spread : AreSpread before.tables.items after.tables.items desk.tables.items)
    (as_many : length desk.tables.items ≡ length before.tables.items) where
  -- they are those of the floor
  pub desk-collected : (floor : Floor) (books each : ℕ) → IsDeskOf floor.book floor.docks.items desk
      → AreCollected floor books each before → AreCollected floor (books + 1) (each + 1) after
  desk-collected floor books each its collected = record {
    of_book = one-more (book_id floor.book) books before.books after.books desk.book collected.of_book put
        its.book_pass;
    of_tables = rows-collected before after desk.tables.items spread as_many floor each
        (λ index dock pass at there.
        if-found (λ p. lock_of p ≡ dock_id dock) (of_table desk.tables.items (suc index)) pass there
        (its.passes (suc index) dock at)) collected.of_tables;
  }

  -- a history begins with all that they have seen
  pub desk-seen : (end : Sights) → AreSeen end after → AreLater (sights desk) end × AreSeen end before
  desk-seen end each =
      let of_book = one-fewer end.journal before.books after.books desk.book put each.of_book in (
        record {
          journal = of_book.1;
          tables = row-seen before after desk.tables.items spread as_many end each;
        },
        record {
          of_book = of_book.0;
          of_tables = rows-seen before after desk.tables.items spread as_many end each;
        },
      )

-- The passes of the workers were collected, those of the docks as one row.
module _ (before after : Passes) (works : List Work)
    (books_are : after.books.items ≡ before.books.items ++ map (λ (work : Work). work.book) works)
    (spread : AreSpread before.tables.items after.tables.items (map (λ (work : Work). work.dock) works))
    (as_many : length works ≡ length before.tables.items) where
  -- they are those of the floor
  pub works-collected : (floor : Floor) (books each : ℕ) → AllZip (IsWorkAt floor) floor.docks.items works
      → AreCollected floor books each before → AreCollected floor (books + length works) (each + 1) after
  works-collected floor books each its collected =
      let P : Pass BookHold JournalEntry of_book_dock.ghosts → Type 0 = λ pass. lock_of pass ≡ book_id floor.book in
      let theirs : All P (map (λ (work : Work). work.book) works) =
      All-map P (λ (work : Work). work.book) works
      (all-from (λ (work : Work). P work.book) works
      (λ index work at.
      let within = slice_get_within works index work at in
      let many = AllZip-long (IsWorkAt floor) floor.docks.items works its in
      let dock = has-index floor.docks.items index (omega (arith, within, many)) in
      (zip-at (IsWorkAt floor) floor.docks.items works its index dock.0 work dock.1 at).its_book)) in
      record {
        of_book = record {
          locks = All-same P after.books.items _ books_are
              (All-append P before.books.items (map (λ (work : Work). work.book) works) collected.of_book.locks theirs);
          counted =
              let longer = ap length books_are in
              omega (
                arith,
                after.books.ok.0,
                before.books.ok.0,
                longer,
                length-append before.books.items (map (λ (work : Work). work.book) works),
                length-map works (λ (work : Work). work.book),
                collected.of_book.counted,
              );
        };
        of_tables = rows-collected before after (map (λ (work : Work). work.dock) works) spread
            (length-map works (λ (work : Work). work.dock) ∙ as_many) floor each
            (λ index dock pass at there.
            let within : index < length works =
            omega (
              arith,
              slice_get_within (map (λ (work : Work). work.dock) works) index pass there,
              length-map works (λ (work : Work). work.dock),
            ) in
            let work = has-index works index within in
            let same : work.0.dock ≡ pass =
            let mapped = slice_get-map (λ (w : Work). w.dock) works index in
            let found = ap (option_map (λ (w : Work). w.dock)) work.1 in cc (mapped, found, there) in
            ap (λ p. lock_of p) (sym same)
            ∙ (zip-at (IsWorkAt floor) floor.docks.items works its index dock work.0 at work.1).its_dock)
            collected.of_tables;
      }

  -- the journal and the histories of their tables begin with all that they have seen
  pub works-seen : (end : Sights) → AreSeen end after
      → All (IsWorkSeen end) works × AreSeen end before
  works-seen end each =
      let P : Pass BookHold JournalEntry of_book_dock.ghosts → Type 0 = λ pass. IsPrefix (seen pass) end.journal in
      let both : All P (before.books.items ++ map (λ (work : Work). work.book) works) =
      All-same P _ after.books.items (sym books_are) each.of_book in (
        all-from (IsWorkSeen end) works
            (λ index work at. record {
              of_book = all-at P (before.books.items ++ map (λ (w : Work). w.book) works) both
                  (length before.books.items + index) work.book
                  (get-beyond before.books.items (map (λ (w : Work). w.book) works) index work.book
                  (slice_get-map (λ (w : Work). w.book) works index ∙ ap (option_map (λ (w : Work). w.book)) at));
              table = suc index;
              of_table = subst (λ found. IsPrefix (option_map_or seen found []) (end.tables (suc index)))
                  (slice_get-map (λ (w : Work). w.dock) works index ∙ ap (option_map (λ (w : Work). w.dock)) at)
                  (row-seen before after (map (λ (work : Work). work.dock) works) spread
                  (length-map works (λ (work : Work). work.dock) ∙ as_many) end each (suc index));
            }),
        record {
          of_book = all-from P before.books.items
              (λ index pass at.
              all-at P (before.books.items ++ map (λ (w : Work). w.book) works) both index pass
              (get-before before.books.items (map (λ (w : Work). w.book) works) index pass at));
          of_tables = rows-seen before after (map (λ (work : Work). work.dock) works) spread
              (length-map works (λ (work : Work). work.dock) ∙ as_many) end each;
        },
      )

-- there is room for one fewer
pub room-left : (books each : ℕ) (before after : Passes) (desk : Desk)
    → IsPutBehind before.books desk.book after.books
    → AreSpread before.tables.items after.tables.items desk.tables.items
    → length desk.tables.items ≡ length before.tables.items → HasRoom (books + 1) (each + 1) before
    → HasRoom books each after
room-left books each before after desk put spread as_many room = record {
  of_book =
      let longer = ap length put.items in
      omega (
        arith,
        after.books.ok.0,
        before.books.ok.0,
        longer,
        length-append before.books.items (desk.book ∷ []),
        room.of_book,
        put.room,
      );
  of_tables = all-from (λ row. vec_len row + each ≤ vec_capacity row) after.tables.items
      (λ index row at.
      let within = slice_get_within after.tables.items index row at in
      let here = spread-at before.tables.items after.tables.items desk.tables.items spread as_many index
      (omega (arith, within, spread.count)) in
      let same : here.2 ≡ row = cc (here.5, at) in
      let old : vec_len here.0 + (each + 1) ≤ vec_capacity here.0 =
      all-at (λ r. vec_len r + (each + 1) ≤ vec_capacity r) before.tables.items room.of_tables index here.0 here.3 in
      let longer = ap length here.6.items in
      subst (λ r. vec_len r + each ≤ vec_capacity r) same
      (omega (
        arith,
        here.2.ok.0,
        here.0.ok.0,
        longer,
        length-append here.0.items (here.1 ∷ []),
        old,
        here.6.room,
      )));
}

-- where there is room for more, there is room for fewer
pub room-fewer : (books each fewer less : ℕ) (passes : Passes) → fewer ≤ books → less ≤ each
    → HasRoom books each passes → HasRoom fewer less passes
room-fewer books each fewer less passes few_books few room = record {
  of_book = omega (arith, room.of_book, few_books);
  of_tables = all-from (λ row. vec_len row + less ≤ vec_capacity row) passes.tables.items
      (λ index row at.
      let old : vec_len row + each ≤ vec_capacity row =
      all-at (λ r. vec_len r + each ≤ vec_capacity r) passes.tables.items room.of_tables index row at in
      omega (arith, old, few));
}
