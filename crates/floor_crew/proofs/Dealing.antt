-- Passes are dealt.
use Rattle.std.proofs.Common.{Global, ◌≡◌, ◌∙◌, refl, sym, ap, subst, ℕ, zero, suc, ◌+◌, List, [], ◌∷◌, ◌++◌, Some, length, append_assoc, append-nil, length-append, arith}
use Rattle.std.specs.Prelude.{All, IfSome, Vec, slice_get, vec_len}
use Rattle.std.specs.List.{AllZip}
use Rattle.std.proofs.lemmas.List.Elements.{All-pop}
use Rattle.std.proofs.lemmas.Option.{slice_get_within}
use Rattle.std.proofs.lemmas.Slice.Zip.{AllZip-long}
use Rattle.history_lock.specs.declared.pass.Pass.{Pass}
use Rattle.history_lock.specs.Passes.{AreFresh, IsFresh, LockId, lock_of, own}
use Rattle.view_rules.specs.declared.entries.JournalEntry.{JournalEntry}
use Rattle.view_rules.specs.declared.entries.TableEntry.{TableEntry}
use Rattle.table_dock.specs.contracts.hold.TableHoldGrows.TheImpl as of_table_dock
use Rattle.table_dock.specs.declared.hold.TableHold.{TableHold}
use Rattle.table_dock.specs.declared.dock.TableDock.{TableDock}
use Rattle.table_dock.specs.Docks.{dock_id}
use Rattle.book_dock.specs.contracts.hold.BookHoldGrows.TheImpl as of_book
use Rattle.book_dock.specs.declared.hold.BookHold.{BookHold}
use Rattle.book_dock.specs.Docks.{book_id}
use Rattle.session_desk.specs.declared.desk.Desk.{Desk}
use Rattle.session_desk.specs.Desks.{of_table}
use Rattle.session_desk.proofs.Rows.{at-table, has-index, if-some}
use Rattle.floor_crew.specs.declared.floor.Floor.{Floor}
use Rattle.floor_crew.specs.declared.jobs.Work.{Work}
use Rattle.floor_crew.specs.declared.passes.Pack.{Pack}
use Rattle.floor_crew.specs.AtHand.{IsPack}
use Rattle.floor_crew.specs.Working.{HaveDoneNone, IsIdleAt, IsIdleDesk}
use Rattle.floor_crew.proofs.Zipped.{all-from, get-behind, get-front, get-last, if-found, zip-at, zip-push}

-- The last pass of the book and the last row were dealt to a desk: it is one of the floor, and the others are a pack.
pub desk-dealt : (floor : Floor) (before after : Pack) (desk : Desk)
    → before.books.items ≡ after.books.items ++ desk.book ∷ [] → before.rows.items ≡ after.rows.items ++ desk.tables ∷ []
    → IsPack floor before → IsPack floor after × IsIdleDesk floor desk
desk-dealt floor before after desk books rows pack =
    let split = All-pop (λ pass. (lock_of pass ≡ book_id floor.book) × (own pass ≡ [])) before.books.items
    after.books.items (Some desk.book) books pack.of_book in
    let number = length after.rows.items in
    let last = if-found
    (λ row. AllZip (λ (dock : TableDock) pass. IsFresh (dock_id dock) number [] pass) floor.docks.items row.items)
    (slice_get before.rows.items number) desk.tables
    (subst (λ l. slice_get l number ≡ Some desk.tables) (sym rows) (get-last after.rows.items desk.tables))
    (pack.of_tables number) in (
      record {
        of_book = split.0;
        of_tables = λ other.
            if-some (slice_get after.rows.items other)
            (λ row. AllZip (λ (dock : TableDock) pass. IsFresh (dock_id dock) other [] pass) floor.docks.items row.items)
            (λ row at.
            if-found
            (λ r. AllZip (λ (dock : TableDock) pass. IsFresh (dock_id dock) other [] pass) floor.docks.items r.items)
            (slice_get before.rows.items other) row
            (subst (λ l. slice_get l other ≡ Some row) (sym rows)
            (get-front after.rows.items desk.tables other row at)) (pack.of_tables other));
      },
      record {
        its = record {
          book_pass = split.1.0;
          count = AllZip-long (λ (dock : TableDock) pass. IsFresh (dock_id dock) number [] pass) floor.docks.items
              desk.tables.items last;
          passes = its-passes number last;
        };
        none_at_book = split.1.1;
        none_at_tables = its-none number last;
      },
    )
  where
    its-none : (number : ℕ)
        → AllZip (λ (dock : TableDock) pass. IsFresh (dock_id dock) number [] pass) floor.docks.items desk.tables.items
        → HaveDoneNone desk
    its-none number each zero = tt
    its-none number each (suc index) =
        if-some (slice_get desk.tables.items index) (λ pass. own pass ≡ [])
        (λ pass there.
        let within = slice_get_within desk.tables.items index pass there in
        let many = AllZip-long (λ (dock : TableDock) pass. IsFresh (dock_id dock) number [] pass) floor.docks.items
        desk.tables.items each in
        let dock = has-index floor.docks.items index (omega (arith, within, many)) in
        (zip-at (λ (d : TableDock) p. IsFresh (dock_id d) number [] p) floor.docks.items desk.tables.items each
        index dock.0 pass dock.1 there).none_own)

    its-passes : (number : ℕ)
        → AllZip (λ (dock : TableDock) pass. IsFresh (dock_id dock) number [] pass) floor.docks.items desk.tables.items
        → (table : ℕ) (dock : TableDock) → of_table floor.docks.items table ≡ Some dock
        → IfSome (of_table desk.tables.items table) (λ pass. lock_of pass ≡ dock_id dock)
    its-passes number each zero dock at = absurd (cc (at))
    its-passes number each (suc index) dock at =
        if-some (slice_get desk.tables.items index) (λ pass. lock_of pass ≡ dock_id dock)
        (λ pass there.
        (zip-at (λ (d : TableDock) p. IsFresh (dock_id d) number [] p) floor.docks.items desk.tables.items each
        index dock pass at there).its_lock)

-- The workers of the first docks have their passes. Those of the other docks are left, and some of the book.
pub record AreDealt (floor : Floor) (works : List Work) (books : List (Pass BookHold JournalEntry of_book.ghosts))
    (row : List (Pass TableHold TableEntry of_table_dock.ghosts)) : Type 0 where
  pub done : List TableDock
  pub left : List TableDock
  pub split : floor.docks.items ≡ done ++ left
  pub its : AllZip (IsIdleAt floor) done works
  pub books_left : All (λ pass. (lock_of pass ≡ book_id floor.book) × (own pass ≡ [])) books
  pub row_left : AllZip (λ dock pass. IsFresh (dock_id dock) 0 [] pass) left row

-- One worker more has its passes.
pub one-dealt : (floor : Floor) (works : List Work) (work : Work)
    (before after : List (Pass BookHold JournalEntry of_book.ghosts))
    (row : List (Pass TableHold TableEntry of_table_dock.ghosts)) → work.table ≡ length works + 1
    → before ≡ after ++ work.book ∷ [] → AreDealt floor works before (work.dock ∷ row)
    → AreDealt floor (works ++ work ∷ []) after row
one-dealt floor works work before after row its_number books dealt =
    by-left dealt.done dealt.left dealt.split dealt.its dealt.row_left
  where
    by-left : (done left : List TableDock) → floor.docks.items ≡ done ++ left → AllZip (IsIdleAt floor) done works
        → AllZip (λ (dock : TableDock) pass. IsFresh (dock_id dock) 0 [] pass) left (work.dock ∷ row)
        → AreDealt floor (works ++ work ∷ []) after row
    by-left done [] split its row_left = absurd row_left
    by-left done (dock ∷ left) split its row_left =
        let pass = All-pop (λ pass. (lock_of pass ≡ book_id floor.book) × (own pass ≡ [])) before after
        (Some work.book) books dealt.books_left in
        let many = AllZip-long (IsIdleAt floor) done works its in
        let number : work.table ≡ length done + 1 = omega (arith, its_number, many) in
        let here : slice_get floor.docks.items (length done) ≡ Some dock =
        ap (λ l. slice_get l (length done)) split ∙ get-behind done dock left in
        record {
          done = done ++ dock ∷ [];
          left = left;
          split = split ∙ sym (append_assoc done (dock ∷ []) left);
          its = zip-push (IsIdleAt floor) done works dock work its
              (record {
                its = record {
                  its_table = ap (of_table floor.docks.items) number
                      ∙ (at-table floor.docks.items (length done) ∙ here);
                  its_dock = row_left.0.its_lock;
                  its_book = pass.1.0;
                };
                first = row_left.0.its_number;
                none_at_book = pass.1.1;
                none_at_table = row_left.0.none_own;
              });
          books_left = pass.0;
          row_left = row_left.1;
        }

-- All workers have their passes.
pub all-dealt : (floor : Floor) (works : List Work) (books : List (Pass BookHold JournalEntry of_book.ghosts))
    (row : List (Pass TableHold TableEntry of_table_dock.ghosts)) → length row ≡ 0 → AreDealt floor works books row
    → AllZip (IsIdleAt floor) floor.docks.items works
all-dealt floor works books row none dealt =
    let many = AllZip-long (λ (dock : TableDock) pass. IsFresh (dock_id dock) 0 [] pass) dealt.left row dealt.row_left in
    let gone : dealt.left ≡ [] = empty-of dealt.left (sym many ∙ none) in
    subst (λ l. AllZip (IsIdleAt floor) l works)
    (sym (dealt.split ∙ (ap (λ l. dealt.done ++ l) gone ∙ append-nil dealt.done))) dealt.its
  where
    empty-of : (items : List TableDock) → length items ≡ 0 → items ≡ []
    empty-of [] none = refl
    empty-of (item ∷ items) none = absurd (omega (arith, none))

-- Each row of a pack has as many passes as there are docks.
pub pack-rows : (floor : Floor) (pack : Pack) → IsPack floor pack
    → All (λ row. vec_len row ≡ length floor.docks.items) pack.rows.items
pack-rows floor pack is = all-from (λ row. vec_len row ≡ length floor.docks.items) pack.rows.items
    (λ index row at.
    let each = if-found
    (λ r. AllZip (λ (dock : TableDock) pass. IsFresh (dock_id dock) index [] pass) floor.docks.items r.items)
    (slice_get pack.rows.items index) row at (is.of_tables index) in
    row.ok.0
    ∙ AllZip-long (λ (dock : TableDock) pass. IsFresh (dock_id dock) index [] pass) floor.docks.items row.items each)

-- The passes of a lock as it was made have done nothing.
pub fresh-idle : (lock : LockId) (history : List JournalEntry)
    (passes : List (Pass BookHold JournalEntry of_book.ghosts)) → AreFresh lock history passes
    → All (λ pass. (lock_of pass ≡ lock) × (own pass ≡ [])) passes
fresh-idle lock history passes fresh = all-from (λ pass. (lock_of pass ≡ lock) × (own pass ≡ [])) passes
    (λ index pass at. let is = fresh index pass at in (is.its_lock, is.none_own))

-- the passes of the one row that is left
pub last-row : (floor : Floor) (pack : Pack) (front : List (Vec (Pass TableHold TableEntry of_table_dock.ghosts) Global))
    (row : Vec (Pass TableHold TableEntry of_table_dock.ghosts) Global) → pack.rows.items ≡ front ++ row ∷ []
    → vec_len pack.rows ≡ 1 → IsPack floor pack
    → AllZip (λ (dock : TableDock) pass. IsFresh (dock_id dock) 0 [] pass) floor.docks.items row.items
last-row floor pack front row rows one is =
    let longer = ap length rows in
    let none : length front ≡ 0 = omega (arith, one, pack.rows.ok.0, longer, length-append front (row ∷ [])) in
    let at : slice_get pack.rows.items 0 ≡ Some row =
    subst (λ k. slice_get pack.rows.items k ≡ Some row) none
    (subst (λ l. slice_get l (length front) ≡ Some row) (sym rows) (get-last front row)) in
    if-found (λ r. AllZip (λ (dock : TableDock) pass. IsFresh (dock_id dock) 0 [] pass) floor.docks.items r.items)
    (slice_get pack.rows.items 0) row at (is.of_tables 0)
