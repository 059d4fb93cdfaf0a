use Rattle.std.proofs.Common.{◌≡◌, ◌∷◌, ◌∙◌, ℕ, zero, suc, [], List, Some, ap}
use Rattle.std.specs.Prelude.{IfSome, slice_get}
use Rattle.std.specs.List.{AllZip}
use Rattle.std.proofs.Common.{subst}
use Rattle.std.proofs.lemmas.Slice.Zip.{AllZip-long}
use Rattle.history_lock.specs.Passes.{lock_of}
use Rattle.table_dock.specs.declared.dock.TableDock.{TableDock}
use Rattle.table_dock.specs.Docks.{dock_id}
use Rattle.book_dock.specs.declared.dock.BookDock.{BookDock}
use Rattle.book_dock.specs.Docks.{book_id}
use Rattle.session_desk.specs.declared.desk.Desk.{Desk}
use Rattle.session_desk.specs.Desks.{ArePassesOf, IsDeskOf}
use Rattle.server_tests.proofs.sessions.hall.make_hall.Goals as goal

-- What holds of two lists place by place holds of what stands in the one where an item is found in the other.
zip-found : {A B : Type 0} (R : A → B → Type 0) (xs : List A) (ys : List B) → AllZip R xs ys → (k : ℕ) (y : B)
    → slice_get ys k ≡ Some y → IfSome (slice_get xs k) (λ x. R x y)
zip-found R [] [] all k y is = absurd (cc)
zip-found R [] (other ∷ ys) all k y is = absurd all
zip-found R (one ∷ xs) [] all k y is = absurd all
zip-found R (one ∷ xs) (other ∷ ys) all zero y is = let same : other ≡ y = cc in subst (R one) same all.0
zip-found R (one ∷ xs) (other ∷ ys) all (suc k) y is = zip-found R xs ys all.1 k y is

-- A desk whose passes of tables are each of the dock in its place.
desk-of : (book : BookDock) (docks : List TableDock) (desk : Desk) → lock_of desk.book ≡ book_id book
    → AllZip (λ pass dock. lock_of pass ≡ dock_id dock) desk.tables.items docks → IsDeskOf book docks desk
desk-of book docks desk its all = record {
  book_pass = its;
  count = let long = AllZip-long _ desk.tables.items docks all in cc;
  passes = found;
} where
  found : ArePassesOf docks desk
  found zero dock is = absurd (cc)
  found (suc k) dock is = zip-found _ desk.tables.items docks all k dock is

pub returns-clause-desk : goal.returns-clause-desk
returns-clause-desk g c =
    desk-of c.open_book-book.result.0 c.make_tables-docks.result.docks.items c.new-desk.result
    (ap lock_of c.new-desk.ensures.passes.0 ∙ c.take_book.ensures.pass.0)
    (let tables = c.new-desk.ensures.passes.1 in rw tables c.make_tables-docks.ensures.desk)

pub returns-clause-other : goal.returns-clause-other
returns-clause-other g c =
    desk-of c.open_book-book.result.0 c.make_tables-docks.result.docks.items c.new-other.result
    (ap lock_of c.new-other.ensures.passes.0 ∙ c.take_book-2.ensures.pass.0)
    (let tables = c.new-other.ensures.passes.1 in rw tables c.make_tables-docks.ensures.other)
