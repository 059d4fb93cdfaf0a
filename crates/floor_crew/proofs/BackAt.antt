-- Those who came back to a floor: where each worker and each desk stands, and their passes of the book.
use Rattle.std.proofs.Common.{◌≡◌, ◌∙◌, sym, ap, ℕ, suc, ◌+◌, List, ◌++◌, Some, length, map, arith}
use Rattle.std.specs.Prelude.{option_map, slice_get}
use Rattle.std.specs.List.{AllZip}
use Rattle.std.proofs.lemmas.List.{length-map}
use Rattle.std.proofs.lemmas.Option.{slice_get-map, slice_get_within}
use Rattle.std.proofs.lemmas.Slice.Zip.{AllZip-long}
use Rattle.session_desk.specs.Desks.{AreInOrder}
use Rattle.session_desk.proofs.Rows.{has-index}
use Rattle.floor_crew.specs.declared.floor.Floor.{Floor}
use Rattle.floor_crew.specs.declared.jobs.Attended.{Attended}
use Rattle.floor_crew.specs.declared.jobs.Work.{Work}
use Rattle.floor_crew.specs.Working.{IsWorkAt}
use Rattle.floor_crew.proofs.Callers.{Book}
use Rattle.floor_crew.proofs.Zipped.{get-before, get-beyond, zip-at}

-- The worker of each table has its number.
pub table-is : (floor : Floor) (after : List Work) → AreInOrder floor.docks.items
    → AllZip (IsWorkAt floor) floor.docks.items after → (index : ℕ) (work : Work) → slice_get after index ≡ Some work
    → work.table ≡ suc index
table-is floor after order works index work at =
    let many = AllZip-long (IsWorkAt floor) floor.docks.items after works in
    let within = slice_get_within after index work at in
    let dock = has-index floor.docks.items index (omega (arith, within, many)) in
    let its = zip-at (IsWorkAt floor) floor.docks.items after works index dock.0 work dock.1 at in
    sym (order work.table dock.0 its.its_table) ∙ order (suc index) dock.0 dock.1

module _ {D : Type 0} (attended : List (Attended D)) (after : List Work) (books : List Book)
    (are : books ≡ map (λ (one : Attended D). one.desk.book) attended ++ map (λ (work : Work). work.book) after) where
  -- A desk's pass of the book stands at the place of the desk.
  pub desk-at : (index : ℕ) (one : Attended D) → slice_get attended index ≡ Some one
      → slice_get books index ≡ Some one.desk.book
  desk-at index one at =
      ap (λ l. slice_get l index) are
      ∙ get-before (map (λ (a : Attended D). a.desk.book) attended) (map (λ (w : Work). w.book) after) index
      one.desk.book
      (slice_get-map (λ (a : Attended D). a.desk.book) attended index
      ∙ ap (option_map (λ (a : Attended D). a.desk.book)) at)

  -- A worker's pass stands behind those of the desks.
  pub work-at : (index : ℕ) (work : Work) → slice_get after index ≡ Some work
      → slice_get books (length attended + index) ≡ Some work.book
  work-at index work at =
      ap (λ l. slice_get l (length attended + index)) are
      ∙ (ap (slice_get (map (λ (one : Attended D). one.desk.book) attended ++ map (λ (w : Work). w.book) after))
      (ap (λ (n : ℕ). n + index) (sym (length-map attended (λ (one : Attended D). one.desk.book))))
      ∙ get-beyond (map (λ (one : Attended D). one.desk.book) attended) (map (λ (w : Work). w.book) after) index
      work.book
      (slice_get-map (λ (w : Work). w.book) after index ∙ ap (option_map (λ (w : Work). w.book)) at))
