-- What came back from the desks and from the workers is taken apart.
use Rattle.std.proofs.Common.{◌≡◌, ◌∙◌, refl, sym, ap, subst, ℕ, ◌+◌, Bool, List, [], ◌∷◌, ◌++◌, Option, None, Some, length, map, append_assoc, append-nil, length-append, arith}
use Rattle.std.specs.Prelude.{All, option_to_list, vec_len}
use Rattle.std.specs.List.{cons_option, filter_map}
use Rattle.std.proofs.lemmas.List.{map-append}
use Rattle.std.proofs.lemmas.List.Elements.{All-nil, All-pop, All-push, filter_map-append}
use Rattle.history_lock.specs.declared.pass.Pass.{Pass}
use Rattle.view_rules.specs.declared.entries.TableEntry.{TableEntry}
use Rattle.table_dock.specs.contracts.hold.TableHoldGrows.TheImpl as of_table_dock
use Rattle.table_dock.specs.declared.hold.TableHold.{TableHold}
use Rattle.session_desk.specs.Desks.{AreLater, IsDeskOf, Sights, of_table, sights}
use Rattle.session_desk.proofs.Rows.{with-itself}
use Rattle.floor_crew.specs.declared.floor.Floor.{Floor}
use Rattle.floor_crew.specs.declared.jobs.Attended.{Attended}
use Rattle.floor_crew.specs.declared.jobs.Work.{Work}
use Rattle.floor_crew.specs.declared.passes.Passes.{Passes}
use Rattle.floor_crew.specs.AtHand.{AreCollected, AreSeen, HasRoom}
use Rattle.floor_crew.specs.Rows.{AreSpread, HaveGrown}
use Rattle.floor_crew.proofs.Spreading.{grown-more}

-- what is made of one item
only-one : {A : Type 0} (found : Option A) → cons_option found [] ≡ option_to_list found
only-one None = refl
only-one (Some item) = refl

module _ {D : Type 0} where
  -- The first desks were taken apart, and the others are left: their doors are here, and their passes were collected.
  pub record IsTaking (first : Passes) (all done left : List (Attended D)) (doors : List D) (failed : List Bool)
      (passes : Passes) : Type 0 where
    pub split : all ≡ done ++ left
    pub doors_are : doors ≡ map (λ (one : Attended D). one.door) done
    pub failed_are : failed ≡ map (λ (one : Attended D). one.failed) done
    pub count : vec_len passes.tables ≡ vec_len first.tables
    pub books_are : passes.books.items ≡ first.books.items ++ map (λ (one : Attended D). one.desk.book) done
    pub rows : HaveGrown first.tables.items passes.tables.items
        (λ table. filter_map (λ (one : Attended D). of_table one.desk.tables.items table) done)
    pub room : (books each : ℕ) → HasRoom (books + length done) (each + length done) first → HasRoom books each passes
    pub collected : (floor : Floor) (books each : ℕ)
        → All (λ (one : Attended D). IsDeskOf floor.book floor.docks.items one.desk) done
        → AreCollected floor books each first
        → AreCollected floor (books + length done) (each + length done) passes
    pub seen : (end : Sights) → AreSeen end passes
        → All (λ (one : Attended D). AreLater (sights one.desk) end) done × AreSeen end first

  -- none was taken apart yet
  pub taking-none : (first : Passes) (all : List (Attended D)) (doors : List D) (failed : List Bool) → doors ≡ []
      → failed ≡ [] → IsTaking first all [] all doors failed first
  taking-none first all doors failed no_doors none = record {
    split = refl;
    doors_are = no_doors;
    failed_are = none;
    count = refl;
    books_are = sym (append-nil first.books.items);
    rows = λ table.
        with-itself (λ one other. other.items ≡ one.items ++ []) (λ row. sym (append-nil row.items))
        (of_table first.tables.items table);
    room = λ books each room.
        let same : books + 0 ≡ books = omega arith in let also : each + 0 ≡ each = omega arith in
        subst (λ (n : ℕ × ℕ). HasRoom n.0 n.1 first) (λ i. (same i, also i)) room;
    collected = λ floor books each its had.
        let same : books + 0 ≡ books = omega arith in let also : each + 0 ≡ each = omega arith in
        subst (λ (n : ℕ × ℕ). AreCollected floor n.0 n.1 first) (λ i. (sym same i, sym also i)) had;
    seen = λ end each. (All-nil (λ (one : Attended D). AreLater (sights one.desk) end), each);
  }

  -- one more
  pub taking-one : (first : Passes) (all done left : List (Attended D)) (one : Attended D) (doors : List D)
      (failed : List Bool) (before after : Passes) → vec_len after.tables ≡ vec_len before.tables
      → after.books.items ≡ before.books.items ++ one.desk.book ∷ []
      → HaveGrown before.tables.items after.tables.items
      (λ table. option_to_list (of_table one.desk.tables.items table))
      → ((books each : ℕ) → HasRoom (books + 1) (each + 1) before → HasRoom books each after)
      → ((floor : Floor) (books each : ℕ) → IsDeskOf floor.book floor.docks.items one.desk
      → AreCollected floor books each before → AreCollected floor (books + 1) (each + 1) after)
      → ((end : Sights) → AreSeen end after → AreLater (sights one.desk) end × AreSeen end before)
      → IsTaking first all done (one ∷ left) doors failed before
      → IsTaking first all (done ++ one ∷ []) left (doors ++ one.door ∷ []) (failed ++ one.failed ∷ []) after
  taking-one first all done left one doors failed before after count books rows room collected seen taking =
      let longer : length (done ++ one ∷ []) ≡ length done + 1 = length-append done (one ∷ []) in
      record {
        split = taking.split ∙ sym (append_assoc done (one ∷ []) left);
        doors_are =
            ap (λ l. l ++ one.door ∷ []) taking.doors_are
            ∙ sym (map-append (λ (a : Attended D). a.door) done (one ∷ []));
        failed_are =
            ap (λ l. l ++ one.failed ∷ []) taking.failed_are
            ∙ sym (map-append (λ (a : Attended D). a.failed) done (one ∷ []));
        count = count ∙ taking.count;
        books_are = books
            ∙ (ap (λ l. l ++ one.desk.book ∷ []) taking.books_are
            ∙ (append_assoc first.books.items (map (λ (a : Attended D). a.desk.book) done) (one.desk.book ∷ [])
            ∙ ap (λ l. first.books.items ++ l) (sym (map-append (λ (a : Attended D). a.desk.book) done (one ∷ [])))));
        rows = subst (HaveGrown first.tables.items after.tables.items) (λ i. λ table. rows-of table i)
            (grown-more first.tables.items before.tables.items after.tables.items
            (λ table. filter_map (λ (a : Attended D). of_table a.desk.tables.items table) done)
            (λ table. option_to_list (of_table one.desk.tables.items table))
            (omega (arith, taking.count, before.tables.ok.0, first.tables.ok.0)) taking.rows rows);
        room = λ books each had.
            let same : books + length (done ++ one ∷ []) ≡ (books + 1) + length done = omega (arith, longer) in
            let also : each + length (done ++ one ∷ []) ≡ (each + 1) + length done = omega (arith, longer) in
            room books each
            (taking.room (books + 1) (each + 1)
            (subst (λ (n : ℕ × ℕ). HasRoom n.0 n.1 first) (λ i. (same i, also i)) had));
        collected = λ floor books each its had.
            let split = All-pop (λ (a : Attended D). IsDeskOf floor.book floor.docks.items a.desk) (done ++ one ∷ []) done
            (Some one) refl its in
            let same : books + length (done ++ one ∷ []) ≡ (books + length done) + 1 = omega (arith, longer) in
            let also : each + length (done ++ one ∷ []) ≡ (each + length done) + 1 = omega (arith, longer) in
            subst (λ (n : ℕ × ℕ). AreCollected floor n.0 n.1 after) (λ i. (sym same i, sym also i))
            (collected floor (books + length done) (each + length done) split.1
            (taking.collected floor books each split.0 had));
        seen = λ end each.
            let now = seen end each in
            let before = taking.seen end now.1 in
            (All-push (λ (a : Attended D). AreLater (sights a.desk) end) done one before.0 now.0, before.1);
      }
    where
      rows-of : (table : ℕ)
          → filter_map (λ (a : Attended D). of_table a.desk.tables.items table) done
          ++ option_to_list (of_table one.desk.tables.items table)
          ≡ filter_map (λ (a : Attended D). of_table a.desk.tables.items table) (done ++ one ∷ [])
      rows-of table =
          ap (λ l. filter_map (λ (a : Attended D). of_table a.desk.tables.items table) done ++ l)
          (sym (only-one (of_table one.desk.tables.items table)))
          ∙ sym (filter_map-append (λ (a : Attended D). of_table a.desk.tables.items table) done (one ∷ []))

  -- all were taken apart
  pub taken-all : (all done left : List (Attended D)) → all ≡ done ++ left → length left ≡ 0 → done ≡ all
  taken-all all done [] split none = sym (split ∙ append-nil done)
  taken-all all done (one ∷ left) split none = absurd (omega (arith, none))

  -- how many they are
  pub split-long : (all done left : List (Attended D)) → all ≡ done ++ left → length all ≡ length done + length left
  split-long all done left split = ap length split ∙ length-append done left

-- The passes of the first workers were taken out, those of the docks into a row, and those of the others are left.
pub record IsGathering (first : Passes) (all done left : List Work)
    (row : List (Pass TableHold TableEntry of_table_dock.ghosts)) (passes : Passes) : Type 0 where
  pub split : all ≡ done ++ left
  pub tables_are : passes.tables ≡ first.tables
  pub row_is : row ≡ map (λ (work : Work). work.dock) done
  pub books_are : passes.books.items ≡ first.books.items ++ map (λ (work : Work). work.book) done

-- none was taken out yet
pub gathering-none : (first : Passes) (all : List Work) (row : List (Pass TableHold TableEntry of_table_dock.ghosts))
    → row ≡ [] → IsGathering first all [] all row first
gathering-none first all row none =
    record { split = refl; tables_are = refl; row_is = none; books_are = sym (append-nil first.books.items) }

-- one more
pub gathering-one : (first : Passes) (all done left : List Work) (work : Work)
    (row : List (Pass TableHold TableEntry of_table_dock.ghosts)) (before after : Passes)
    → after.tables ≡ before.tables → after.books.items ≡ before.books.items ++ work.book ∷ []
    → IsGathering first all done (work ∷ left) row before
    → IsGathering first all (done ++ work ∷ []) left (row ++ work.dock ∷ []) after
gathering-one first all done left work row before after tables books gathering = record {
  split = gathering.split ∙ sym (append_assoc done (work ∷ []) left);
  tables_are = tables ∙ gathering.tables_are;
  row_is = ap (λ l. l ++ work.dock ∷ []) gathering.row_is ∙ sym (map-append (λ (w : Work). w.dock) done (work ∷ []));
  books_are = books
      ∙ (ap (λ l. l ++ work.book ∷ []) gathering.books_are
      ∙ (append_assoc first.books.items (map (λ (w : Work). w.book) done) (work.book ∷ [])
      ∙ ap (λ l. first.books.items ++ l) (sym (map-append (λ (w : Work). w.book) done (work ∷ [])))));
}

-- all were taken out
pub gathered-all : (first : Passes) (all done left : List Work)
    (row : List (Pass TableHold TableEntry of_table_dock.ghosts)) (passes : Passes) → length left ≡ 0
    → IsGathering first all done left row passes → IsGathering first all all [] row passes
gathered-all first all done [] row passes none gathering =
    let same : done ≡ all = sym (gathering.split ∙ append-nil done) in
    subst (λ l. IsGathering first all l [] row passes) same gathering
gathered-all first all done (work ∷ left) row passes none gathering = absurd (omega (arith, none))

-- what was put behind the rows of the tables, where all were taken out
pub gathered-spread : (first passes after : Passes) (works : List Work)
    (row : List (Pass TableHold TableEntry of_table_dock.ghosts)) → IsGathering first works works [] row passes
    → AreSpread passes.tables.items after.tables.items row
    → AreSpread first.tables.items after.tables.items (map (λ (work : Work). work.dock) works)
gathered-spread first passes after works row gathering spread =
    let kept = ap (λ v. v.items) gathering.tables_are in
    subst (λ before. AreSpread before after.tables.items (map (λ (work : Work). work.dock) works)) kept
    (subst (AreSpread passes.tables.items after.tables.items) gathering.row_is spread)
