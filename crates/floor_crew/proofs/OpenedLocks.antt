-- The locks of the tables are opened, from the last table down.
use Rattle.std.proofs.Common.{Global, ◌≡◌, ◌∙◌, refl, sym, ap, subst, ℕ, zero, suc, ◌<◌, List, [], ◌∷◌, ◌++◌, Option, Some, None, length, append_assoc, append-nil, arith}
use Rattle.std.specs.Prelude.{All, Any, IfSome, Vec, slice_get}
use Rattle.std.specs.List.{AllZip}
use Rattle.std.specs.Option.{option_map_or}
use Rattle.std.proofs.lemmas.List.Elements.{All-weaker}
use Rattle.std.proofs.lemmas.Option.{slice_get_within}
use Rattle.std.proofs.lemmas.Slice.Zip.{AllZip-long}
use mathlib.Core.List.{IsPrefix}
use Rattle.history_lock.specs.declared.pass.Pass.{Pass}
use Rattle.history_lock.specs.Entries.{entries_by}
use Rattle.history_lock.specs.Passes.{own, pass_number, seen}
use Rattle.view_rules.specs.declared.entries.TableEntry.{TableEntry}
use Rattle.dock_rules.specs.Tables.{IsLegalTableHistory, table_caller}
use Rattle.table_dock.specs.contracts.hold.TableHoldGrows.TheImpl as of_table_dock
use Rattle.table_dock.specs.declared.hold.TableHold.{TableHold}
use Rattle.table_dock.specs.declared.dock.TableDock.{TableDock}
use Rattle.table_dock.specs.Docks.{dock_id, dock_passes}
use Rattle.session_desk.specs.Desks.{of_table}
use Rattle.session_desk.proofs.Rows.{has-index, if-some}
use Rattle.floor_crew.specs.AtHand.{AreMakers, AreOf}
use Rattle.floor_crew.proofs.Zipped.{zip-at, zip-pop}

-- The passes of a table's dock.
abbrev pub Row : Type 0
Row = Vec (Pass TableHold TableEntry of_table_dock.ghosts) Global

-- What the lock of a table comes to: a legal history, which begins with all that the passes have seen, and which they
-- made.
abbrev pub IsHistory : Row → List TableEntry → Type 0
IsHistory row history =
    IsLegalTableHistory history × All (λ pass. IsPrefix (seen pass) history) row.items
    × AreMakers table_caller row history

-- The passes of a dock that have all its numbers made its history.
pub makers-of : (row : Row) (history : List TableEntry) (count : ℕ)
    → All (λ pass. entries_by table_caller (pass_number pass) history ≡ own pass) row.items
    → ((k : ℕ) → k < count → Any (λ pass. pass_number pass ≡ k) row.items)
    → All (λ entry. table_caller entry < count) history → AreMakers table_caller row history
makers-of row history count each numbers below = record {
  each = each;
  all = All-weaker (λ (entry : TableEntry). table_caller entry < count)
      (λ (entry : TableEntry). Any (λ pass. pass_number pass ≡ table_caller entry) row.items)
      (λ entry less. numbers (table_caller entry) less) history below;
}

-- The locks of the last tables were opened, and those of the others are left.
pub record AreClosing (left all : List Row) : Type 0 where
  pub back : List Row
  pub split : all ≡ left ++ back
  pub histories : List (List TableEntry)
  pub closed : AllZip IsHistory back histories

-- none was opened yet
pub none-closed : (all : List Row) → AreClosing all all
none-closed all = record { back = []; split = sym (append-nil all); histories = []; closed = tt }

-- one more
pub one-closed : (all left more : List Row) (row : Row) (history : List TableEntry) → more ≡ left ++ row ∷ []
    → IsHistory row history → AreClosing more all → AreClosing left all
one-closed all left more row history longer is closing = record {
  back = row ∷ closing.back;
  split = closing.split ∙ (ap (λ l. l ++ closing.back) longer ∙ append_assoc left (row ∷ []) closing.back);
  histories = history ∷ closing.histories;
  closed = (is, closing.closed);
}

-- the histories by the numbers of the tables
abbrev history-at : List (List TableEntry) → ℕ → List TableEntry
history-at histories table = option_map_or (λ (history : List TableEntry). history) (of_table histories table) []

-- where no entry is
none-legal : IsLegalTableHistory []
unfolding IsLegalTableHistory
none-legal = tt

-- All locks were opened.
pub all-closed : (all left : List Row) → length left ≡ 0 → AreClosing left all
    → (histories : ℕ → List TableEntry) × ((table : ℕ) → IsLegalTableHistory (histories table))
    × ((table : ℕ) → IfSome (of_table all table)
    (λ row. All (λ pass. IsPrefix (seen pass) (histories table)) row.items))
    × ((table : ℕ) → IfSome (of_table all table) (λ row. AreMakers table_caller row (histories table)))
    × ((table : ℕ) → of_table all table ≡ None → histories table ≡ [])
all-closed all (row ∷ left) none closing = absurd (omega (arith, none))
all-closed all [] none closing =
    (history-at closing.histories, legal-at, seen-at, made-at, nowhere)
  where
    found : (index : ℕ) (row : Row) → slice_get all index ≡ Some row
        → (history : List TableEntry) × (slice_get closing.histories index ≡ Some history) × IsHistory row history
    found index row at =
        let there : slice_get closing.back index ≡ Some row = subst (λ l. slice_get l index ≡ Some row) closing.split at in
        let within = slice_get_within closing.back index row there in
        let many = AllZip-long IsHistory closing.back closing.histories closing.closed in
        let history = has-index closing.histories index (omega (arith, within, many)) in
        (history.0, history.1, zip-at IsHistory closing.back closing.histories closing.closed index row history.0 there history.1)

    legal-of : (index : ℕ) (one : Option (List TableEntry)) → slice_get closing.histories index ≡ one
        → IsLegalTableHistory (option_map_or (λ (history : List TableEntry). history) one [])
    legal-of index None is = none-legal
    legal-of index (Some history) is =
        let within = slice_get_within closing.histories index history is in
        let many = AllZip-long IsHistory closing.back closing.histories closing.closed in
        let row = has-index closing.back index (omega (arith, within, many)) in
        (zip-at IsHistory closing.back closing.histories closing.closed index row.0 history row.1 is).0

    legal-at : (table : ℕ) → IsLegalTableHistory (history-at closing.histories table)
    legal-at zero = none-legal
    legal-at (suc index) = legal-of index (slice_get closing.histories index) refl

    seen-at : (table : ℕ) → IfSome (of_table all table)
        (λ row. All (λ pass. IsPrefix (seen pass) (history-at closing.histories table)) row.items)
    seen-at zero = tt
    seen-at (suc index) =
        if-some (slice_get all index)
        (λ row. All (λ pass. IsPrefix (seen pass) (history-at closing.histories (suc index))) row.items)
        (λ row at.
        let history = found index row at in
        subst (λ one. All (λ pass. IsPrefix (seen pass)
        (option_map_or (λ (h : List TableEntry). h) one [])) row.items) (sym history.1) history.2.1)

    made-at : (table : ℕ) → IfSome (of_table all table)
        (λ row. AreMakers table_caller row (history-at closing.histories table))
    made-at zero = tt
    made-at (suc index) =
        if-some (slice_get all index)
        (λ row. AreMakers table_caller row (history-at closing.histories (suc index)))
        (λ row at.
        let history = found index row at in
        subst (λ one. AreMakers table_caller row (option_map_or (λ (h : List TableEntry). h) one []))
        (sym history.1) history.2.2)

    nowhere-of : (index : ℕ) (one : Option (List TableEntry)) → slice_get closing.histories index ≡ one
        → slice_get all index ≡ None → option_map_or (λ (history : List TableEntry). history) one [] ≡ []
    nowhere-of index None is gone = refl
    nowhere-of index (Some history) is gone =
        let within = slice_get_within closing.histories index history is in
        let many = AllZip-long IsHistory closing.back closing.histories closing.closed in
        let row = has-index closing.back index (omega (arith, within, many)) in
        let never : None ≡ Some row.0 = sym gone ∙ subst (λ l. slice_get l index ≡ Some row.0) (sym closing.split) row.1 in
        absurd cc

    nowhere : (table : ℕ) → of_table all table ≡ None → history-at closing.histories table ≡ []
    nowhere zero gone = refl
    nowhere (suc index) gone = nowhere-of index (slice_get closing.histories index) refl gone

-- The last dock has all its passes, and so have the others.
pub pop-both : (docks fewer : List TableDock) (dock : TableDock) (tables others : List Row) (row : Row)
    → docks ≡ fewer ++ dock ∷ [] → tables ≡ others ++ row ∷ []
    → AllZip (λ (d : TableDock) r. AreOf (dock_id d) (dock_passes d) r) docks tables
    → AllZip (λ (d : TableDock) r. AreOf (dock_id d) (dock_passes d) r) fewer others
    × AreOf (dock_id dock) (dock_passes dock) row
pop-both docks fewer dock tables others row longer too each =
    zip-pop (λ (d : TableDock) r. AreOf (dock_id d) (dock_passes d) r) fewer others dock row
    (subst (λ (p : List TableDock × List Row). AllZip (λ (d : TableDock) r. AreOf (dock_id d) (dock_passes d) r) p.0 p.1)
    (λ i. (longer i, too i)) each)
