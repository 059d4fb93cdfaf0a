-- The lines of a table are told.
use Rattle.std.proofs.Common.{◌≡◌, ◌≢◌, ◌∙◌, refl, sym, ap, subst, ℕ, ◌+◌, zero, suc, ◌<◌, ◌≤◌, Bool, false, List, [], ◌∷◌, ◌++◌, Some, Result, length, take, append-nil, arith}
use Rattle.std.specs.Prelude.{◌==◌, slice_get}
use Rattle.std.specs.List.{insert, remove}
use Rattle.std.proofs.lemmas.Bool.Decides.{nat_tests}
use Rattle.std.proofs.lemmas.List.Sums.{fold-append}
use mathlib.Core.List.{IsPrefix}
use Rattle.view_rules.specs.declared.entries.TableEntry.{TableEntry}
use Rattle.view_rules.specs.Entries.{TableTold, told_after}
use Rattle.view_rules.specs.Shown.{Viewer}
use Rattle.dock_rules.specs.Tables.{lying_hand, told_through}
use Rattle.dock_rules.proofs.Tables.{told-hand}
use Rattle.history_lock.specs.declared.pass.Pass.{Pass}
use Rattle.history_lock.specs.Holds.{IsHold}
use Rattle.history_lock.specs.Passes.{seen}
use Rattle.table_dock.specs.declared.end.Untold.{Untold}
use Rattle.table_dock.specs.Telling.{IsPieceRead, entries_between, number_told}
use Rattle.session_desk.specs.declared.desk.Desk.{Desk}
use Rattle.session_desk.specs.declared.told.Watch.{Watch}
use Rattle.session_desk.specs.Desks.{HasDeskMoved, IsSameBut, nothing, of_table, sights}
use Rattle.session_desk.specs.Standings.{count_of}
use Rattle.session_desk.specs.Telling.{HasToldTable, IsWatch, first_teller}
use Rattle.session_desk.specs.Moves.{HasMoved}
use Rattle.session_desk.proofs.AtTables.{count-most}
use Rattle.session_desk.proofs.DeskMoves.{moved-at}
use Rattle.session_desk.proofs.Fronts.{front-kept, front-on}
use Rattle.session_desk.proofs.Moving.{moved-fewer, moved-hold}
use Rattle.session_desk.proofs.Rows.{at-table, put-elsewhere, put-here}

-- Who tells of a table tells of it after entries, too.
told-table : (told : TableTold) (entries : List TableEntry) → (told_through told entries).table ≡ told.table
told-table told [] = refl
told-table told (entry ∷ entries) = told-table (told_after told entry) entries

-- A watch is of its table.
pub watch-table : (who : Viewer) (table : ℕ) (history : List TableEntry) (watch : Watch)
    → IsWatch who table history watch → watch.teller.table ≡ table
watch-table who table history watch is =
    ap (λ (t : TableTold). t.table) is.teller ∙ told-table (first_teller who table) (take watch.told history)

-- And it has the hand that lay there when it was told last.
pub watch-hand : (who : Viewer) (table : ℕ) (history : List TableEntry) (watch : Watch)
    → IsWatch who table history watch → watch.teller.hand ≡ lying_hand (take watch.told history)
unfolding lying_hand
watch-hand who table history watch is =
    ap (λ (t : TableTold). t.hand) is.teller ∙ told-hand (first_teller who table) (take watch.told history)

-- What a desk has seen of the table of an index is what its pass has seen.
pub sights-at : (desk : Desk) (index : ℕ) (pass : Pass _ _ _) → slice_get desk.tables.items index ≡ Some pass
    → (sights desk).tables (index + 1) ≡ seen pass
sights-at desk index pass is =
    let e : of_table desk.tables.items (index + 1) ≡ Some pass = at-table desk.tables.items index ∙ is in
    rw e refl

-- The lines that a table's dock wrote are those that are told.
pub table-told : (history at : List TableEntry) (most : ℕ) (before after : Watch) (answer : Result ℕ Untold)
    (left : Bool) (had has : List ℕ) → history ≡ at
    → IsPieceRead at before.told most before.teller after.teller had has answer → after.told ≡ number_told answer
    → (left ≡ false → length at ≤ after.told) → HasToldTable history before after left had has
table-told history at most before after answer left had has same read up so =
    let within : after.told ≤ length at = rw up read.told.within in
    subst (λ (l : List TableEntry). HasToldTable l before after left had has) (sym same)
    record {
      in_order = rw up read.told.in_order;
      within = within;
      teller = rw up read.told.teller;
      text = rw up read.told.lines;
      all = λ none. let reached = so none in omega (arith, within, reached);
    }

-- And who tells stands where they end.
pub watch-on : (who : Viewer) (table : ℕ) (old at history : List TableEntry) (most : ℕ) (before after : Watch)
    (answer : Result ℕ Untold) (had has : List ℕ) → IsPrefix old at → history ≡ at
    → IsPieceRead at before.told most before.teller after.teller had has answer → after.told ≡ number_told answer
    → IsWatch who table old before → IsWatch who table history after
watch-on who table old at history most before after answer had has longer same read up is =
    let last = number_told answer in
    let front : take before.told old ≡ take before.told at = front-kept old at before.told longer is.within in
    subst (λ (l : List TableEntry). IsWatch who table l after) (sym same)
    record {
      within = rw up read.told.within;
      teller = rw up
          (read.told.teller
          ∙ (ap (λ (t : TableTold). told_through t (entries_between before.told last at)) is.teller
          ∙ (ap (λ (l : List TableEntry).
          told_through (told_through (first_teller who table) l) (entries_between before.told last at)) front
          ∙ (sym (fold-append told_after (first_teller who table) (take before.told at)
          (entries_between before.told last at))
          ∙ ap (told_through (first_teller who table))
          (front-on at before.told last read.told.in_order)))));
    }

-- A desk is as it was but for its pass of a table, however often that is used.
pub same-itself : (table : ℕ) (desk : Desk) → IsSameBut table desk desk
same-itself table desk = record { book = refl; others = λ other ne. refl }

pub same-both : (table : ℕ) (before mid after : Desk) → IsSameBut table before mid → IsSameBut table mid after
    → IsSameBut table before after
same-both table before mid after one two = record {
  book = two.book ∙ one.book;
  others = λ other ne. two.others other ne ∙ one.others other ne;
}

-- A desk that looked at one table with its pass.
module _ (index : ℕ) (before after : Desk) (pass later : Pass _ _ _)
    (within : index < length before.tables.items) (is : slice_get before.tables.items index ≡ Some pass)
    (put : after.tables.items ≡ insert (remove before.tables.items index) index later)
    (book : after.book ≡ before.book) where
  -- no other table is looked at
  none-else : (table : ℕ) → table ≢ suc index → count_of (table == index + 1) ≡ 0
  none-else table ne = let other : (table == index + 1) ≡ false = grind (arith, nat_tests) in rw other refl

  -- It moved on by that hold.
  pub looked-at : (at added : List TableEntry) → after.asked.items ≡ before.asked.items → IsHold pass later at added
      → added ≡ [] → HasDeskMoved 0 (λ table. count_of (table == index + 1)) nothing before after
  looked-at at added asked hold none =
      moved-at index (λ table. count_of (table == index + 1)) [] before after pass later within is put none-else
      (λ caller table ne. refl) book (asked ∙ sym (append-nil before.asked.items))
      (subst (λ (l : List TableEntry). HasMoved (count_of (suc index == index + 1)) l pass later) none
      (moved-fewer (count_of (suc index == index + 1)) 1 added pass later (count-most _)
      (moved-hold pass later at added hold)))

  -- the item of each other table
  others : (other : ℕ) → other ≢ index + 1 → of_table after.tables.items other ≡ of_table before.tables.items other
  others zero ne = refl
  others (suc other) ne =
      let apart : other ≢ index = λ same. ne (omega (arith, same)) in
      ap (λ items. slice_get items other) put ∙ put-elsewhere before.tables.items index other later within apart

  -- And it is as it was but for that pass.
  pub same-but : IsSameBut (index + 1) before after
  same-but = record { book = book; others = others }

  -- What it has seen of that table is what the hold found.
  pub sights-left : (at added : List TableEntry) → IsHold pass later at added → added ≡ []
      → (sights after).tables (index + 1) ≡ at
  sights-left at added hold none =
      sights-at after index later
      (ap (λ items. slice_get items index) put ∙ put-here before.tables.items index later within)
      ∙ (hold.left ∙ (ap (λ (l : List TableEntry). at ++ l) none ∙ append-nil at))
