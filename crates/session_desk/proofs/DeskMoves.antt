-- What a desk did with its passes.
use Rattle.std.proofs.Common.{◌≡◌, ◌≢◌, ◌∙◌, refl, sym, ap, subst, ℕ, zero, suc, ◌<◌, List, [], ◌++◌, Some, ◌+◌, true, Option, None, ◌∷◌, length, filter, map, append-nil, append_assoc, arith}
use Rattle.std.specs.Prelude.{◌==◌, slice_get, is_some, IfSome}
use Rattle.std.specs.List.{insert, remove}
use Rattle.std.proofs.lemmas.List.{map-append}
use Rattle.std.proofs.lemmas.List.Elements.{filter-append}
use Rattle.std.specs.Option.{option_map_or}
use mathlib.Core.List.{IsPrefix}
use mathlib.Core.Logic.{dite}
use native.Mathlib.Decide.{ℕ_discrete}
use Rattle.history_lock.specs.declared.grows.Grows.{Ghosts}
use Rattle.history_lock.specs.declared.pass.Pass.{Pass}
use Rattle.history_lock.specs.Passes.{IsSameButKnown, LockId, lock_of, pass_number, seen}
use Rattle.history_lock.proofs.Prefixes.{prefix_self, prefix_trans}
use Rattle.view_rules.specs.declared.entries.TableEntry.{TableEntry}
use Rattle.view_rules.specs.declared.entries.TableEntry.TheVariants.{Acted}
use Rattle.table_dock.specs.declared.dock.TableDock.{TableDock}
use Rattle.table_dock.specs.Docks.{dock_id}
use Rattle.book_dock.specs.declared.dock.BookDock.{BookDock}
use Rattle.session_desk.specs.declared.desk.Asked.{Asked}
use Rattle.session_desk.specs.declared.desk.Desk.{Desk}
use Rattle.session_desk.specs.Desks.{AreLater, ArePassesOf, Brought, IsDeskOf, HasDeskMoved, acted_at, nothing, numbers_of, of_table, sights, Sights}
use Rattle.session_desk.specs.Moves.{HasMoved}
use Rattle.session_desk.proofs.Moving.{moved-both, moved-known, moved-none}
use Rattle.session_desk.proofs.Rows.{of-found, put-count, put-elsewhere, put-here, with-itself}

-- Two desks have the same passes, and list the same.
pub record IsSame (one other : Desk) : Type 0 where
  pub book : other.book ≡ one.book
  pub tables : other.tables ≡ one.tables
  pub asked : other.asked.items ≡ one.asked.items

-- a desk and itself
pub same-desk : (desk : Desk) → IsSame desk desk
same-desk desk = record { book = refl; tables = refl; asked = refl }

-- what is so of the passes of a table before and after
abbrev pub IsMovedAt : (ℕ → ℕ) → List Asked → Desk → Desk → ℕ → Type 0
IsMovedAt looks acts before after table =
    IfSome (of_table before.tables.items table)
    (λ one. IfSome (of_table after.tables.items table)
    (λ other. HasMoved (looks table) (acted_at (pass_number one) table acts) one other))

-- A desk that did nothing.
pub moved-still : (looks : ℕ → ℕ) (before after : Desk) → ((table : ℕ) → looks table ≡ 0) → IsSame before after
    → HasDeskMoved 0 looks nothing before after
moved-still looks before after none same = record {
  book = let e : after.book ≡ before.book = same.book in rw e (moved-none before.book);
  count = ap (λ row. length row.items) same.tables;
  tables = λ table.
      let e : after.tables ≡ before.tables = same.tables in
      let z : looks table ≡ 0 = none table in
      rw e (rw z (with-itself (λ one other. HasMoved 0 [] one other) moved-none (of_table before.tables.items table)));
  asked = same.asked ∙ sym (append-nil before.asked.items);
}

-- A desk that learned how many entries the journal has.
pub moved-known_so : (before after : Desk) → IsSameButKnown before.book after.book → after.tables ≡ before.tables
    → after.asked.items ≡ before.asked.items → HasDeskMoved 0 (λ table. 0) nothing before after
moved-known_so before after known tables asked = record {
  book = moved-known before.book after.book known;
  count = ap (λ row. length row.items) tables;
  tables = λ table.
      let e : after.tables ≡ before.tables = tables in
      rw e (with-itself (λ one other. HasMoved 0 [] one other) moved-none (of_table before.tables.items table));
  asked = asked ∙ sym (append-nil before.asked.items);
}

-- What was done from a desk on was done from one with the same passes.
pub moved-from : (looks : ℕ) (table_looks : ℕ → ℕ) (brought : Brought) (before start after : Desk)
    → IsSame before start → HasDeskMoved looks table_looks brought start after
    → HasDeskMoved looks table_looks brought before after
moved-from looks table_looks brought before start after same moved = record {
  book = let e : start.book ≡ before.book = same.book in rw (← e) moved.book;
  count = moved.count ∙ ap (λ row. length row.items) same.tables;
  tables = λ table. let e : start.tables ≡ before.tables = same.tables in rw (← e) (moved.tables table);
  asked = moved.asked ∙ ap (λ items. items ++ brought.acts) same.asked;
}

-- It is so of as many holds, told in another way.
pub moved-alike : (looks : ℕ) (some others : ℕ → ℕ) (brought : Brought) (before after : Desk)
    → ((table : ℕ) → some table ≡ others table) → HasDeskMoved looks some brought before after
    → HasDeskMoved looks others brought before after
moved-alike looks some others brought before after alike moved =
    subst (λ (f : ℕ → ℕ). HasDeskMoved looks f brought before after) (λ i table. alike table i) moved

-- A desk whose pass of one table alone was used.
module _ (index : ℕ) (looks : ℕ → ℕ) (acts : List Asked) (before after : Desk) (pass later : Pass _ _ _)
    (within : index < length before.tables.items) (is : slice_get before.tables.items index ≡ Some pass)
    (put : after.tables.items ≡ insert (remove before.tables.items index) index later)
    (none : (table : ℕ) → table ≢ suc index → looks table ≡ 0)
    (no_act : (caller table : ℕ) → table ≢ suc index → acted_at caller table acts ≡ []) where
  -- each other table's
  elsewhere : (other : ℕ) → other ≢ index → IsMovedAt looks acts before after (suc other)
  elsewhere other ne =
      let apart : suc other ≢ suc index = λ same. ne (cc) in
      let row : slice_get after.tables.items other ≡ slice_get before.tables.items other =
      ap (λ items. slice_get items other) put ∙ put-elsewhere before.tables.items index other later within ne in
      let z : looks (suc other) ≡ 0 = none (suc other) apart in
      rw row (rw z (with-itself (λ one two. HasMoved 0 (acted_at (pass_number one) (suc other) acts) one two)
      (λ one. let e : acted_at (pass_number one) (suc other) acts ≡ [] = no_act (pass_number one) (suc other) apart in
      subst (λ added. HasMoved 0 added one one) (sym e) (moved-none one))
      (slice_get before.tables.items other)))

  -- the table's own, and so each
  at-each : HasMoved (looks (suc index)) (acted_at (pass_number pass) (suc index) acts) pass later → (table : ℕ)
      → IsMovedAt looks acts before after table
  at-each moved zero = tt
  at-each moved (suc other) =
      dite (ℕ_discrete other index)
      (λ same. subst (IsMovedAt looks acts before after) (ap suc (sym same))
      (of-found (λ one two. HasMoved (looks (suc index)) (acted_at (pass_number one)
      (suc index) acts) one two) pass later
      (slice_get before.tables.items index) (slice_get after.tables.items index) is
      (ap (λ items. slice_get items index) put ∙ put-here before.tables.items index later within) moved))
      (λ ne. elsewhere other ne)

  -- so the desk moved by what that table's pass did
  pub moved-at : after.book ≡ before.book → after.asked.items ≡ before.asked.items ++ acts
      → HasMoved (looks (suc index)) (acted_at (pass_number pass) (suc index) acts) pass later
      → HasDeskMoved 0 looks record { acts = acts; orders = [] } before after
  moved-at book asked moved = record {
    book = let e : after.book ≡ before.book = book in rw e (moved-none before.book);
    count = ap length put ∙ put-count before.tables.items index later within;
    tables = at-each moved;
    asked = asked;
  }

-- the acts of two lists at a table are those of the one and those of the other
acted-both : (caller table : ℕ) (first second : List Asked)
    → acted_at caller table (first ++ second) ≡ acted_at caller table first ++ acted_at caller table second
acted-both caller table first second =
    ap (map (λ (asked : Asked). Acted caller asked.act))
    (filter-append (λ (asked : Asked). asked.table == table) first second)
    ∙ map-append (λ (asked : Asked). Acted caller asked.act) (filter (λ (asked : Asked). asked.table == table) first)
    (filter (λ (asked : Asked). asked.table == table) second)

-- what the passes of a table did, one after another
both-found : {Val : Type 0} {g : Ghosts Val TableEntry} (least more table : ℕ) (first second : List Asked)
    (one mid other : Option (Pass Val TableEntry g))
    → IfSome one (λ x. IfSome mid (λ y. HasMoved least (acted_at (pass_number x) table first) x y))
    → IfSome mid (λ y. IfSome other (λ z. HasMoved more (acted_at (pass_number y) table second) y z))
    → (is_some one ≡ true → is_some mid ≡ true)
    → IfSome one (λ x. IfSome other (λ z. HasMoved (least + more) (acted_at (pass_number x) table
    (first ++ second)) x z))
both-found least more table first second None mid other a b there = tt
both-found least more table first second (Some x) None other a b there = absurd (cc (there refl))
both-found least more table first second (Some x) (Some y) None a b there = tt
both-found least more table first second (Some x) (Some y) (Some z) a b there =
    subst (λ (l : List TableEntry). HasMoved (least + more) l x z) (sym (acted-both (pass_number x) table first second))
    (moved-both least more (acted_at (pass_number x) table first) (acted_at (pass_number x) table second) x y z a
    (subst (λ (n : ℕ). HasMoved more (acted_at n table second) y z) a.number b))

-- there is an item of a table in each of two rows of one length
pub both-there : {A : Type 0} (items others : List A) (table : ℕ) → length others ≡ length items
    → is_some (of_table items table) ≡ true → is_some (of_table others table) ≡ true
both-there items others zero same there = absurd (cc (there))
both-there [] others (suc index) same there = absurd (cc (there))
both-there (item ∷ items) [] (suc index) same there = absurd (omega (arith, same))
both-there (item ∷ items) (other ∷ others) (suc zero) same there = refl
both-there (item ∷ items) (other ∷ others) (suc (suc index)) same there =
    both-there items others (suc index) (omega (arith, same)) there

-- A desk did this, and then that.
pub both-moved : (looks more : ℕ) (one other : ℕ → ℕ) (first second : Brought) (before mid after : Desk)
    → HasDeskMoved looks one first before mid → HasDeskMoved more other second mid after
    → HasDeskMoved (looks + more) (λ table. one table + other table)
    record { acts = first.acts ++ second.acts; orders = first.orders ++ second.orders } before after
both-moved looks more one other first second before mid after a b = record {
  book = moved-both looks more first.orders second.orders before.book mid.book after.book a.book b.book;
  count = b.count ∙ a.count;
  tables = λ table.
      both-found (one table) (other table) table first.acts second.acts (of_table before.tables.items table)
      (of_table mid.tables.items table) (of_table after.tables.items table) (a.tables table) (b.tables table)
      (both-there before.tables.items mid.tables.items table a.count);
  asked =
      b.asked
      ∙ (ap (λ items. items ++ second.acts) a.asked ∙ append_assoc before.asked.items first.acts second.acts);
}

-- what was seen is the front of what is seen later
later-found : {Val : Type 0} {g : Ghosts Val TableEntry} (least table : ℕ) (acts : List Asked)
    (one other : Option (Pass Val TableEntry g))
    → IfSome one (λ x. IfSome other (λ y. HasMoved least (acted_at (pass_number x) table acts) x y))
    → (is_some one ≡ true → is_some other ≡ true)
    → IsPrefix (option_map_or seen one []) (option_map_or seen other [])
later-found least table acts None other moved there = (option_map_or seen other [], refl)
later-found least table acts (Some x) None moved there = absurd (cc (there refl))
later-found least table acts (Some x) (Some y) moved there = moved.longer

-- A desk that moved on has seen what it had, and more.
pub later-sights : (looks : ℕ) (table_looks : ℕ → ℕ) (brought : Brought) (before after : Desk)
    → HasDeskMoved looks table_looks brought before after → AreLater (sights before) (sights after)
later-sights looks table_looks brought before after moved = record {
  journal = moved.book.longer;
  tables = λ table.
      later-found (table_looks table) table brought.acts (of_table before.tables.items table)
      (of_table after.tables.items table) (moved.tables table)
      (both-there before.tables.items after.tables.items table moved.count);
}

-- a pass is of the lock that it was of
lock-found : {Val : Type 0} {g : Ghosts Val TableEntry} (lock : LockId) (least table : ℕ) (acts : List Asked)
    (one other : Option (Pass Val TableEntry g))
    → IfSome one (λ x. IfSome other (λ y. HasMoved least (acted_at (pass_number x) table acts) x y))
    → (is_some other ≡ true → is_some one ≡ true) → IfSome one (λ x. lock_of x ≡ lock)
    → IfSome other (λ y. lock_of y ≡ lock)
lock-found lock least table acts one None moved there its = tt
lock-found lock least table acts None (Some y) moved there its = absurd (cc (there refl))
lock-found lock least table acts (Some x) (Some y) moved there its = moved.lock ∙ its

-- Its pass of a table is of the lock that it was of.
pub pass-kept : (lock : LockId) (looks : ℕ) (table_looks : ℕ → ℕ) (brought : Brought) (index : ℕ)
    (before after : Desk) → HasDeskMoved looks table_looks brought before after
    → IfSome (slice_get before.tables.items index) (λ x. lock_of x ≡ lock)
    → IfSome (slice_get after.tables.items index) (λ y. lock_of y ≡ lock)
pass-kept lock looks table_looks brought index before after moved its =
    lock-found lock (table_looks (suc index)) (suc index) brought.acts (slice_get before.tables.items index)
    (slice_get after.tables.items index) (moved.tables (suc index))
    (both-there after.tables.items before.tables.items (suc index) (sym moved.count)) its

-- Its passes are of the docks that they were of.
pub passes-kept : (docks : List TableDock) (looks : ℕ) (table_looks : ℕ → ℕ) (brought : Brought)
    (before after : Desk) → HasDeskMoved looks table_looks brought before after → ArePassesOf docks before
    → ArePassesOf docks after
passes-kept docks looks table_looks brought before after moved passes = λ table dock is.
    lock-found (dock_id dock) (table_looks table) table brought.acts (of_table before.tables.items table)
    (of_table after.tables.items table) (moved.tables table)
    (both-there after.tables.items before.tables.items table (sym moved.count)) (passes table dock is)

-- And so it is a desk of the same book and docks.
pub desk-kept : (book : BookDock) (docks : List TableDock) (looks : ℕ) (table_looks : ℕ → ℕ) (brought : Brought)
    (before after : Desk) → HasDeskMoved looks table_looks brought before after → IsDeskOf book docks before
    → IsDeskOf book docks after
desk-kept book docks looks table_looks brought before after moved is = record {
  book_pass = moved.book.lock ∙ is.book_pass;
  count = moved.count ∙ is.count;
  passes = passes-kept docks looks table_looks brought before after moved is.passes;
}

-- a pass has the number that it had
number-found : {Val : Type 0} {g : Ghosts Val TableEntry} (least table : ℕ) (acts : List Asked)
    (one other : Option (Pass Val TableEntry g))
    → IfSome one (λ x. IfSome other (λ y. HasMoved least (acted_at (pass_number x) table acts) x y))
    → (is_some one ≡ true → is_some other ≡ true) → (is_some other ≡ true → is_some one ≡ true)
    → option_map_or pass_number other 0 ≡ option_map_or pass_number one 0
number-found least table acts None None moved there back = refl
number-found least table acts None (Some y) moved there back = absurd (cc (back refl))
number-found least table acts (Some x) None moved there back = absurd (cc (there refl))
number-found least table acts (Some x) (Some y) moved there back = moved.number

-- Its passes have the numbers that they had.
pub numbers-kept : (looks : ℕ) (table_looks : ℕ → ℕ) (brought : Brought) (before after : Desk)
    → HasDeskMoved looks table_looks brought before after → numbers_of after ≡ numbers_of before
numbers-kept looks table_looks brought before after moved = λ i. record {
  book = moved.book.number i;
  tables = λ table.
      number-found (table_looks table) table brought.acts (of_table before.tables.items table)
      (of_table after.tables.items table) (moved.tables table)
      (both-there before.tables.items after.tables.items table moved.count)
      (both-there after.tables.items before.tables.items table (sym moved.count)) i;
}

-- What begins with later sights begins with the earlier ones.
pub later-trans : (first mid last : Sights) → AreLater first mid → AreLater mid last → AreLater first last
later-trans first mid last one two = record {
  journal = prefix_trans first.journal mid.journal last.journal one.journal two.journal;
  tables = λ table.
      prefix_trans (first.tables table) (mid.tables table) (last.tables table) (one.tables table) (two.tables table);
}

-- What had been seen begins with itself.
pub later-self : (seen : Sights) → AreLater seen seen
later-self seen = record {
  journal = prefix_self seen.journal;
  tables = λ table. prefix_self (seen.tables table);
}
