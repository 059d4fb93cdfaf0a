-- What a client was told so far.
use Rattle.std.proofs.Common.{◌≡◌, ◌∙◌, refl, sym, ap, subst, ℕ, ◌+◌, ◌-◌, ◌<◌, ◌≤◌, Bool, true, false, List, [], ◌∷◌, ◌++◌, Option, Some, None, length, take, append-nil, append_assoc, arith}
use Rattle.std.specs.Prelude.{◌&&◌, IfSome, is_none, is_some, slice_set, if◌then◌else◌}
use Rattle.std.proofs.lemmas.List.{take_all}
use mathlib.Core.List.{IsPrefix}
use Rattle.level_plan.specs.Items.{is_between}
use Rattle.view_rules.specs.declared.entries.JournalEntry.{JournalEntry}
use Rattle.view_rules.specs.declared.entries.TableEntry.{TableEntry}
use Rattle.view_rules.specs.Entries.{TableTold, entry_lines, told_after}
use Rattle.view_rules.specs.Shown.{Viewer}
use Rattle.view_rules.specs.Spelling.{ViewLine}
use Rattle.dock_rules.specs.Tables.{entries_lines, told_through}
use Rattle.table_dock.specs.Telling.{entries_between}
use Rattle.session_lines.specs.declared.hello.Speaker.{Speaker}
use Rattle.session_lines.specs.declared.meaning.Meaning.TheVariants as meanings
use Rattle.session_lines.specs.declared.meaning.Meaning.{Meaning}
use Rattle.session_lines.specs.declared.request.Request.TheVariants as requests
use Rattle.session_desk.specs.declared.told.Watch.{Watch}
use Rattle.session_desk.specs.Desks.{AreLater, Sights}
use Rattle.session_desk.specs.Exchanges.{News}
use Rattle.session_desk.specs.Talks.{AreFirstLines}
use Rattle.session_desk.specs.Telling.{AreNews, IsAllTold, IsTableTold, IsToldOf, IsWatch, Reach, WasTold, first_reach, first_teller, first_watch, reach_after, viewer_of, watch_of}
use Rattle.session_desk.specs.Turns.{MayMean}
use Rattle.session_desk.proofs.Beginning.{none-watched}
use Rattle.session_desk.proofs.Fronts.{front-begins, front-grown, front-kept, front-on}
use Rattle.session_desk.proofs.Meant.{hello-stranger, there-index}
use Rattle.session_desk.proofs.NewsTold.{set-either}

-- The lines of a table that were told so far: those of the entries up to where the client was told, and none where he
-- does not watch it.
abbrev pub AreLinesSoFar : TableTold → List TableEntry → Option Watch → List ViewLine → Type 0
AreLinesSoFar who history None lines = lines ≡ []
AreLinesSoFar who history (Some watch) lines = lines ≡ entries_lines who (take watch.told history)

-- What was told so far of what was seen: the floor's lines of the first entries of the journal, and the lines of each
-- table.
pub record AreToldSoFar (seen : Sights) (reach : Reach) (floor : List JournalEntry) (tables : ℕ → List ViewLine)
    : Type 0 where
  pub floor_is : floor ≡ take reach.journal seen.journal
  pub tables_are : (table : ℕ) → AreLinesSoFar (first_teller (viewer_of reach.speaker) table) (seen.tables table)
      (watch_of reach table) (tables table)

-- The lines of entries, and of those behind them.
pub lines-both : (told : TableTold) (first second : List TableEntry) → entries_lines told (first ++ second)
    ≡ entries_lines told first ++ entries_lines (told_through told first) second
lines-both told [] second = refl
lines-both told (entry ∷ first) second =
    ap (λ (lines : List ViewLine). entry_lines told entry ++ lines) (lines-both (told_after told entry) first second)
    ∙ sym (append_assoc (entry_lines told entry) (entries_lines (told_after told entry) first)
    (entries_lines (told_through (told_after told entry) first) second))

-- the lines of a table that is watched go on
lines-on : (who : TableTold) (old new : List TableEntry) (before after : Watch) (lines more : List ViewLine)
    → IsPrefix old new → before.told ≤ length old → before.teller ≡ told_through who (take before.told old)
    → lines ≡ entries_lines who (take before.told old) → WasTold new before after more
    → lines ++ more ≡ entries_lines who (take after.told new)
lines-on who old new before after lines more longer within teller is told =
    let between : List TableEntry = entries_between before.told after.told new in
    (λ i. is i ++ told.lines_are i)
    ∙ (ap (λ (t : TableTold). entries_lines who (take before.told old) ++ entries_lines t between) teller
    ∙ (ap (λ (front : List TableEntry). entries_lines who front ++ entries_lines (told_through who front) between)
    (front-kept old new before.told longer within)
    ∙ (sym (lines-both who (take before.told new) between)
    ∙ ap (entries_lines who) (front-on new before.told after.told told.in_order))))

-- the lines of a table go on, where it is watched
table-on : (viewer : Viewer) (table : ℕ) (old new : List TableEntry) (before after : Option Watch)
    (lines more : List ViewLine) → IsPrefix old new
    → ((watch : Watch) → before ≡ Some watch → IsWatch viewer table old watch)
    → AreLinesSoFar (first_teller viewer table) old before lines → IsTableTold new before after more
    → AreLinesSoFar (first_teller viewer table) new after (lines ++ more)
table-on viewer table old new None None lines more longer right is told = λ i. is i ++ told i
table-on viewer table old new None (Some watch) lines more longer right is told = absurd told
table-on viewer table old new (Some watch) None lines more longer right is told = absurd told
table-on viewer table old new (Some before) (Some after) lines more longer right is told =
    let watch = right before refl in
    lines-on (first_teller viewer table) old new before after lines more longer watch.within watch.teller is told

-- they stay where nothing is told
table-kept : (viewer : Viewer) (table : ℕ) (old new : List TableEntry) (watch : Option Watch) (lines : List ViewLine)
    → IsPrefix old new → ((one : Watch) → watch ≡ Some one → IsWatch viewer table old one)
    → AreLinesSoFar (first_teller viewer table) old watch lines
    → AreLinesSoFar (first_teller viewer table) new watch lines
table-kept viewer table old new None lines longer right is = is
table-kept viewer table old new (Some watch) lines longer right is =
    let front = right watch refl in
    is ∙ ap (entries_lines (first_teller viewer table)) (front-kept old new watch.told longer front.within)

-- To a stranger nothing is told.
still-told : (old new : Sights) (reach : Reach) (floor : List JournalEntry) (tables : ℕ → List ViewLine)
    → AreLater old new → IsToldOf old reach → AreToldSoFar old reach floor tables
    → AreToldSoFar new reach (floor ++ []) (λ table. tables table ++ [])
still-told old new reach floor tables later kept so_far = record {
  floor_is =
      append-nil floor
      ∙ (so_far.floor_is ∙ front-kept old.journal new.journal reach.journal later.journal kept.journal);
  tables_are = λ table.
      subst (AreLinesSoFar (first_teller (viewer_of reach.speaker) table) (new.tables table) (watch_of reach table))
      (sym (append-nil (tables table)))
      (table-kept (viewer_of reach.speaker) table (old.tables table) (new.tables table) (watch_of reach table)
      (tables table) (later.tables table) (kept.tables table) (so_far.tables_are table));
}

-- With the news that are told the client was told so much more.
pub told-on : (speaker : Option Speaker) (old new : Sights) (before middle : Reach) (news : News) (behind : Bool)
    (floor : List JournalEntry) (tables : ℕ → List ViewLine) → AreLater old new → IsToldOf old before
    → AreToldSoFar old before floor tables → AreNews speaker new before middle news behind
    → AreToldSoFar new middle (floor ++ news.floor) (λ table. tables table ++ news.tables table)
told-on None old new before middle news behind floor tables later kept so_far told =
    subst
    (λ (x : Reach × News). AreToldSoFar new x.0 (floor ++ x.1.floor) (λ table. tables table ++ x.1.tables table))
    (λ i. (sym told.same i, sym told.none i)) (still-told old new before floor tables later kept so_far)
told-on (Some speaker) old new before middle news behind floor tables later kept so_far told = record {
  floor_is =
      (λ i. so_far.floor_is i ++ told.floor i)
      ∙ front-grown old.journal new.journal before.journal middle.journal later.journal kept.journal told.in_order;
  tables_are = λ table.
      subst (λ (who : Option Speaker). AreLinesSoFar (first_teller (viewer_of who) table) (new.tables table)
      (watch_of middle table) (tables table ++ news.tables table)) (sym told.speaker)
      (table-on (viewer_of before.speaker) table (old.tables table) (new.tables table) (watch_of before table)
      (watch_of middle table) (tables table) (news.tables table) (later.tables table) (kept.tables table)
      (so_far.tables_are table) (told.tables table));
}

-- What was told of a table are the lines of its first entries.
pub first-lines : (who : TableTold) (history : List TableEntry) (watch : Option Watch) (lines : List ViewLine)
    → AreLinesSoFar who history watch lines → AreFirstLines who history lines
first-lines who history None lines is = record { front = []; is_front = (history, refl); lines_are = is }
first-lines who history (Some watch) lines is = record {
  front = take watch.told history;
  is_front = front-begins watch.told history;
  lines_are = is;
}

-- And they are those of all, where all was told.
pub all-lines : (who : TableTold) (history : List TableEntry) (watch : Option Watch) (lines : List ViewLine)
    → is_some watch ≡ true → IsAllTold history watch → AreLinesSoFar who history watch lines
    → lines ≡ entries_lines who history
all-lines who history None lines there all is = absurd (cc (there))
all-lines who history (Some watch) lines there all is =
    is ∙ ap (entries_lines who) (take_all watch.told history (omega (arith, all)))

-- where a table is not watched, none was told to anybody
unwatched-lines : (who other : TableTold) (history : List TableEntry) (watch : Option Watch) (lines : List ViewLine)
    → watch ≡ None → AreLinesSoFar who history watch lines → AreLinesSoFar other history watch lines
unwatched-lines who other history None lines none is = is
unwatched-lines who other history (Some watch) lines none is = absurd (cc (none))

-- and those of none are none
begun-lines : (who : TableTold) (history : List TableEntry) (watch : Option Watch) (first : Watch)
    (lines : List ViewLine) → watch ≡ None → first.told ≡ 0 → AreLinesSoFar who history watch lines
    → AreLinesSoFar who history (Some first) lines
begun-lines who history None first lines none begun is =
    is ∙ ap (λ (n : ℕ). entries_lines who (take n history)) (sym begun)
begun-lines who history (Some watch) first lines none begun is = absurd (cc (none))

-- A table that is watched from now on was not told of yet.
set-so-far : (so : Bool) (seen : Sights) (told : Reach) (index : ℕ) (first : Watch) (tables : ℕ → List ViewLine)
    → (so ≡ true → index < length told.watches) → (so ≡ true → watch_of told (index + 1) ≡ None) → first.told ≡ 0
    → ((table : ℕ) → AreLinesSoFar (first_teller (viewer_of told.speaker) table) (seen.tables table)
    (watch_of told table) (tables table)) → (table : ℕ)
    → AreLinesSoFar (first_teller (viewer_of told.speaker) table) (seen.tables table)
    (watch_of (record told { watches = if so then slice_set told.watches index (Some first) else told.watches }) table)
    (tables table)
set-so-far so seen told index first tables within free begun each table =
    let who : TableTold = first_teller (viewer_of told.speaker) table in
    set-either (λ (watch : Option Watch). AreLinesSoFar who (seen.tables table) watch (tables table)) so told index
    first table within
    (λ set here.
    begun-lines who (seen.tables table) (watch_of told table) first (tables table) (ap (watch_of told) here ∙ free set)
    begun (each table))
    (λ elsewhere. each table)

-- what is free is none
free-none : (watch : Option Watch) → is_none watch ≡ true → watch ≡ None
free-none None is = refl
free-none (Some watch) is = absurd (cc (is))

-- where both tests hold the second does
second-holds : (there free : Bool) → (there && free) ≡ true → free ≡ true
second-holds true free both = both
second-holds false free both = absurd (cc (both))

-- What a line changes of who the client is and of what he watches leaves what he was told.
pub changed-so-far : (count : ℕ) (meaning : Option Meaning) (seen : Sights) (told : Reach)
    (floor : List JournalEntry) (tables : ℕ → List ViewLine) → IfSome meaning (MayMean told.speaker)
    → count ≡ length told.watches → (told.speaker ≡ None → (table : ℕ) → watch_of told table ≡ None)
    → AreToldSoFar seen told floor tables → AreToldSoFar seen (reach_after count meaning told) floor tables
changed-so-far count (Some (meanings.Hello speaker)) seen told floor tables may counted stranger so_far =
    let nobody : told.speaker ≡ None = hello-stranger told.speaker speaker may in
    record {
      floor_is = so_far.floor_is;
      tables_are = λ table.
          unwatched-lines (first_teller (viewer_of told.speaker) table)
          (first_teller (viewer_of (Some speaker)) table) (seen.tables table) (watch_of told table) (tables table)
          (stranger nobody table) (so_far.tables_are table);
    }
changed-so-far count (Some (meanings.Asks (requests.Watch other))) seen told floor tables may counted stranger so_far =
    let free : Bool = is_none (watch_of told other) in
    record {
      floor_is = so_far.floor_is;
      tables_are =
          set-so-far (is_between 1 count other && free) seen told (other - 1)
          (first_watch (viewer_of told.speaker) other) tables
          (λ so. let there = there-index count other free so in omega (arith, there.0, counted))
          (λ so.
          ap (watch_of told) (sym (there-index count other free so).1)
          ∙ free-none (watch_of told other) (second-holds (is_between 1 count other) free so))
          refl so_far.tables_are;
    }
changed-so-far count meaning seen told floor tables may counted stranger so_far = so_far

-- Nothing was told to somebody who has said nothing.
pub none-so-far : (seen : Sights) (count : ℕ) → AreToldSoFar seen (first_reach count) [] (λ table. [])
none-so-far seen count = record {
  floor_is = refl;
  tables_are = λ table.
      subst (λ (watch : Option Watch). AreLinesSoFar (first_teller None table) (seen.tables table) watch [])
      (sym (none-watched count table)) refl;
}
