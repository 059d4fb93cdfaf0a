-- All news are told.
use Rattle.std.proofs.Common.{◌≡◌, ◌≢◌, ◌⊎◌, ◌∙◌, inl, inr, refl, sym, ap, subst, ℕ, ◌+◌, zero, suc, ◌<◌, ◌≤◌, Bool, true, false, List, [], ◌++◌, Option, Some, None, length, set, drop, take, append_assoc, append-nil, arith, get_or}
use Rattle.std.specs.Prelude.{IfSome, is_some, slice_get, slice_set, if◌then◌else◌}
use Rattle.std.specs.List.{flat_map, range_with_len}
use Rattle.std.specs.Option.{option_flatten, option_map_or}
use Rattle.std.proofs.lemmas.List.Concat.{flat_map-cons}
use Rattle.std.proofs.lemmas.Option.{same_Some, slice_get_past}
use mathlib.Core.List.{IsPrefix}
use mathlib.Core.Logic.{dite}
use native.Mathlib.Decide.{ℕ_discrete}
use Rattle.view_rules.specs.declared.entries.JournalEntry.{JournalEntry}
use Rattle.view_rules.specs.declared.entries.TableEntry.{TableEntry}
use Rattle.view_rules.specs.Shown.{Viewer}
use Rattle.view_rules.specs.Spelling.{ViewLine, lines_text}
use Rattle.dock_rules.specs.Points.{journal_text}
use Rattle.dock_rules.specs.Tables.{told_through}
use Rattle.history_lock.specs.Passes.{lock_of, seen}
use Rattle.table_dock.specs.declared.dock.TableDock.{TableDock}
use Rattle.table_dock.specs.Docks.{dock_id}
use Rattle.history_lock.proofs.Prefixes.{prefix_length}
use Rattle.session_lines.specs.declared.hello.Speaker.{Speaker}
use Rattle.session_desk.specs.declared.desk.Desk.{Desk}
use Rattle.session_desk.specs.declared.told.Watch.{Watch}
use Rattle.session_desk.specs.Desks.{AreLater, ArePassesOf, HasDeskMoved, Sights, nothing, of_table, sights}
use Rattle.session_desk.specs.Exchanges.{News, no_news}
use Rattle.session_desk.specs.Moves.{HasMoved}
use Rattle.session_desk.specs.Standings.{count_of}
use Rattle.session_desk.specs.Telling.{AreToldOf, HasToldFloor, HasToldKnown, HasToldNews, IsAllTold, IsTableTold, IsToldOf, IsWatch, Reach, first_teller, viewer_of, watch_of}
use Rattle.session_desk.proofs.AllTold.{AreToldTo, text_to}
use Rattle.session_desk.proofs.Carried.{pass-at}
use Rattle.session_desk.proofs.DeskMoves.{IsMovedAt, both-moved, later-sights, moved-alike, passes-kept}
use Rattle.session_desk.proofs.Watching.{watch-at}
use Rattle.session_desk.proofs.Moving.{moved-none}
use Rattle.session_desk.proofs.Fronts.{front-kept}
use Rattle.session_desk.proofs.Rows.{at-table, if-some, set-elsewhere, set-here, with-itself}

-- a number is up to another, or above it
up-or-above : (one other : ℕ) → (one ≤ other) ⊎ (other < one)
up-or-above zero other = inl (omega arith)
up-or-above (suc one) zero = inr (omega arith)
up-or-above (suc one) (suc other) =
    elim (up-or-above one other) [ inl below ↦ inl (omega (arith, below)) | inr above ↦ inr (omega (arith, above)) ]

-- A table that there is not is not watched.
watch-past : (told : Reach) (table : ℕ) → length told.watches < table → watch_of told table ≡ None
watch-past told zero above = refl
watch-past told (suc index) above =
    ap option_flatten (slice_get_past told.watches index (omega (arith, above)))

-- The same watches are the same of each table.
same-watches : (one other : Reach) (table : ℕ) → one.watches ≡ other.watches
    → watch_of one table ≡ watch_of other table
same-watches one other table same = ap (λ (watches : List (Option Watch)). option_flatten (of_table watches table)) same

-- nothing is told of a table that is not watched
unwatched-told : (history : List TableEntry) (before after : Option Watch) (lines : List ViewLine) → before ≡ None
    → after ≡ None → lines ≡ [] → IsTableTold history before after lines
unwatched-told history before after lines one other none = rw (one, other) none

unwatched-all : (history : List TableEntry) (after : Option Watch) → after ≡ None → IsAllTold history after
unwatched-all history after none = rw none tt

-- and it is not watched then
stays-unwatched : (history : List TableEntry) (before after : Option Watch) (lines : List ViewLine) → before ≡ None
    → IsTableTold history before after lines → after ≡ None
stays-unwatched history None None lines none told = refl
stays-unwatched history None (Some watch) lines none told = absurd told
stays-unwatched history (Some watch) after lines none told = absurd (cc (none))

-- what is so of the watch of a table is so of what it is
at-watch : (P : Watch → Type 0) (found : Option Watch) (watch : Watch) → found ≡ Some watch → IfSome found P → P watch
at-watch P None watch is holds = absurd (cc (is))
at-watch P (Some other) watch is holds = subst P (same_Some other watch is) holds

-- What all news come to: what the desk did, what was told, and that the client was told no more than was seen.
pub record AllNews (count : ℕ) (who : Viewer) (at_first desk : Desk) (before now : Reach) (behind : Bool)
    (had has : List ℕ) : Type 0 where
  pub moved : HasDeskMoved 1 (λ table. count_of (is_some (watch_of before table))) nothing at_first desk
  pub told : HasToldNews count (sights desk) before now behind had has
  pub kept : who ≡ viewer_of before.speaker → (before.speaker ≡ None → (table : ℕ) → watch_of before table ≡ None)
      → IsToldOf (sights desk) now

module _ (count : ℕ) (who : Viewer) (at_first start desk : Desk) (before first now : Reach) (floor behind : Bool)
    (had middle has : List ℕ) (moved : HasDeskMoved 1 (λ table. 0) nothing at_first start)
    (floor_told : HasToldFloor (seen start.book) before first floor had middle)
    (told : AreToldTo count who start desk first now floor behind middle has)
    (counted : count ≡ length before.watches) where
  -- the watch of a table before
  was : (table : ℕ) → watch_of first table ≡ watch_of before table
  was table = same-watches first before table floor_told.watches

  -- none is watched above
  none-first : (table : ℕ) → count < table → watch_of first table ≡ None
  none-first table above = was table ∙ watch-past before table (omega (arith, counted, above))

  none-now : (table : ℕ) → count < table → watch_of now table ≡ None
  none-now table above = (told.rest table above).0 ∙ none-first table above

  -- Each table was told of.
  table-told : (table : ℕ) → IsTableTold ((sights desk).tables table) (watch_of before table) (watch_of now table)
      (told.lines table)
  table-told table =
      subst (λ (w : Option Watch). IsTableTold ((sights desk).tables table) w (watch_of now table) (told.lines table))
      (was table)
      (elim (up-or-above table count) [
        | inl below ↦ (told.done table below).told
        | inr above ↦
            unwatched-told ((sights desk).tables table) (watch_of first table) (watch_of now table) (told.lines table)
            (none-first table above) (none-now table above) (told.rest table above).2
      ])

  table-all : behind ≡ false → (table : ℕ) → IsAllTold ((sights desk).tables table) (watch_of now table)
  table-all none table =
      elim (up-or-above table count) [
        | inl below ↦ (told.done table below).all none
        | inr above ↦ unwatched-all ((sights desk).tables table) (watch_of now table) (none-now table above)
      ]

  -- The news.
  abbrev news : News
  news = record { floor = drop before.journal (take now.journal (seen desk.book)); tables = told.lines }

  are-told : AreToldOf (sights desk) before now news behind
  are-told =
      let book : desk.book ≡ start.book = told.book in
      let number : now.journal ≡ first.journal = told.journal in
      record {
        speaker = told.speaker ∙ floor_told.speaker;
        in_order = rw number floor_told.in_order;
        within = rw (book, number) floor_told.within;
        floor = refl;
        tables = table-told;
        all_floor = λ none. rw (book, number)
            (floor_told.all (told.floor_told none));
        all_tables = table-all;
      }

  -- The news are told, with their text.
  news-told : HasToldNews count (sights desk) before now behind had has
  news-told = record {
    news = news;
    told = are-told;
    text =
        told.text
        ∙ (ap (λ (front : List ℕ). front ++ text_to count told.lines) floor_told.text
        ∙ (append_assoc had (journal_text (drop before.journal (take first.journal (seen start.book))))
        (text_to count told.lines)
        ∙ ap (λ (floor : List JournalEntry). had ++ (journal_text floor ++ text_to count told.lines))
        (λ i. drop before.journal (take (sym told.journal i) (seen (sym told.book i))))));
  }

  -- The desk's passes made a hold each of those that are watched.
  table-moved : (table : ℕ) → IsMovedAt (λ table. count_of (is_some (watch_of before table))) [] start desk table
  table-moved table =
      let same : watch_of before table ≡ watch_of first table = sym (was table) in
      elim (up-or-above table count) [
        | inl below ↦ rw same (told.done table below).moved
        | inr above ↦
            let row : of_table desk.tables.items table ≡ of_table start.tables.items table =
            (told.rest table above).1 in
            let none : watch_of before table ≡ None = same ∙ none-first table above in
            rw (row, none)
            (with-itself (λ one other. HasMoved 0 [] one other) moved-none (of_table start.tables.items table))
      ]

  news-moved : HasDeskMoved 1 (λ table. count_of (is_some (watch_of before table))) nothing at_first desk
  news-moved =
      let book : desk.book ≡ start.book = told.book in
      moved-alike 1 (λ table. 0 + count_of (is_some (watch_of before table)))
      (λ table. count_of (is_some (watch_of before table))) nothing at_first desk (λ table. omega arith)
      (both-moved 1 0 (λ table. 0) (λ table. count_of (is_some (watch_of before table))) nothing nothing at_first start
      desk moved
      record {
        book = rw book (moved-none start.book);
        count = told.count;
        tables = table-moved;
        asked = told.asked ∙ sym (append-nil start.asked.items);
      })

  -- And the client was told no more than it has seen.
  news-kept : who ≡ viewer_of before.speaker → (before.speaker ≡ None → (table : ℕ) → watch_of before table ≡ None)
      → IsToldOf (sights desk) now
  news-kept shown stranger =
      let book : desk.book ≡ start.book = told.book in
      let number : now.journal ≡ first.journal = told.journal in
      let speaker : now.speaker ≡ before.speaker = told.speaker ∙ floor_told.speaker in
      record {
        stranger = λ nobody table.
            stays-unwatched ((sights desk).tables table) (watch_of before table) (watch_of now table)
            (told.lines table) (stranger (sym speaker ∙ nobody) table) (table-told table);
        journal = rw (book, number) floor_told.within;
        tables = λ table watch is.
            subst (λ (v : Viewer). IsWatch v table ((sights desk).tables table) watch)
            (shown ∙ ap viewer_of (sym speaker))
            (elim (up-or-above table count) [
              | inl below ↦
                  at-watch (IsWatch who table ((sights desk).tables table)) (watch_of now table) watch is
                  (told.done table below).watch
              | inr above ↦ absurd (let none : watch_of now table ≡ None = none-now table above in cc)
            ]);
      }

  -- All news were told.
  pub all-news : AllNews count who at_first desk before now behind had has
  all-news = record { moved = news-moved; told = news-told; kept = news-kept }

-- A watch is one of a longer history, too.
watch-later : (who : Viewer) (table : ℕ) (old new : List TableEntry) (watch : Watch) → IsPrefix old new
    → IsWatch who table old watch → IsWatch who table new watch
watch-later who table old new watch longer is =
    let shorter : length old ≤ length new = prefix_length old new longer in
    let within : watch.told ≤ length old = is.within in
    record {
      within = omega (arith, within, shorter);
      teller =
          is.teller
          ∙ ap (λ (l : List TableEntry). told_through (first_teller who table) l)
          (front-kept old new watch.told longer within);
    }

-- A table that was not told of yet is watched as it was.
pub watch-so-far : (index : ℕ) (who : Viewer) (at_first start desk : Desk) (before first now : Reach)
    (floor behind : Bool) (had has : List ℕ) (watch : Option Watch) → IsToldOf (sights at_first) before
    → HasDeskMoved 1 (λ table. 0) nothing at_first start → first.watches ≡ before.watches
    → AreToldTo index who start desk first now floor behind had has → watch_of now (index + 1) ≡ watch
    → IfSome watch (IsWatch (viewer_of before.speaker) (index + 1) ((sights desk).tables (index + 1)))
watch-so-far index who at_first start desk before first now floor behind had has watch told moved same so_far is =
    if-some watch (IsWatch (viewer_of before.speaker) (index + 1) ((sights desk).tables (index + 1)))
    (λ one found.
    let untouched = so_far.rest (index + 1) (omega arith) in
    let old : watch_of before (index + 1) ≡ Some one =
    sym (same-watches first before (index + 1) same) ∙ (sym untouched.0 ∙ (is ∙ found)) in
    let later = later-sights 1 (λ table. 0) nothing at_first start moved in
    subst (λ (row : List TableEntry). IsWatch (viewer_of before.speaker) (index + 1) row one)
    (ap (λ row. option_map_or seen row []) (sym untouched.1))
    (watch-later (viewer_of before.speaker) (index + 1) ((sights at_first).tables (index + 1))
    ((sights start).tables (index + 1)) one (later.tables (index + 1)) (told.tables (index + 1) one old)))

-- The watch of a table that is set, and those of the others.
pub watch-set : (told : Reach) (index : ℕ) (watch : Option Watch) → index < length told.watches
    → watch_of (record told { watches = set told.watches index watch }) (index + 1) ≡ watch
watch-set told index watch within =
    watch-at (record told { watches = set told.watches index watch }) index watch
    (set-here told.watches index watch within)

pub watch-others : (told : Reach) (index : ℕ) (watch : Option Watch) (table : ℕ) → table ≢ index + 1
    → watch_of (record told { watches = set told.watches index watch }) table ≡ watch_of told table
watch-others told index watch zero ne = refl
watch-others told index watch (suc other) ne =
    let apart : other ≢ index = λ same. ne (omega (arith, same)) in
    ap option_flatten (set-elsewhere told.watches index other watch apart)

-- The watch of a table where another may be set: what holds of that one there, and of what was elsewhere, holds of it.
pub set-either : (P : Option Watch → Type 0) (so : Bool) (told : Reach) (index : ℕ) (first : Watch) (table : ℕ)
    → (so ≡ true → index < length told.watches) → (so ≡ true → table ≡ index + 1 → P (Some first))
    → ((so ≡ true → table ≢ index + 1) → P (watch_of told table))
    → P (watch_of
    (record told { watches = if so then slice_set told.watches index (Some first) else told.watches }) table)
set-either P false told index first table within here elsewhere = elsewhere (λ is. absurd (cc (is)))
set-either P true told index first table within here elsewhere =
    let set_one : Reach = record told { watches = set told.watches index (Some first) } in
    dite (ℕ_discrete table (index + 1))
    (λ same.
    subst P (sym (ap (watch_of set_one) same ∙ watch-set told index (Some first) (within refl))) (here refl same))
    (λ ne. subst P (sym (watch-others told index (Some first) table ne)) (elsewhere (λ is. ne)))

-- The desk's pass of a table that was not told of yet.
pub pass-so-far : (docks : List TableDock) (index : ℕ) (who : Viewer) (at_first start desk : Desk) (first now : Reach)
    (floor behind : Bool) (had has : List ℕ) (dock : TableDock) → ArePassesOf docks at_first
    → HasDeskMoved 1 (λ table. 0) nothing at_first start
    → AreToldTo index who start desk first now floor behind had has → index < length docks
    → dock ≡ get_or docks index dock
    → IfSome (slice_get desk.tables.items index) (λ pass. lock_of pass ≡ dock_id dock)
pass-so-far docks index who at_first start desk first now floor behind had has dock passes moved so_far within is =
    let untouched = so_far.rest (index + 1) (omega arith) in
    let row : slice_get desk.tables.items index ≡ slice_get start.tables.items index =
    sym (at-table desk.tables.items index) ∙ (untouched.1 ∙ at-table start.tables.items index) in
    rw row (pass-at docks start index dock (passes-kept docks 1 (λ table. 0) nothing at_first start moved passes)
    within is)

-- no line, however many tables there are
none-text : (from size : ℕ) → flat_map (λ (table : ℕ). lines_text []) (range_with_len from size) ≡ []
none-text from zero = refl
none-text from (suc size) =
    flat_map-cons (λ (table : ℕ). lines_text []) from (range_with_len (from + 1) size) ∙ none-text (from + 1) size

-- Nothing is told to somebody who has not said hello.
pub told-stranger : (count : ℕ) (seen : Sights) (told : Reach) (had : List ℕ) → told.speaker ≡ None
    → HasToldKnown count seen told told false had had
told-stranger count seen told had nobody = record {
  news = no_news;
  told = rw nobody record { same = refl; none = refl; all = refl };
  text = sym (ap (λ (l : List ℕ). had ++ l) (none-text 1 count) ∙ append-nil had);
}

-- What a client was told he was told, however much is seen after.
pub kept-later : (before after : Sights) (told : Reach) → AreLater before after → IsToldOf before told
    → IsToldOf after told
kept-later before after told later kept = record {
  stranger = kept.stranger;
  journal =
      let longer : length before.journal ≤ length after.journal =
      prefix_length before.journal after.journal later.journal in
      omega (arith, kept.journal, longer);
  tables = λ table watch is.
      watch-later (viewer_of told.speaker) table (before.tables table) (after.tables table) watch (later.tables table)
      (kept.tables table watch is);
}

-- Where nobody is there, it is none.
pub nobody-there : (speaker : Option Speaker) → is_some speaker ≡ false → speaker ≡ None
nobody-there None is = refl
nobody-there (Some speaker) is = absurd (cc (is))
