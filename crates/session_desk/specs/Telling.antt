-- How far a client was told. This project's own.
use Rattle.std.specs.Prelude.{◌≡◌, ◌≤◌, ◌-◌, ◌++◌, ℕ, Bool, false, List, [], length, drop, take, slice_set, Option, Some, None, is_none, is_some, replicate, ◌&&◌, if◌then◌else◌}
use Rattle.std.specs.Option.{option_flatten}
use Rattle.level_plan.specs.Items.{is_between}
use Rattle.view_rules.specs.declared.entries.JournalEntry.{JournalEntry}
use Rattle.view_rules.specs.declared.entries.TableEntry.{TableEntry}
use Rattle.view_rules.specs.Entries.{TableTold}
use Rattle.view_rules.specs.Shown.{Viewer}
use Rattle.view_rules.specs.Spelling.{ViewLine, lines_text}
use Rattle.dock_rules.specs.Points.{journal_text}
use Rattle.dock_rules.specs.Tables.{entries_lines, told_through}
use Rattle.table_dock.specs.Telling.{entries_between}
use Rattle.session_lines.specs.declared.hello.Speaker.{Speaker}
use Rattle.session_lines.specs.declared.hello.Speaker.TheVariants.{Player}
use Rattle.session_lines.specs.declared.meaning.Meaning.{Meaning}
use Rattle.session_lines.specs.declared.meaning.Meaning.TheVariants.{Asks}
use Rattle.session_lines.specs.declared.request.Request.TheVariants.{Watch}
use Rattle.session_desk.specs.declared.told.Told.{Told}
use Rattle.session_desk.specs.declared.told.Watch.{Watch as Watching}
use Rattle.session_desk.specs.Desks.{Sights, of_table}
use Rattle.session_desk.specs.Exchanges.{News, news_text, no_news}
use Rattle.session_desk.specs.Standings.{Standing, speaker_after}

-- to whom lines are shown: a player sees his own cards, and the floor nobody's
abbrev pub viewer_of : Option Speaker → Viewer
viewer_of (Some (Player name)) = Some name
viewer_of speaker = None

-- How far a client was told: who speaks, how many entries of the journal were told, and how far he was told of each
-- table, where he watches it.
pub record Reach : Type 0 where
  pub speaker : Option Speaker
  pub journal : ℕ
  pub watches : List (Option Watching)

-- nothing was said, of so many tables
abbrev pub first_reach : ℕ → Reach
first_reach count = record { speaker = None; journal = 0; watches = replicate count None }

-- how far a client was told, as a session keeps it
abbrev pub reach_of : Told → Reach
reach_of told = record { speaker = told.speaker; journal = told.journal; watches = told.watches.items }

-- how far a client was told of a table, where he watches it
abbrev pub watch_of : Reach → ℕ → Option Watching
watch_of told table = option_flatten (of_table told.watches table)

-- who tells of a table from its first entry on
abbrev pub first_teller : Viewer → ℕ → TableTold
first_teller who table = record { table = table; who = who; hand = None }

-- a table of which nothing was told yet
abbrev pub first_watch : Viewer → ℕ → Watching
first_watch who table = record { told = 0; teller = first_teller who table }

-- A client was told of a table up to an entry of this history: who tells stands there.
pub record IsWatch (who : Viewer) (table : ℕ) (history : List TableEntry) (watch : Watching) : Type 0 where
  pub within : watch.told ≤ length history
  pub teller : watch.teller ≡ told_through (first_teller who table) (take watch.told history)

-- A client was told no more than this was seen, and watches nothing before he has said hello.
pub record IsToldOf (seen : Sights) (told : Reach) : Type 0 where
  pub stranger : told.speaker ≡ None → (table : ℕ) → watch_of told table ≡ None
  pub journal : told.journal ≤ length seen.journal
  pub tables : (table : ℕ) (watch : Watching) → watch_of told table ≡ Some watch
      → IsWatch (viewer_of told.speaker) table (seen.tables table) watch

-- A client was told these lines of a table, and is now told up to an entry of this history.
pub record WasTold (history : List TableEntry) (before after : Watching) (lines : List ViewLine) : Type 0 where
  pub in_order : before.told ≤ after.told
  pub within : after.told ≤ length history
  pub lines_are : lines ≡ entries_lines before.teller (entries_between before.told after.told history)

-- What was told of a table: nothing where the client does not watch it.
abbrev pub IsTableTold : List TableEntry → Option Watching → Option Watching → List ViewLine → Type 0
IsTableTold history None None lines = lines ≡ []
IsTableTold history (Some before) (Some after) lines = WasTold history before after lines
IsTableTold history before after lines = ⊥

-- all of a history was told, where the client watches the table
abbrev pub IsAllTold : List TableEntry → Option Watching → Type 0
IsAllTold history None = Unit {0}
IsAllTold history (Some watch) = watch.told ≡ length history

-- News were told: of the journal, and of each table that the client watches; all that was seen, unless some are behind.
pub record AreToldOf (seen : Sights) (before after : Reach) (news : News) (behind : Bool) : Type 0 where
  pub speaker : after.speaker ≡ before.speaker
  pub in_order : before.journal ≤ after.journal
  pub within : after.journal ≤ length seen.journal
  pub floor : news.floor ≡ drop before.journal (take after.journal seen.journal)
  pub tables : (table : ℕ) → IsTableTold (seen.tables table) (watch_of before table) (watch_of after table)
      (news.tables table)
  pub all_floor : behind ≡ false → after.journal ≡ length seen.journal
  pub all_tables : behind ≡ false → (table : ℕ) → IsAllTold (seen.tables table) (watch_of after table)

-- Nothing is told to somebody who has not said hello.
pub record NoneAreTold (before after : Reach) (news : News) (behind : Bool) : Type 0 where
  pub same : after ≡ before
  pub none : news ≡ no_news
  pub all : behind ≡ false

-- News are told to whoever has said hello.
abbrev pub AreNews : Option Speaker → Sights → Reach → Reach → News → Bool → Type 0
AreNews None seen before after news behind = NoneAreTold before after news behind
AreNews (Some speaker) seen before after news behind = AreToldOf seen before after news behind

-- the tables that are watched behind a line, of so many: one that the client asks to be told of is told from its first
-- entry on, unless he watches it before
abbrev pub watches_after : ℕ → Option Meaning → Reach → List (Option Watching)
watches_after count (Some (Asks (Watch table))) told =
    if is_between 1 count table && is_none (watch_of told table)
    then slice_set told.watches (table - 1) (Some (first_watch (viewer_of told.speaker) table))
    else told.watches
watches_after count meaning told = told.watches

-- What a line changes of who a client is and of what he watches, from the next line on.
abbrev pub reach_after : ℕ → Option Meaning → Reach → Reach
reach_after count meaning told = record told {
  speaker = speaker_after meaning told.speaker;
  watches = watches_after count meaning told;
}

-- The standing of a client.
abbrev pub standing_of : Reach → Standing
standing_of told = record { speaker = told.speaker; watched = λ table. is_some (watch_of told table) }

-- The floor's lines were told: those of the entries of the journal from where they were told to, all of them unless
-- some are left.
pub record HasToldFloor (journal : List JournalEntry) (before after : Reach) (left : Bool) (had has : List ℕ)
    : Type 0 where
  pub in_order : before.journal ≤ after.journal
  pub within : after.journal ≤ length journal
  pub all : left ≡ false → after.journal ≡ length journal
  pub speaker : after.speaker ≡ before.speaker
  pub watches : after.watches ≡ before.watches
  pub text : has ≡ had ++ journal_text (drop before.journal (take after.journal journal))

-- A table's lines were told, from one watch to another: all of them unless some are left.
pub record HasToldTable (history : List TableEntry) (before after : Watching) (left : Bool) (had has : List ℕ)
    : Type 0 where
  pub in_order : before.told ≤ after.told
  pub within : after.told ≤ length history
  pub teller : after.teller ≡ told_through before.teller (entries_between before.told after.told history)
  pub text : has ≡ had ++ lines_text (entries_lines before.teller (entries_between before.told after.told history))
  pub all : left ≡ false → after.told ≡ length history

-- News were told, and this is their text.
pub record HasToldNews (count : ℕ) (seen : Sights) (before after : Reach) (behind : Bool) (had has : List ℕ)
    : Type 0 where
  pub news : News
  pub told : AreToldOf seen before after news behind
  pub text : has ≡ had ++ news_text count news

-- News were told to whoever has said hello, and nothing to anybody else, and this is their text.
pub record HasToldKnown (count : ℕ) (seen : Sights) (before after : Reach) (behind : Bool) (had has : List ℕ)
    : Type 0 where
  pub news : News
  pub told : AreNews before.speaker seen before after news behind
  pub text : has ≡ had ++ news_text count news
