-- A whole session: its exchanges from its start to its end. This project's own.
use Rattle.std.specs.Prelude.{◌≡◌, ◌+◌, ℕ, Bool, true, false, ◌||◌, List, [], ◌∷◌, ◌++◌, fold, Option, Some, None, IfSome, is_none, is_some, if◌then◌else◌}
use Rattle.std.specs.List.{flat_map}
use mathlib.Core.List.{IsPrefix}
use Rattle.floor_text.specs.Lines.{ended_lines, lines_of_bytes}
use Rattle.floor_text.specs.Memory.{count_up}
use Rattle.floor_text.specs.Outside.{Rose}
use Rattle.plan_files.specs.Words.{WordTerms}
use Rattle.links.specs.Telling.{Telling}
use Rattle.view_rules.specs.declared.entries.JournalEntry.{JournalEntry}
use Rattle.view_rules.specs.declared.entries.TableEntry.{TableEntry}
use Rattle.view_rules.specs.Entries.{TableTold}
use Rattle.view_rules.specs.Spelling.{ViewLine}
use Rattle.dock_rules.specs.Journals.{tale_of}
use Rattle.dock_rules.specs.Tables.{entries_lines}
use Rattle.session_desk.specs.declared.desk.Desk.{Desk}
use Rattle.session_desk.specs.declared.session.SessionEnd.{SessionEnd}
use Rattle.session_desk.specs.declared.session.SessionEnd.TheVariants as ends
use Rattle.session_desk.specs.Desks.{AreLater, Brought, HasDeskMoved, Numbers, Sights, numbers_of, sights}
use Rattle.session_desk.specs.Exchanges.{Exchange, exchange_text, line_answered, no_news}
use Rattle.session_desk.specs.Standings.{Standing, first_standing, is_quit, meaning_said, standing_after, standing_through}
use Rattle.session_desk.specs.Telling.{first_teller, viewer_of}
use Rattle.session_desk.specs.Turns.{IsPut, IsRight, book_looks, table_looks}

-- the lines that were handled in a session, all that they brought, and the entries and the lines that were told
abbrev pub lines_in : List Exchange → List (Option (List ℕ))
lines_in log = flat_map (λ (said : Exchange). line_answered said.answered) log

abbrev pub brought_in : List Exchange → Brought
brought_in log = record {
  acts = flat_map (λ (said : Exchange). said.brought.acts) log;
  orders = flat_map (λ (said : Exchange). said.brought.orders) log;
}

abbrev pub floor_in : List Exchange → List JournalEntry
floor_in log = flat_map (λ (said : Exchange). said.news.floor) log

abbrev pub lines_of_table : ℕ → List Exchange → List ViewLine
lines_of_table table log = flat_map (λ (said : Exchange). said.news.tables table) log

-- The text of a session: that of its exchanges, one after another.
abbrev pub text_in : ℕ → List Exchange → List ℕ
text_in count log = flat_map (exchange_text count) log

-- What had been seen behind all exchanges of a session.
abbrev pub sights_through : Sights → List Exchange → Sights
sights_through start log = fold (λ (seen : Sights) (said : Exchange). said.at) start log

-- Lines of a table are those of the first entries of its history.
pub record AreFirstLines (who : TableTold) (history : List TableEntry) (lines : List ViewLine) : Type 0 where
  pub front : List TableEntry
  pub is_front : IsPrefix front history
  pub lines_are : lines ≡ entries_lines who front

-- An exchange of a session, by those before it.
module _ (words : WordTerms) (count : ℕ) (numbers : Numbers) (start : Sights) where
  pub record IsMoment (before : List Exchange) (said : Exchange) : Type 0 where
    -- its reply is right, at a point between what had been seen before and as it was put
    pub later : AreLater (sights_through start before) said.at
    pub right : IsRight words count numbers (standing_through words count before).speaker
        (sights_through start before) said.at said
    -- nothing is told to a stranger, and of no table that was not watched before
    pub stranger : (standing_through words count before).speaker ≡ None
        → (said.news ≡ no_news) × (said.behind ≡ false)
    pub unwatched : (table : ℕ) → (standing_through words count before).watched table ≡ false
        → said.news.tables table ≡ []
    -- the floor's lines that were told so far are those of the first entries of the journal, and the lines of each
    -- table those of the first entries of its history; none is skipped
    pub floor : IsPrefix (floor_in (before ++ said ∷ [])) said.at.journal
    pub tables : (table : ℕ) → AreFirstLines
        (first_teller (viewer_of (standing_through words count before).speaker) table) (said.at.tables table)
        (lines_of_table table (before ++ said ∷ []))
    -- all that had been seen was told, of the journal and of each table that is watched, unless some are behind
    pub all_floor : is_some (standing_through words count before).speaker ≡ true → said.behind ≡ false
        → floor_in (before ++ said ∷ []) ≡ said.at.journal
    pub all_tables : is_some (standing_through words count before).speaker ≡ true → said.behind ≡ false
        → (table : ℕ) → (standing_through words count before).watched table ≡ true
        → lines_of_table table (before ++ said ∷ []) ≡ entries_lines
        (first_teller (viewer_of (standing_through words count before).speaker) table) (said.at.tables table)

  -- the same of each of some exchanges, behind others
  abbrev pub AreMomentsBehind : List Exchange → List Exchange → Type 0
  AreMomentsBehind before [] = Unit {0}
  AreMomentsBehind before (said ∷ log) = IsMoment before said × AreMomentsBehind (before ++ said ∷ []) log

-- The exchanges of a session, each by those before it.
abbrev pub AreMoments : WordTerms → ℕ → Numbers → Sights → List Exchange → Type 0
AreMoments words count numbers start log = AreMomentsBehind words count numbers start [] log

-- no line of a session is the one that ends it
abbrev pub AreGoingFrom : WordTerms → ℕ → Standing → List Exchange → Type 0
AreGoingFrom words count standing [] = Unit {0}
AreGoingFrom words count standing (said ∷ log) =
    (is_quit (meaning_said words standing.speaker said.answered) ≡ false)
    × AreGoingFrom words count (standing_after words count standing said) log

abbrev pub AreGoing : WordTerms → ℕ → List Exchange → Type 0
AreGoing words count log = AreGoingFrom words count first_standing log

-- the sum of what each exchange counts, by the standing before it
abbrev pub sum_from : WordTerms → ℕ → (Standing → Exchange → ℕ) → Standing → List Exchange → ℕ
sum_from words count size standing [] = 0
sum_from words count size standing (said ∷ log) =
    size standing said + sum_from words count size (standing_after words count standing said) log

-- how many holds of the pass of the book a session takes at least, and of the pass of each table
abbrev pub book_looks_in : WordTerms → ℕ → List Exchange → ℕ
book_looks_in words count log =
    sum_from words count (λ standing said. book_looks standing said.answered) first_standing log

abbrev pub table_looks_in : WordTerms → ℕ → List Exchange → ℕ → ℕ
table_looks_in words count log table =
    sum_from words count (λ standing said. table_looks words count standing said.answered table) first_standing log

-- All that was said was put. Where the last put was cut, a front of what was said last.
abbrev pub IsPutAll : ℕ → Bool → List Exchange → List ℕ → Type 0
IsPutAll count false log put = put ≡ text_in count log
IsPutAll count true log put =
    (before : List Exchange) × (last : Exchange) × (bytes : List ℕ) × (log ≡ before ++ last ∷ [])
    × IsPut true (exchange_text count last) bytes × (put ≡ text_in count before ++ bytes)

-- The lines that were handled are the first of the bytes that were taken: once the link has given its end a last line
-- that no line feed ends is one, and before that only those that one ends. All of them were handled where the session
-- ended by the end of the link, an Idle or a failure to take.
abbrev pub lines_taken : Bool → List ℕ → List (Option (List ℕ))
lines_taken ended bytes = if ended then lines_of_bytes bytes else ended_lines bytes

abbrev pub AreLinesOf : Bool → SessionEnd → List ℕ → List (Option (List ℕ)) → Type 0
AreLinesOf ended ends.Ended bytes lines = lines ≡ lines_taken ended bytes
AreLinesOf ended ends.Closed bytes lines = lines ≡ lines_taken ended bytes
AreLinesOf ended ends.LinkRead bytes lines = lines ≡ lines_taken ended bytes
AreLinesOf ended end bytes lines = IsPrefix lines (lines_taken ended bytes)

-- whether a session ended since a put failed
abbrev pub is_cut : SessionEnd → Bool
is_cut ends.LinkWrite = true
is_cut end = false

-- whether a session is over by a fault of its link
abbrev pub is_by_fault : SessionEnd → Bool
is_by_fault ends.LinkRead = true
is_by_fault ends.LinkWrite = true
is_by_fault end = false

-- the last exchange of a session, behind others of which none ends it
pub record EndsWith (words : WordTerms) (count : ℕ) (Is : List Exchange → Exchange → Type 0) (log : List Exchange)
    : Type 0 where
  pub before : List Exchange
  pub last : Exchange
  pub log_is : log ≡ before ++ last ∷ []
  pub going : AreGoing words count before
  pub is : Is before last

-- How a session ends: by the line that says so, which no line before it does; by an Idle where the tournament was
-- stopped; in the midst of a put; and else between two lines.
abbrev pub EndsBy : WordTerms → ℕ → SessionEnd → List Exchange → Type 0
EndsBy words count ends.Quit log = EndsWith words count (λ before last.
    is_quit (meaning_said words (standing_through words count before).speaker last.answered) ≡ true) log
EndsBy words count ends.Closed log = EndsWith words count (λ before last.
    (is_none last.answered ≡ true) × ((tale_of last.at.journal).ended ≡ true)) log
EndsBy words count ends.LinkWrite log = EndsWith words count (λ before last. Unit {0}) log
EndsBy words count ends.NoMemory log = log ≡ []
EndsBy words count end log = AreGoing words count log

-- how many Idles a link gave, which are those of its exchanges without a line
abbrev pub idles_after : ℕ → Exchange → ℕ
idles_after idles said = if is_none said.answered then count_up idles else idles

-- What a link that tells tells of a session: the bytes that it gave and that were put meanwhile, its Idles, and whether
-- it gave its end.
pub record IsSpoken (count : ℕ) (end : SessionEnd) (log : List Exchange) (before after : Telling) : Type 0 where
  pub ended : Bool
  pub gave_end : after.ended ≡ (before.ended || ended)
  pub at_end : end ≡ ends.Ended → ended ≡ true
  pub bytes : List ℕ
  pub given : after.given ≡ before.given ++ bytes
  pub lines : AreLinesOf ended end bytes (lines_in log)
  pub bytes_put : List ℕ
  pub put : after.put ≡ before.put ++ bytes_put
  pub said : IsPutAll count (is_cut end) log bytes_put
  pub idles : after.idles ≡ fold idles_after before.idles log

-- A session that was served: its link as it came and as it was left, how it ended, what the desk had seen as it began,
-- and its exchanges.
pub record Served (L : Type 0) : Type 0 where
  pub came : L
  pub left : L
  pub end : SessionEnd
  pub began : Sights
  pub log : List Exchange

-- What holds of a session that was served at a desk, which had seen one thing before it and another behind it.
pub record WasServed {L : Type 0} (told_by : L → Option Telling) (faults : L → ℕ) (words : WordTerms) (count : ℕ)
    (numbers : Numbers) (first seen : Sights) (one : Served L) : Type 0 where
  pub later : AreLater first one.began
  pub moments : AreMoments words count numbers one.began one.log
  pub earlier : AreLater (sights_through one.began one.log) seen
  pub ends_by : EndsBy words count one.end one.log
  pub spoken : IfSome (told_by one.came)
      (λ t. (u : Telling) × (told_by one.left ≡ Some u) × IsSpoken count one.end one.log t u)
  pub untouched : one.end ≡ ends.NoMemory → one.left ≡ one.came
  pub cause : is_by_fault one.end ≡ true → Rose (faults one.came) (faults one.left)

-- A session, from its start with a desk to its end with it.
pub record IsServed {L : Type 0} (told_by : L → Option Telling) (faults : L → ℕ) (words : WordTerms) (count : ℕ)
    (end : SessionEnd) (first last : L) (start now : Desk) : Type 0 where
  pub log : List Exchange
  pub served : WasServed told_by faults words count (numbers_of start) (sights start) (sights now)
      (record { came = first; left = last; end = end; began = sights start; log = log })
  pub seen : sights_through (sights start) log ≡ sights now
  pub moved : HasDeskMoved (book_looks_in words count log) (table_looks_in words count log) (brought_in log) start now
