-- What holds of a journal and the book that it comes to. This project's own.
use Rattle.std.specs.Prelude.{◌≡◌, ◌≤◌, ℕ, List, count_by, is_some, length, Some, if◌then◌else◌}
use Rattle.tournament_rules.specs.Books.{BookState}
use Rattle.tournament_rules.specs.States.{PlayState, no_acts}
use Rattle.view_rules.specs.declared.entries.JournalEntry.{JournalEntry}
use Rattle.dock_rules.specs.Journals.{IsLegalJournal, tale_of}

-- a tournament of a book whose hands, where they are out, have no acts so far: these lie at their tables
abbrev pub at_rest : BookState → PlayState
at_rest book = record { book = book; acts = no_acts book.plan.tables }

-- A journal is legal and has this seed, and it comes to this book.
pub record IsKept (journal : List JournalEntry) (seed : List ℕ) (book : BookState) : Type 0 where
  pub legal : IsLegalJournal journal
  pub come : (tale_of journal).state.play ≡ Some (at_rest book)
  pub seeded : (tale_of journal).seed ≡ seed
  pub counted : (tale_of journal).count ≡ length journal
  pub ended : (tale_of journal).ended ≡ book.stopped
  -- each event that the book accepted is an entry
  pub accepted : book.accepted ≤ length journal

-- how many settles are owed to the hands that are out: none once the tournament is stopped
abbrev pub owed : BookState → ℕ
owed book = if book.stopped then 0 else count_by is_some book.started
