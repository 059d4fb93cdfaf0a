-- What a tournament is that was served. This project's own.
use Rattle.std.specs.Prelude.{◌≡◌, ℕ, true, List, [], ◌∷◌, ◌++◌, All}
use Rattle.std.specs.List.{AllByRecursion}
use mathlib.Core.List.{IsPrefix}
use Rattle.level_plan.specs.Plans.{PlanTerms}
use Rattle.table_engine.specs.Plays.{IsLawfulPlay}
use Rattle.tournament_events.specs.declared.event.Event.{Event}
use Rattle.tournament_events.specs.declared.event.Event.TheVariants.{Stop}
use Rattle.floor_events.specs.Spelling.{IsWritable}
use Rattle.view_rules.specs.declared.entries.JournalEntry.{JournalEntry}
use Rattle.simulation_rules.specs.Runs.{plan_events}
use Rattle.dock_rules.specs.Journals.{IsLegalJournal, Settled, expand, is_legal_list, tale_of}

-- A list of events is a whole tournament over a plan: each event is accepted in its turn and is such as a line may
-- hold; the first ones are the plan's lines and their end, and the last one is the stop.
pub record IsWholeTournament (plan : PlanTerms) (events : List Event) : Type 0 where
  pub legal : is_legal_list events ≡ true
  pub writable : AllByRecursion IsWritable events
  pub opens : IsPrefix (plan_events plan) events
  pub front : List Event
  pub ends : events ≡ front ++ Stop ∷ []

-- Each hand that a journal settles is a lawful play of its start: the acts that it brings are those of its players, and
-- each called time among them is the act that it made.
abbrev pub AreLawful : List JournalEntry → Type 0
AreLawful journal = All (λ (one : Settled). IsLawfulPlay one.hand) (tale_of journal).settled

-- A journal is that of a whole tournament over a plan, with the decks and draws of a seed, of which each hand that is
-- settled was played lawfully.
pub record IsWholeJournal (plan : PlanTerms) (seed : List ℕ) (journal : List JournalEntry) : Type 0 where
  pub legal : IsLegalJournal journal
  pub seeded : (tale_of journal).seed ≡ seed
  pub lawful : AreLawful journal
  pub whole : IsWholeTournament plan (expand journal)
