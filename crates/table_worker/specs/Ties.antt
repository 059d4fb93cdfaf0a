-- How what a worker brought to the journal is tied to what happened at its table. This project's own.
use Rattle.std.specs.Prelude.{◌≡◌, ◌+◌, ◌≤◌, ◌==◌, ℕ, Bool, true, false, List, [], ◌∷◌, ◌++◌, filter, length, map, take, Option, Some, None, is_some, option_map, option_to_list}
use Rattle.std.specs.Option.{ForSome}
use Rattle.table_engine.specs.declared.start.HandStart.{HandStart}
use Rattle.table_engine.specs.Hands.{HandTerms}
use Rattle.tournament_events.specs.declared.event.Event.{Event}
use Rattle.tournament_events.specs.declared.event.Event.TheVariants as events
use Rattle.view_rules.specs.declared.entries.JournalEntry.{JournalEntry}
use Rattle.view_rules.specs.declared.entries.TableEntry.{TableEntry}
use Rattle.view_rules.specs.declared.entries.TableEntry.TheVariants.{Acted}
use Rattle.dock_rules.specs.Tables.{lying_hand, openings, table_caller}
use Rattle.dock_rules.specs.Journals.{Begun, Has, Settled, Tale, tale_of}
use Rattle.dock_rules.specs.Points.{order_owed}
use Rattle.dock_rules.specs.Whole.{hands_of}

-- The starts of the hands that a caller began, in order.
abbrev pub starts_begun : ℕ → Tale → List HandStart
starts_begun caller tale = map (λ (one : Begun). one.start) (filter (λ (one : Begun). one.by == caller) tale.begun)

-- The hands that a caller settled, in order, with the acts that they were settled with.
abbrev pub hands_settled : ℕ → Tale → List HandTerms
hands_settled caller tale =
    map (λ (one : Settled). one.hand) (filter (λ (one : Settled). one.by == caller) tale.settled)

-- The hands that were closed at a table, in order, with the acts that were made in them.
abbrev pub hands_closed : List TableEntry → List HandTerms
hands_closed history = (hands_of history).closed

-- whether an entry of a table is an act
abbrev pub is_act : TableEntry → Bool
is_act (Acted caller act) = true
is_act entry = false

-- The acts that the worker itself made at a table.
abbrev pub workers_acts : List TableEntry → List TableEntry
workers_acts history = filter is_act (filter (λ entry. table_caller entry == 0) history)

-- What the worker of a table may bring where an event is brought: a begin and a settle at its table, and in the place
-- of each other event the order that is owed.
abbrev pub work_owed : ℕ → Tale → Event → Option Event
work_owed table tale (events.Begin other row) = Some (events.Begin table row)
work_owed table tale (events.Settle other) = Some (events.Settle table)
work_owed table tale event = order_owed tale

-- Each entry of a caller in a journal begins or settles a hand at this table, or is the order that is owed at the
-- journal before it.
abbrev pub AreWork : ℕ → ℕ → List JournalEntry → Type 0
AreWork caller table journal =
    (front back : List JournalEntry) (entry : JournalEntry) → journal ≡ front ++ entry ∷ back → entry.caller ≡ caller
    → work_owed table (tale_of front) entry.event ≡ Some entry.event

-- The hand of a start is one of this table, and is out with this caller unless the tournament was stopped.
pub record IsOut (caller table : ℕ) (start : HandStart) (tale : Tale) : Type 0 where
  pub here : start.table ≡ table
  pub has : Has caller start tale

-- A hand that was begun and is still to be brought to the table: it has no acts, and is out.
pub record IsCarried (caller table : ℕ) (tale : Tale) (hand : HandTerms) : Type 0 where
  pub fresh : hand.acts ≡ []
  pub out : IsOut caller table hand.start tale

-- The worker of a table, who has this number at the book, settled just the hands that were closed at the table, with
-- the acts that were made in them, and began just those that were opened there and the one that is still to be brought.
-- Whether a hand lies at the table, the worker knows.
pub record IsTied (caller table : ℕ) (journal : List JournalEntry) (history : List TableEntry)
    (carried : Option HandTerms) (there : Bool) : Type 0 where
  pub settled : hands_settled caller (tale_of journal) ≡ hands_closed history
  pub begun : starts_begun caller (tale_of journal)
      ≡ openings history ++ option_to_list (option_map (λ (hand : HandTerms). hand.start) carried)
  pub lies : is_some (lying_hand history) ≡ there
  pub lying : ForSome (lying_hand history) (λ hand. IsOut caller table hand.start (tale_of journal))
  pub brought : ForSome carried (IsCarried caller table (tale_of journal))
  pub work : AreWork caller table journal
  pub no_acts : workers_acts history ≡ []

-- The journal ends with the stop, and the worker of a table, who has this number at the book, is done.
pub record IsBrought (caller table : ℕ) (journal : List JournalEntry) (history : List TableEntry) : Type 0 where
  -- the journal ends with the stop
  pub stopped : (tale_of journal).ended ≡ true
  -- no hand lies at the table
  pub none_lies : lying_hand history ≡ None
  -- the starts of the hands that were opened at the table are in order those of the hands that the worker began, all of
  -- them or all but the last
  pub opened : openings history ≡ take (length (openings history)) (starts_begun caller (tale_of journal))
  pub all_but_last : length (starts_begun caller (tale_of journal)) ≤ length (openings history) + 1
  -- the hands that the worker settled are the first that were closed there, each with the acts that the table's history
  -- has between its opening and its closing
  pub settled : hands_settled caller (tale_of journal)
      ≡ take (length (hands_settled caller (tale_of journal))) (hands_closed history)
  -- each own entry in the journal is a begin or a settle at the table, or the order that is owed for the journal before
  pub work : AreWork caller table journal
  -- no own entry in the table's history is an act
  pub no_acts : workers_acts history ≡ []
