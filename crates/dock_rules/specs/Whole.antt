-- The one list of events that a journal and the histories of all tables are together. This project's own.
use Rattle.std.specs.Prelude.{◌≡◌, ◌⊎◌, ℕ, Bool, true, false, ◌==◌, List, [], ◌∷◌, ◌++◌, drop, filter, fold, length, map, take, Option, Some, None, option_map, option_to_list}
use Rattle.std.specs.List.{flat_map}
use Rattle.std.specs.Option.{option_map_or}
use Rattle.table_engine.specs.declared.start.HandStart.{HandStart}
use Rattle.table_engine.specs.declared.record.ActOf.{ActOf}
use Rattle.table_engine.specs.Hands.{HandTerms}
use Rattle.tournament_events.specs.declared.event.Event.{Event}
use Rattle.tournament_events.specs.declared.event.Event.TheVariants as events
use Rattle.tournament_rules.specs.Report.{report_of}
use Rattle.tournament_rules.specs.States.{act_table, first_state, run}
use Rattle.view_rules.specs.declared.entries.JournalEntry.{JournalEntry}
use Rattle.view_rules.specs.declared.entries.TableEntry.{TableEntry}
use Rattle.view_rules.specs.declared.entries.TableEntry.TheVariants.{Opened, Acted, Closed}
use Rattle.view_rules.specs.Entries.{begun, with_act}
use Rattle.dock_rules.specs.Tables.{IsLegalTableHistory}
use Rattle.dock_rules.specs.Journals.{Begun, IsLegalJournal, Settled, Tale, act_event, first_tale, is_legal_list, tale_of, told_one}

-- The hands of a table: those that were closed, in order, and the one that lies there.
pub record TableHands : Type 0 where
  pub closed : List HandTerms
  pub lying : Option HandTerms

abbrev pub no_hands : TableHands
no_hands = record { closed = []; lying = None }

-- the hands of a table after an entry of its history
abbrev pub hands_after : TableHands → TableEntry → TableHands
hands_after hands (Opened start) = record hands { lying = Some (begun start) }
hands_after hands (Acted caller act) = record hands { lying = option_map (with_act act) hands.lying }
hands_after hands Closed = record { closed = hands.closed ++ option_to_list hands.lying; lying = None }

-- The hands of a table's history.
unfoldable pub hands_of : List TableEntry → TableHands
hands_of history = fold hands_after no_hands history

-- all hands that were opened at a table, in order, with the acts that were made in them
abbrev pub hands_played : TableHands → List HandTerms
hands_played hands = hands.closed ++ option_to_list hands.lying

-- the starts of the hands that began at a table by a journal, in order
abbrev pub begun_at : ℕ → Tale → List HandStart
begun_at table tale = map (λ (one : Begun). one.start) (filter (λ (one : Begun). one.start.table == table) tale.begun)

-- the hands that were settled at a table by a journal, in order
abbrev pub settled_at : ℕ → Tale → List HandTerms
settled_at table tale =
    map (λ (one : Settled). one.hand) (filter (λ (one : Settled). one.hand.start.table == table) tale.settled)

-- the acts of the first of some hands
abbrev pub first_acts : List HandTerms → List ActOf
first_acts [] = []
first_acts (hand ∷ hands) = hand.acts

-- an event of the journal in the whole: a begin is followed by the acts of its hand, which is the one behind as many
-- hands of its table as began there before
abbrev pub whole_events : (ℕ → TableHands) → Tale → Event → List Event
whole_events tables tale (events.Begin table row) =
    events.Begin table row ∷ map (act_event table)
    (first_acts (drop (length (begun_at table tale)) (hands_played (tables table))))
whole_events tables tale event = event ∷ []

abbrev pub whole_from : (ℕ → TableHands) → Tale → List JournalEntry → List Event
whole_from tables tale [] = []
whole_from tables tale (entry ∷ entries) =
    whole_events tables tale entry.event ++ whole_from tables (told_one tale entry) entries

-- The whole of a journal and the histories of all tables: the journal's events, with all acts of each hand, as its
-- table's history holds them, directly after its begin.
abbrev pub whole : List JournalEntry → (ℕ → List TableEntry) → List Event
whole journal histories = whole_from (λ table. hands_of (histories table)) first_tale journal

-- A journal and the history of a table match: the hands that were opened at the table are those that began there, all
-- of them or all but the last, and those that were settled are the first that were closed, with the acts made in them.
pub record IsMatch (table : ℕ) (tale : Tale) (hands : TableHands) : Type 0 where
  pub starts : (begun_at table tale ≡ map (λ hand. hand.start) (hands_played hands))
      ⊎ ((last : HandStart) × (begun_at table tale ≡ map (λ hand. hand.start) (hands_played hands) ++ last ∷ []))
  pub acts : settled_at table tale ≡ take (length (settled_at table tale)) hands.closed

-- A journal and the histories of all tables are legal, and match.
pub record DoMatch (journal : List JournalEntry) (histories : ℕ → List TableEntry) : Type 0 where
  pub journal_legal : IsLegalJournal journal
  pub tables_legal : (table : ℕ) → IsLegalTableHistory (histories table)
  pub match_ : (table : ℕ) → IsMatch table (tale_of journal) (hands_of (histories table))

-- whether an event is an act or a called time at a table
abbrev pub is_act_at : ℕ → Event → Bool
is_act_at table event = option_map_or (λ other. other == table) (act_table event) false

-- The law of the whole, where a journal and the histories match: it is a legal list, it holds every act of every table
-- once and in order, and it ends in the report of the journal. It is proved in whole_laws.
pub record IsWhole (journal : List JournalEntry) (histories : ℕ → List TableEntry) : Type 0 where
  pub legal : is_legal_list (whole journal histories) ≡ true
  pub acts : (table : ℕ) → filter (is_act_at table) (whole journal histories)
      ≡ flat_map (λ hand. map (act_event table) hand.acts) (hands_played (hands_of (histories table)))
  pub report : report_of (run first_state (whole journal histories)) ≡ report_of (tale_of journal).state

abbrev pub TheWholeIsLegal : Type 0
TheWholeIsLegal =
    (journal : List JournalEntry) (histories : ℕ → List TableEntry) → DoMatch journal histories
    → IsWhole journal histories
