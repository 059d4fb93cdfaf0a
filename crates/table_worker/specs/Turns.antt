-- What a turn of a worker does, and at which journal and history. This project's own.
use Rattle.std.specs.Prelude.{◌≡◌, ◌≢◌, ℕ, Bool, true, false, ◌&&◌, List, [], ◌∷◌, Option, Some, None, is_none, is_some, unwrap_or, if◌then◌else◌}
use Rattle.std.specs.Option.{ForSome}
use mathlib.Core.List.{IsPrefix}
use Rattle.floor_text.specs.declared.refusal.Refusal.{Refusal}
use Rattle.floor_text.specs.declared.refusal.Refusal.TheVariants.{Stopped}
use Rattle.table_engine.specs.declared.record.ActFault.{ActFault}
use Rattle.table_engine.specs.declared.record.ActFault.TheVariants as faults
use Rattle.table_engine.specs.Hands.{HandTerms, is_over}
use Rattle.tournament_events.specs.declared.event.Event.{Event}
use Rattle.tournament_events.specs.declared.event.Event.TheVariants as events
use Rattle.view_rules.specs.declared.entries.JournalEntry.{JournalEntry}
use Rattle.view_rules.specs.declared.entries.TableEntry.{TableEntry}
use Rattle.view_rules.specs.declared.entries.TableEntry.TheVariants as entries
use Rattle.history_lock.specs.Passes.{pass_number, seen}
use Rattle.dock_rules.specs.Added.{only_if}
use Rattle.dock_rules.specs.Tables.{lying_hand}
use Rattle.dock_rules.specs.Journals.{Tale, entry_told, tale_of}
use Rattle.dock_rules.specs.Points.{hand_begun, next_begin, order_owed, refusal_at}
use Rattle.table_worker.specs.declared.stage.Stage.{Stage}
use Rattle.table_worker.specs.declared.turn.Turn.{Turn}
use Rattle.table_worker.specs.declared.turn.Turn.TheVariants.{Opened, NotNow, Lying, Settled, Ordered, Ended, NoMemory}
use Rattle.table_worker.specs.declared.worker.Worker.{Worker}
use Rattle.table_worker.specs.Stages.{does_ask, does_lie, hand_carried, is_done}
use Rattle.table_worker.specs.Visits.{IsVisit}

-- Whether a turn tells that the tournament was stopped.
abbrev pub is_ended : Turn → Bool
is_ended Ended = true
is_ended turn = false

-- Whether a refusal says that the tournament was stopped.
abbrev pub is_stopping : Refusal → Bool
is_stopping Stopped = true
is_stopping refusal = false

-- The answer of a turn in which a hand was refused so.
abbrev pub turn_refused : Refusal → Turn
turn_refused refusal = if is_stopping refusal then Ended else NotNow refusal

-- The answer of a turn in which no hand begins.
abbrev pub turn_given_up : ActFault → Turn
turn_given_up (faults.No refusal) = turn_refused refusal
turn_given_up faults.NoMemory = NoMemory

-- one where it is so, and else none
abbrev pub count_of : Bool → ℕ
count_of true = 1
count_of false = 0

-- the entry of the begin that comes next at a table, by this caller
abbrev pub begin_entry : ℕ → ℕ → Tale → JournalEntry
begin_entry caller table tale = entry_told tale caller (next_begin tale table) []

-- the hand that is to be brought to a table: the one that was begun before, or else the one that begins next
abbrev pub hand_next : ℕ → Option HandTerms → Tale → HandTerms
hand_next table carried tale = unwrap_or carried (hand_begun tale table)

-- At some journal between these two no order was owed.
pub record NoneWasOwed (before after : List JournalEntry) : Type 0 where
  pub noted : List JournalEntry
  pub later : IsPrefix before noted
  pub earlier : IsPrefix noted after
  pub none : order_owed (tale_of noted) ≡ None

-- What a turn found and did: it is that of the worker of a table with this number at the book, whose stage it changes,
-- and it found this journal and this history of the table and added these entries to them.
module _ (caller table : ℕ) (before after : Stage) (tale : Tale) (history : List TableEntry)
    (brought : List JournalEntry) (made : List TableEntry) where
  -- The tournament was stopped. A hand that lies at the dock is taken away.
  pub record DidEnd : Type 0 where
    pub done : is_done after ≡ true
    pub brought_none : brought ≡ []
    pub made_end : made ≡ only_if (does_lie before) entries.Closed

  -- The hand lies at the dock, and is not over.
  pub record DidLie : Type 0 where
    pub lay : does_lie before ≡ true
    pub lies : does_lie after ≡ true
    pub hand : HandTerms
    pub lying : lying_hand history ≡ Some hand
    pub plays : is_over hand ≡ false
    pub brought_none : brought ≡ []
    pub made_none : made ≡ []

  -- The hand lay at the dock and is over. It is closed, and settled with its acts. The order that is owed is asked for
  -- next.
  pub record DidSettle : Type 0 where
    pub lay : does_lie before ≡ true
    pub asks : does_ask after ≡ true
    pub hand : HandTerms
    pub lying : lying_hand history ≡ Some hand
    pub over : is_over hand ≡ true
    pub brought_settle : brought ≡ entry_told tale caller (events.Settle table) hand.acts ∷ []
    pub made_end : made ≡ entries.Closed ∷ []

  -- The order that is owed, which is lawful, was carried out, and the next one is asked for.
  pub record DidOrder : Type 0 where
    pub asked : does_ask before ≡ true
    pub asks : does_ask after ≡ true
    pub order : Event
    pub owed : order_owed tale ≡ Some order
    pub lawful : refusal_at tale order ≡ None
    pub brought_order : brought ≡ entry_told tale caller order [] ∷ []
    pub made_none : made ≡ []

  -- No hand was out, and none may begin: it is refused so, but not since the tournament was stopped. No order was owed.
  pub record DidNot (refusal : Refusal) : Type 0 where
    pub lay_not : does_lie before ≡ false
    pub none : hand_carried before ≡ None
    pub lies_not : does_lie after ≡ false
    pub none_yet : hand_carried after ≡ None
    pub idle : does_ask after ≡ false
    pub refused : refusal_at tale (next_begin tale table) ≡ Some refusal
    pub going : refusal ≢ Stopped
    pub brought_none : brought ≡ []
    pub made_none : made ≡ []

  -- A hand was brought to the dock. It begins in this turn, unless an earlier one had begun it.
  pub record DidOpen : Type 0 where
    pub lay_not : does_lie before ≡ false
    pub lies : does_lie after ≡ true
    pub accepted : hand_carried before ≡ None → refusal_at tale (next_begin tale table) ≡ None
    pub brought_begin : brought ≡ only_if (is_none (hand_carried before)) (begin_entry caller table tale)
    pub made_opening : made ≡ entries.Opened (hand_next table (hand_carried before) tale).start ∷ []

  -- Memory ran out. The hand that was begun, before this turn or in it, stays with the worker, and the order that is
  -- owed is asked for next only where it was to be asked for in this turn.
  pub record RanOut : Type 0 where
    pub lay_not : does_lie before ≡ false
    pub lies_not : does_lie after ≡ false
    pub asks : does_ask after ≡ true → does_ask before ≡ true
    pub kept : is_some (hand_carried before) ≡ true → is_some (hand_carried after) ≡ true
    pub hand : ForSome (hand_carried after) (λ hand. hand ≡ hand_next table (hand_carried before) tale)
    pub brought_begin : brought ≡ only_if (is_none (hand_carried before) && is_some (hand_carried after))
        (begin_entry caller table tale)
    pub made_none : made ≡ []

  -- What a turn did, by its answer.
  abbrev pub DidTurn : Turn → Type 0
  DidTurn Opened = DidOpen
  DidTurn (NotNow refusal) = DidNot refusal
  DidTurn Lying = DidLie
  DidTurn Settled = DidSettle
  DidTurn Ordered = DidOrder
  DidTurn Ended = DidEnd
  DidTurn NoMemory = RanOut

-- A turn with so many holds of the book's pass at least, and a hold of the table's pass where the hand lies at the dock
-- as the turn begins. It found a journal and a history of the table, and did at them what its answer says.
pub record IsTurn (least : ℕ) (before after : Worker) (turn : Turn) : Type 0 where
  pub journal : List JournalEntry
  pub brought : List JournalEntry
  pub history : List TableEntry
  pub made : List TableEntry
  pub book : IsVisit least before.book after.book journal brought
  pub dock : IsVisit (count_of (does_lie before.stage)) before.dock after.dock history made
  pub did : DidTurn (pass_number before.book) before.table before.stage after.stage (tale_of journal) history brought
      made turn
  -- until no order is owed, the order that is owed is asked for before a hand begins
  pub asked : does_ask before.stage ≡ true → does_ask after.stage ≡ false → is_ended turn ≡ false
      → NoneWasOwed (seen before.book) journal
