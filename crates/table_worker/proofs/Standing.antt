-- What one hold of either pass makes of the tie.
use Rattle.std.proofs.Common.{◌≡◌, ◌∙◌, refl, sym, ap, subst, ℕ, Bool, true, false, List, [], ◌∷◌, ◌++◌, append-nil}
use Rattle.std.specs.Prelude.{not, Option, None, Some, is_some, unwrap_or}
use Rattle.table_engine.specs.declared.record.ActOf.{ActOf}
use Rattle.table_engine.specs.Hands.{HandTerms}
use Rattle.tournament_events.specs.declared.event.Event.{Event}
use Rattle.tournament_events.specs.declared.event.Event.TheVariants as events
use Rattle.history_lock.specs.Entries.{IsGrownByOthers}
use Rattle.view_rules.specs.declared.entries.JournalEntry.{JournalEntry}
use Rattle.view_rules.specs.declared.entries.TableEntry.{TableEntry}
use Rattle.view_rules.specs.declared.entries.TableEntry.TheVariants.{Closed, Opened}
use Rattle.dock_rules.specs.Added.{only_if}
use Rattle.dock_rules.specs.Tables.{lies, lying_hand, table_caller}
use Rattle.dock_rules.specs.Journals.{Has, Tale, entry_told, is_stop, journal_caller, tale_of}
use Rattle.dock_rules.specs.declared.asks.Ask.TheVariants as asks
use Rattle.dock_rules.specs.declared.asks.AskAnswer.{AskAnswer}
use Rattle.dock_rules.specs.declared.asks.AskAnswer.TheVariants as answers
use Rattle.dock_rules.specs.Points.{IsAskAnswer, ask_answer, event_done, hand_begun, is_done as is_carried_out, next_begin, order_owed}
use Rattle.dock_rules.proofs.Coming.{push-seeded}
use Rattle.table_worker.specs.declared.stage.Stage.{Stage}
use Rattle.table_worker.specs.Stages.{does_lie, hand_carried, is_done}
use Rattle.table_worker.specs.Ties.{IsBrought, IsOut, IsTied}
use Rattle.table_worker.proofs.Events.{brought-closed, brought-free, tied-begun, tied-opened, tied-ordered, tied-settled}
use Rattle.table_worker.proofs.Owed.{IsMove, owed-move}
use Rattle.table_worker.proofs.Refusing.{ordered}
use Rattle.table_worker.proofs.Ties.{legal-at, tied-journal, tied-table}

-- a hand that is there
pub hand-there : (found : Option HandTerms) → is_some found ≡ true → (hand : HandTerms) × (found ≡ Some hand)
hand-there None some = absurd cc
hand-there (Some hand) some = (hand, refl)

-- What is not so, where it is known whether.
pub not-so : (b known : Bool) → not b ≡ known → b ≡ not known
not-so true known is = ap not is
not-so false known is = ap not is

-- Whether the last of a journal's entries is the stop.
pub ended-push : (at : List JournalEntry) (caller : ℕ) (event : Event) (acts : List ActOf) (after : List JournalEntry)
    → after ≡ at ++ entry_told (tale_of at) caller event acts ∷ [] → (tale_of after).ended ≡ is_stop event
ended-push at caller event acts after left =
    ap (λ (journal : List JournalEntry). (tale_of journal).ended) left
    ∙ ap (λ (tale : Tale). tale.ended) (push-seeded at (entry_told (tale_of at) caller event acts) refl)

-- no move is the stop
move-on : (order : Event) → IsMove order → is_stop order ≡ false
move-on (events.Balance from to) move = refl
move-on (events.Break table places names) move = refl
move-on event move = absurd move

-- An order that was owed is not the stop.
pub order-on : (at : List JournalEntry) (order : Event) → order_owed (tale_of at) ≡ Some order
    → is_stop order ≡ false
order-on at order owed = move-on order (owed-move (tale_of at) order owed)

module _ (k table : ℕ) where
  module _ (before at after : List JournalEntry) (history : List TableEntry)
      (grown : IsGrownByOthers journal_caller k before at) (legal : (tale_of after).legal ≡ true) where
    legal-so : (added : List JournalEntry) → after ≡ at ++ added → (tale_of at).legal ≡ true
    legal-so added left =
        legal-at at added (sym (ap (λ (journal : List JournalEntry). (tale_of journal).legal) left) ∙ legal)

    -- The worker looked at the journal.
    pub tied-look : (carried : Option HandTerms) (there : Bool) → after ≡ at
        → IsTied k table before history carried there → IsTied k table after history carried there
    tied-look carried there same tied =
        subst (λ (journal : List JournalEntry). IsTied k table journal history carried there) (sym same)
        (tied-journal k table before at history carried there grown
        (sym (ap (λ (journal : List JournalEntry). (tale_of journal).legal) same) ∙ legal) tied)

    -- The worker began a hand.
    pub tied-begin : after ≡ at ++ entry_told (tale_of at) k (next_begin (tale_of at) table) [] ∷ []
        → Has k (hand_begun (tale_of at) table).start (tale_of after)
        → IsTied k table before history None false
        → IsTied k table after history (Some (hand_begun (tale_of at) table)) false
    tied-begin left has tied =
        let entry = entry_told (tale_of at) k (next_begin (tale_of at) table) [] in
        subst (λ (journal : List JournalEntry).
        IsTied k table journal history (Some (hand_begun (tale_of at) table)) false) (sym left)
        (tied-begun k table at history _
        (subst (λ (journal : List JournalEntry).
        Has k (hand_begun (tale_of at) table).start (tale_of journal)) left has)
        (tied-journal k table before at history None false grown (legal-so (entry ∷ []) left) tied))

    -- The worker carried out the order that was owed.
    pub tied-order : (order : Event) → order_owed (tale_of at) ≡ Some order
        → after ≡ at ++ entry_told (tale_of at) k order [] ∷ []
        → IsTied k table before history None false → IsTied k table after history None false
    tied-order order owed left tied =
        subst (λ (journal : List JournalEntry). IsTied k table journal history None false) (sym left)
        (tied-ordered k table at history order owed
        (tied-journal k table before at history None false grown
        (legal-so (entry_told (tale_of at) k order [] ∷ []) left) tied))

    -- The worker asked for the order that is owed.
    pub tied-asked : (answer : AskAnswer) → IsAskAnswer (ask_answer (tale_of at) asks.NextOrder) answer
        → after ≡ at ++ only_if (is_carried_out answer)
        (entry_told (tale_of at) k (event_done (tale_of at) asks.NextOrder) [])
        → IsTied k table before history None false → IsTied k table after history None false
    tied-asked answers.Ok is left tied =
        let order = ordered (tale_of at) (sym is) in
        tied-order order.0 order.1.owed
        (left ∙ ap (λ (found : Option Event).
        at ++ entry_told (tale_of at) k (unwrap_or found events.Stop) [] ∷ []) order.1.owed) tied
    tied-asked answer is left tied = tied-look None false (left ∙ append-nil at) tied

  module _ (journal : List JournalEntry) (before at after : List TableEntry)
      (grown : IsGrownByOthers table_caller 0 before at) where
    -- The worker looked at the table.
    pub tied-stay : (carried : Option HandTerms) (there : Bool) → after ≡ at
        → IsTied k table journal before carried there → IsTied k table journal after carried there
    tied-stay carried there same tied =
        subst (λ (history : List TableEntry). IsTied k table journal history carried there) (sym same)
        (tied-table k table journal before at carried there grown tied)

    -- The worker brought the hand that was begun.
    pub tied-open : (hand : HandTerms) → after ≡ at ++ Opened hand.start ∷ []
        → IsTied k table journal before (Some hand) false → IsTied k table journal after None true
    tied-open hand left tied =
        subst (λ (history : List TableEntry). IsTied k table journal history None true) (sym left)
        (tied-opened k table journal at hand (tied-table k table journal before at (Some hand) false grown tied))

    -- The hand that lies there.
    pub lying-now : IsTied k table journal before None true → (hand : HandTerms) × (lying_hand at ≡ Some hand)
    lying-now tied = hand-there (lying_hand at) (tied-table k table journal before at None true grown tied).lies

    -- It is one of the table, and out with the worker.
    pub out-now : (hand : HandTerms) → lying_hand at ≡ Some hand → IsTied k table journal before None true
        → IsOut k table hand.start (tale_of journal)
    out-now hand lies tied = (tied-table k table journal before at None true grown tied).lying hand lies

    -- The tournament was stopped, and the worker took the hand away.
    pub brought-void : (hand : HandTerms) → lying_hand at ≡ Some hand → (tale_of journal).ended ≡ true
        → after ≡ at ++ Closed ∷ [] → IsTied k table journal before None true
        → IsBrought k table journal after
    brought-void hand lies ended left tied =
        subst (IsBrought k table journal) (sym left)
        (brought-closed k table journal at hand lies ended
        (tied-table k table journal before at None true grown tied))

    -- The worker took the hand away and settled it.
    pub tied-settle : (now : List JournalEntry) (hand : HandTerms) → lying_hand at ≡ Some hand
        → (tale_of journal).legal ≡ true → (tale_of journal).ended ≡ false
        → now ≡ journal ++ entry_told (tale_of journal) k (events.Settle hand.start.table) hand.acts ∷ []
        → after ≡ at ++ Closed ∷ [] → IsTied k table journal before None true → IsTied k table now after None false
    tied-settle now hand lies legal going put left tied =
        subst (λ (both : List JournalEntry × List TableEntry). IsTied k table both.0 both.1 None false)
        (λ i. (sym put i, sym left i))
        (tied-settled k table journal at hand lies legal going
        (tied-table k table journal before at None true grown tied))

  -- A worker that has no hand at the table is done once the tournament was stopped.
  pub brought-still : (journal : List JournalEntry) (history : List TableEntry) (stage : Stage)
      → (is_done stage ≡ false → IsTied k table journal history (hand_carried stage) (does_lie stage))
      → (is_done stage ≡ true → IsBrought k table journal history) → (tale_of journal).ended ≡ true
      → does_lie stage ≡ false → IsBrought k table journal history
  brought-still journal history stage tied brought ended away = by_done (is_done stage) refl
    where
      by_done : (done : Bool) → is_done stage ≡ done → IsBrought k table journal history
      by_done true is = brought is
      by_done false is =
          brought-free k table journal history (hand_carried stage) ended
          (subst (IsTied k table journal history (hand_carried stage)) away (tied is))
