use Rattle.std.proofs.Common.{◌≡◌, ◌∙◌, ◌++◌, ◌∷◌, [], ℕ, Bool, List, Option, None, Some, false, true, refl, sym, ap, subst, arith}
use Rattle.std.specs.Prelude.{◌&&◌, is_none, is_some, unwrap_or}
use Rattle.history_lock.specs.Holds.{IsHold}
use Rattle.history_lock.specs.Passes.{pass_number, seen}
use Rattle.tournament_events.specs.declared.event.Event.{Event}
use Rattle.tournament_events.specs.declared.event.Event.TheVariants as events
use Rattle.view_rules.specs.declared.entries.JournalEntry.{JournalEntry}
use Rattle.view_rules.specs.declared.entries.TableEntry.TheVariants.{Closed}
use Rattle.dock_rules.specs.Added.{only_if}
use Rattle.dock_rules.specs.declared.asks.Ask.TheVariants as asks
use Rattle.dock_rules.specs.declared.asks.AskAnswer.{AskAnswer}
use Rattle.dock_rules.specs.declared.asks.AskAnswer.TheVariants as answers
use Rattle.dock_rules.specs.Journals.{Tale, entry_told, tale_of}
use Rattle.dock_rules.specs.Points.{IsAskAnswer, ask_answer, event_done, is_done, is_refusal, order_owed}
use Rattle.table_worker.specs.Stages.{asks_again, does_lie}
use Rattle.table_worker.specs.Turns.{begin_entry, count_of}
use Rattle.table_worker.specs.Visits.{IsVisit}
use Rattle.table_worker.proofs.AtStages.{between}
use Rattle.table_worker.proofs.Refusing.{answer-stops, none-owed, ordered}
use Rattle.table_worker.proofs.Standing.{ended-push, order-on}
use Rattle.table_worker.proofs.Turning.{turn-after, turn-fewer}
use Rattle.table_worker.proofs.Visiting.{seen-longer, visit-hold, visit-none}
use Rattle.table_worker.proofs.worker.Worker.ask_first.Goals as goal

pub end-requires-clause-stopped : goal.end-requires-clause-stopped
end-requires-clause-stopped g c =
    let self = c.args.self in let k : ℕ = pass_number self.book in
    let stands = c.ask-worker.ensures.asked in let tale : Tale = tale_of stands.at in
    let left : seen c.ask-worker.result.0.book ≡ stands.at = (stands.hold.idle (stands.is.1
    ∙ ap (λ (answer : AskAnswer). only_if (is_done answer) (entry_told tale k (event_done tale asks.NextOrder) []))
    c.in-No.is)).0 in
    let legal : tale.legal ≡ true =
    sym (ap (λ (journal : List JournalEntry). (tale_of journal).legal) left) ∙ c.ask-worker.ensures.legal.allowed in
    ap (λ (journal : List JournalEntry). (tale_of journal).ended) left
    ∙ (sym (answer-stops stands.at c.ask-worker.result.1 legal stands.is.0) ∙ ap is_refusal c.in-No.is)

pub returns-in-Ok-clause-turn : goal.returns-in-Ok-clause-turn
returns-in-Ok-clause-turn g c =
    let self = c.args.self in let k : ℕ = pass_number self.book in
    let is = between self.stage c.requires.asks in
    let stands = c.ask-worker.ensures.asked in let tale : Tale = tale_of stands.at in
    let mid = c.ask-worker.result.0 in
    let answered : answers.Ok ≡ ask_answer tale asks.NextOrder =
    subst (IsAskAnswer (ask_answer tale asks.NextOrder)) c.in-Ok.is stands.is.0 in
    let order = ordered tale (sym answered) in
    let again = c.ask-worker.ensures.stage.3 ∙ ap asks_again c.in-Ok.is in
    record {
      journal = stands.at;
      brought = stands.added;
      history = seen self.dock;
      made = [];
      book = visit-hold self.book mid.book stands.at stands.added stands.hold;
      dock = subst (λ (lay : Bool). IsVisit (count_of lay) self.dock mid.dock (seen self.dock) []) (sym is.away)
          (subst (λ pass. IsVisit 0 self.dock pass (seen self.dock) []) (sym c.ask-worker.ensures.rest.1)
          (visit-none self.dock));
      did = record {
        asked = c.requires.asks;
        asks = again;
        order = order.0;
        owed = order.1.owed;
        lawful = order.1.lawful;
        brought_order = stands.is.1
            ∙ ((λ i. only_if (is_done (c.in-Ok.is i)) (entry_told tale k (event_done tale asks.NextOrder) []))
            ∙ ap (λ (found : Option Event). entry_told tale k (unwrap_or found events.Stop) [] ∷ []) order.1.owed);
        made_none = refl;
      };
      asked = λ asks none open_. absurd (let never : true ≡ false = sym again ∙ none in cc);
    }

pub returns-in-Ok-clause-ended : goal.returns-in-Ok-clause-ended
returns-in-Ok-clause-ended g c =
    let self = c.args.self in let k : ℕ = pass_number self.book in
    let stands = c.ask-worker.ensures.asked in let tale : Tale = tale_of stands.at in
    let answered : answers.Ok ≡ ask_answer tale asks.NextOrder =
    subst (IsAskAnswer (ask_answer tale asks.NextOrder)) c.in-Ok.is stands.is.0 in
    let order = ordered tale (sym answered) in (
      c.ask-worker.ensures.stage.2,
      sym (ended-push stands.at k order.0 [] (seen c.ask-worker.result.0.book)
          (stands.hold.left ∙ ap (λ (more : List JournalEntry). stands.at ++ more) (stands.is.1
          ∙ ((λ i. only_if (is_done (c.in-Ok.is i)) (entry_told tale k (event_done tale asks.NextOrder) []))
          ∙ ap (λ (found : Option Event). entry_told tale k (unwrap_or found events.Stop) [] ∷ []) order.1.owed)))
          ∙ order-on stands.at order.0 order.1.owed),
    )

pub returns-in-No-clause-turn : goal.returns-in-No-clause-turn
returns-in-No-clause-turn g c =
    let self = c.args.self in let k : ℕ = pass_number self.book in
    let is = between self.stage c.requires.asks in
    let stands = c.ask-worker.ensures.asked in let tale : Tale = tale_of stands.at in
    let mid = c.ask-worker.result.0 in let after = c.end.result in
    let visit = c.end.ensures.dock in
    let away : does_lie mid.stage ≡ false = c.ask-worker.ensures.stage.0 in
    record {
      journal = stands.at;
      brought = stands.added;
      history = visit.at;
      made = visit.added;
      book = subst (λ pass. IsVisit 1 self.book pass stands.at stands.added) (sym c.end.ensures.book.0)
          (visit-hold self.book mid.book stands.at stands.added stands.hold);
      dock = subst (λ (lay : Bool). IsVisit (count_of lay) self.dock after.dock visit.at visit.added)
          (away ∙ sym is.away)
          (subst (λ pass. IsVisit (count_of (does_lie mid.stage)) pass after.dock visit.at visit.added)
          c.ask-worker.ensures.rest.1 visit.visit);
      did = record {
        done = c.end.ensures.ended;
        brought_none = stands.is.1
            ∙ ap (λ (answer : AskAnswer). only_if (is_done answer)
            (entry_told tale k (event_done tale asks.NextOrder) [])) c.in-No.is;
        made_end = visit.is ∙ ap (λ (lay : Bool). only_if lay Closed) (away ∙ sym is.away);
      };
      asked = λ asks none open_. absurd cc;
    }

pub returns-in-NoOrder-clause-turn : goal.returns-in-NoOrder-clause-turn
returns-in-NoOrder-clause-turn g c =
    let self = c.args.self in let k : ℕ = pass_number self.book in
    let is = between self.stage c.requires.asks in
    let stands = c.ask-worker.ensures.asked in let tale : Tale = tale_of stands.at in
    let mid = c.ask-worker.result.0 in let after = c.begin_next.result.0 in
    let none : stands.added ≡ [] = stands.is.1
    ∙ ap (λ (answer : AskAnswer). only_if (is_done answer) (entry_told tale k (event_done tale asks.NextOrder) []))
    c.in-NoOrder.is in
    let hold = subst (IsHold self.book mid.book stands.at) none stands.hold in
    let answered : answers.NoOrder ≡ ask_answer tale asks.NextOrder =
    subst (IsAskAnswer (ask_answer tale asks.NextOrder)) c.in-NoOrder.is stands.is.0 in
    let owed : order_owed (tale_of (seen mid.book)) ≡ None =
    ap (λ (journal : List JournalEntry). order_owed (tale_of journal)) (hold.idle refl).0
    ∙ none-owed tale (sym answered) in
    turn-fewer 1 2 self after c.begin_next.result.1 (omega arith)
    (turn-after 1 self mid after stands.at c.begin_next.result.1
    (record { hold = hold; dock = c.ask-worker.ensures.rest.1; table = c.ask-worker.ensures.rest.0 })
    (record {
      lie = c.ask-worker.ensures.stage.0 ∙ sym is.away;
      carry = c.ask-worker.ensures.stage.1 ∙ sym is.none;
      ask = λ asks. c.requires.asks;
    })
    (λ journal front asked asks done open_. record {
      noted = seen mid.book;
      later = seen-longer self.book mid.book stands.at hold;
      earlier = front;
      none = owed;
    }) c.begin_next.ensures.turn)

pub returns-in-NoMemory-clause-turn : goal.returns-in-NoMemory-clause-turn
returns-in-NoMemory-clause-turn g c =
    let self = c.args.self in let k : ℕ = pass_number self.book in
    let is = between self.stage c.requires.asks in
    let stands = c.ask-worker.ensures.asked in let tale : Tale = tale_of stands.at in
    let mid = c.ask-worker.result.0 in
    let none : stands.added ≡ [] = stands.is.1
    ∙ ap (λ (answer : AskAnswer). only_if (is_done answer) (entry_told tale k (event_done tale asks.NextOrder) []))
    c.in-NoMemory.is in
    let nothing = c.ask-worker.ensures.stage.1 in
    let again = c.ask-worker.ensures.stage.3 ∙ ap asks_again c.in-NoMemory.is in
    record {
      journal = stands.at;
      brought = stands.added;
      history = seen self.dock;
      made = [];
      book = visit-hold self.book mid.book stands.at stands.added stands.hold;
      dock = subst (λ (lay : Bool). IsVisit (count_of lay) self.dock mid.dock (seen self.dock) []) (sym is.away)
          (subst (λ pass. IsVisit 0 self.dock pass (seen self.dock) []) (sym c.ask-worker.ensures.rest.1)
          (visit-none self.dock));
      did = record {
        lay_not = is.away;
        lies_not = c.ask-worker.ensures.stage.0;
        asks = λ _. c.requires.asks;
        kept = λ some. absurd (let never : true ≡ false = sym some ∙ ap is_some is.none in cc);
        hand = λ hand there. absurd (let never : None ≡ Some hand = sym nothing ∙ there in cc);
        brought_begin = none ∙ (λ i. only_if (is_none (sym is.none i) && is_some (sym nothing i))
            (begin_entry k self.table tale));
        made_none = refl;
      };
      asked = λ asks done open_. absurd (let never : true ≡ false = sym again ∙ done in cc);
    }

pub returns-in-NoMemory-clause-ended : goal.returns-in-NoMemory-clause-ended
returns-in-NoMemory-clause-ended g c =
    let self = c.args.self in let k : ℕ = pass_number self.book in
    let stands = c.ask-worker.ensures.asked in let tale : Tale = tale_of stands.at in
    let left : seen c.ask-worker.result.0.book ≡ stands.at = (stands.hold.idle (stands.is.1
    ∙ ap (λ (answer : AskAnswer). only_if (is_done answer) (entry_told tale k (event_done tale asks.NextOrder) []))
    c.in-NoMemory.is)).0 in
    let legal : tale.legal ≡ true =
    sym (ap (λ (journal : List JournalEntry). (tale_of journal).legal) left) ∙ c.ask-worker.ensures.legal.allowed in (
      c.ask-worker.ensures.stage.2,
      sym (ap (λ (journal : List JournalEntry). (tale_of journal).ended) left
          ∙ (sym (answer-stops stands.at c.ask-worker.result.1 legal stands.is.0) ∙ ap is_refusal c.in-NoMemory.is)),
    )
