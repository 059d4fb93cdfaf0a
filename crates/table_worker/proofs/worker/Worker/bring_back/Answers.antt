use Rattle.std.proofs.Common.{◌≡◌, ◌∙◌, ◌++◌, ◌∷◌, [], ℕ, Bool, List, Option, None, Some, IfSome, true, false, refl, sym, ap, subst, arith}
use Rattle.std.specs.Prelude.{is_some}
use Rattle.history_lock.specs.Passes.{own, pass_number, seen}
use Rattle.table_engine.specs.Hands.{HandTerms, is_over}
use Rattle.tournament_events.specs.declared.event.Event.TheVariants as events
use Rattle.view_rules.specs.declared.entries.JournalEntry.{JournalEntry}
use Rattle.view_rules.specs.declared.entries.TableEntry.{TableEntry}
use Rattle.view_rules.specs.declared.entries.TableEntry.TheVariants.{Closed}
use Rattle.dock_rules.specs.Added.{only_if}
use Rattle.dock_rules.specs.Tables.{lying_hand}
use Rattle.dock_rules.specs.Journals.{Has, entry_told, tale_of}
use Rattle.book_dock.specs.declared.settle.SettleEnd.{SettleEnd}
use Rattle.book_dock.specs.Ends.{is_settled}
use Rattle.table_worker.specs.Ties.{IsBrought, IsTied}
use Rattle.table_worker.specs.Turns.{count_of}
use Rattle.table_worker.specs.Visits.{IsVisit}
use Rattle.table_worker.proofs.AtStages.{at-table}
use Rattle.table_worker.proofs.Invariant.{grown-here, tied-lying}
use Rattle.table_worker.proofs.OwnHands.{lies-own}
use Rattle.table_worker.proofs.Standing.{brought-void, ended-push, lying-now, not-so, out-now, tied-look, tied-settle, tied-stay}
use Rattle.table_worker.proofs.Ties.{legal-at, tied-journal}
use Rattle.table_worker.proofs.Visiting.{visit-fewer, visit-hold, visit-none}
use Rattle.table_worker.proofs.worker.Worker.bring_back.Goals as goal

pub close_hand-table_pass-requires-clause-lies : goal.close_hand-table_pass-requires-clause-lies
close_hand-table_pass-requires-clause-lies g c =
    let self = c.args.self in
    lies-own (seen self.dock) (own self.dock) (pass_number self.dock) self.first self.dock.mine
    ∙ ((self.tied (at-table self.stage c.requires.lies).going).lies ∙ c.requires.lies)

pub invariant_of-worker : goal.invariant_of-worker
invariant_of-worker g c =
    let self = c.args.self in let k : ℕ = pass_number self.book in let table : ℕ = self.table in
    let stands = c.close_hand-table_pass.ensures.stands in
    let after : List TableEntry = seen c.close_hand-table_pass.result.0 in
    let grown = grown-here self stands.at stands.hold.others in
    let tied = tied-lying self c.requires.lies in
    let left : after ≡ stands.at = (stands.hold.idle (stands.is.2
    ∙ ap (λ (found : Option HandTerms). only_if (is_some found) Closed) c.in-None.is)).0 in
    record {
      first = stands.hold.number ∙ self.first;
      tied = λ _. tied-stay k table (seen self.book) (seen self.dock) stands.at after grown None true left tied;
      brought = λ no. absurd cc;
    }

pub returns-in-None-clause-turn : goal.returns-in-None-clause-turn
returns-in-None-clause-turn g c =
    let self = c.args.self in let k : ℕ = pass_number self.book in let table : ℕ = self.table in
    let stands = c.close_hand-table_pass.ensures.stands in let pass = c.close_hand-table_pass.result.0 in
    let grown = grown-here self stands.at stands.hold.others in
    let is = at-table self.stage c.requires.lies in
    let tied = tied-lying self c.requires.lies in
    let there = lying-now k table (seen self.book) (seen self.dock) stands.at (seen pass) grown tied in
    let over : false ≡ is_over there.0 =
    subst (λ (both : Option HandTerms × Option HandTerms). IfSome both.0 (λ hand. is_some both.1 ≡ is_over hand))
    (λ i. (there.1 i, c.in-None.is i)) stands.is.1 in
    record {
      journal = seen self.book;
      brought = [];
      history = stands.at;
      made = stands.added;
      book = visit-none self.book;
      dock = subst (λ (lay : Bool). IsVisit (count_of lay) self.dock pass stands.at stands.added)
          (sym c.requires.lies) (visit-hold self.dock pass stands.at stands.added stands.hold);
      did = record {
        lay = c.requires.lies;
        lies = refl;
        hand = there.0;
        lying = there.1;
        plays = sym over;
        brought_none = refl;
        made_none = stands.is.2
            ∙ ap (λ (found : Option HandTerms). only_if (is_some found) Closed) c.in-None.is;
      };
      asked = λ asks. absurd (let never : true ≡ false = sym asks ∙ is.idle in cc);
    }

pub settle-book_pass-requires-clause-has : goal.settle-book_pass-requires-clause-has
settle-book_pass-requires-clause-has g c =
    let self = c.args.self in let k : ℕ = pass_number self.book in let table : ℕ = self.table in
    let stands = c.close_hand-table_pass.ensures.stands in
    let after : List TableEntry = seen c.close_hand-table_pass.result.0 in
    let grown = grown-here self stands.at stands.hold.others in
    let tied = tied-lying self c.requires.lies in
    let hand : HandTerms = c.in-Some.hand in
    let lies : lying_hand stands.at ≡ Some hand = subst (λ (found : Option HandTerms).
    IfSome found (λ hand. lying_hand stands.at ≡ Some hand)) c.in-Some.is stands.is.0 in
    subst (λ start. Has k start (tale_of (seen self.book))) (sym c.finish-done.ensures.start)
    (out-now k table (seen self.book) (seen self.dock) stands.at after grown hand lies tied).has

pub invariant_of-settled : goal.invariant_of-settled
invariant_of-settled g c =
    let self = c.args.self in let k : ℕ = pass_number self.book in let table : ℕ = self.table in
    let stands = c.close_hand-table_pass.ensures.stands in
    let after : List TableEntry = seen c.close_hand-table_pass.result.0 in
    let grown = grown-here self stands.at stands.hold.others in
    let tied = tied-lying self c.requires.lies in
    let hand : HandTerms = c.in-Some.hand in
    let lies : lying_hand stands.at ≡ Some hand = subst (λ (found : Option HandTerms).
    IfSome found (λ hand. lying_hand stands.at ≡ Some hand)) c.in-Some.is stands.is.0 in
    let left : after ≡ stands.at ++ Closed ∷ [] = stands.hold.left
    ∙ ap (λ (more : List TableEntry). stands.at ++ more)
    (stands.is.2 ∙ ap (λ (found : Option HandTerms). only_if (is_some found) Closed) c.in-Some.is) in
    let settled = c.settle-book_pass.ensures.stands in
    let journal : List JournalEntry = seen c.settle-book_pass.result.0 in
    let entry : JournalEntry = entry_told (tale_of settled.at) k (events.Settle hand.start.table) hand.acts in
    let put : journal ≡ settled.at ++ entry ∷ [] = settled.hold.left
    ∙ ap (λ (more : List JournalEntry). settled.at ++ more)
    (settled.is.1 ∙ (λ i. only_if (is_settled (c.in-Settled.is i)) (entry_told (tale_of settled.at) k
    (events.Settle (c.finish-done.ensures.start i).table) (c.finish-done.ensures.acts i)))) in
    let going : (tale_of settled.at).ended ≡ false =
    not-so (tale_of settled.at).ended true (sym settled.is.0 ∙ ap is_settled c.in-Settled.is) in
    let legal : (tale_of settled.at).legal ≡ true = legal-at settled.at (entry ∷ [])
    (sym (ap (λ (journal : List JournalEntry). (tale_of journal).legal) put)
    ∙ c.settle-book_pass.ensures.legal.allowed) in
    let tied_now = tied-journal k table (seen self.book) settled.at (seen self.dock) None true settled.hold.others
    legal tied in
    record {
      first = stands.hold.number ∙ self.first;
      tied = λ _. subst (λ (n : ℕ). IsTied n table journal after None false) (sym settled.hold.number)
          (tied-settle k table settled.at (seen self.dock) stands.at after grown journal hand lies legal going put left
          tied_now);
      brought = λ no. absurd cc;
    }

pub returns-in-Settled-clause-turn : goal.returns-in-Settled-clause-turn
returns-in-Settled-clause-turn g c =
    let self = c.args.self in let k : ℕ = pass_number self.book in let table : ℕ = self.table in
    let stands = c.close_hand-table_pass.ensures.stands in let pass = c.close_hand-table_pass.result.0 in
    let grown = grown-here self stands.at stands.hold.others in
    let is = at-table self.stage c.requires.lies in
    let tied = tied-lying self c.requires.lies in
    let hand : HandTerms = c.in-Some.hand in
    let lies : lying_hand stands.at ≡ Some hand = subst (λ (found : Option HandTerms).
    IfSome found (λ hand. lying_hand stands.at ≡ Some hand)) c.in-Some.is stands.is.0 in
    let over : true ≡ is_over hand =
    subst (λ (both : Option HandTerms × Option HandTerms). IfSome both.0 (λ hand. is_some both.1 ≡ is_over hand))
    (λ i. (lies i, c.in-Some.is i)) stands.is.1 in
    let here = (out-now k table (seen self.book) (seen self.dock) stands.at (seen pass) grown hand lies tied).here in
    let settled = c.settle-book_pass.ensures.stands in let book = c.settle-book_pass.result.0 in
    record {
      journal = settled.at;
      brought = settled.added;
      history = stands.at;
      made = stands.added;
      book = visit-fewer 0 1 self.book book settled.at settled.added (omega arith)
          (visit-hold self.book book settled.at settled.added settled.hold);
      dock = subst (λ (lay : Bool). IsVisit (count_of lay) self.dock pass stands.at stands.added)
          (sym c.requires.lies) (visit-hold self.dock pass stands.at stands.added stands.hold);
      did = record {
        lay = c.requires.lies;
        asks = refl;
        hand = hand;
        lying = lies;
        over = sym over;
        brought_settle = settled.is.1 ∙ ((λ i. only_if (is_settled (c.in-Settled.is i))
            (entry_told (tale_of settled.at) k (events.Settle (c.finish-done.ensures.start i).table)
            (c.finish-done.ensures.acts i)))
            ∙ ap (λ (there : ℕ). entry_told (tale_of settled.at) k (events.Settle there) hand.acts ∷ []) here);
        made_end = stands.is.2
            ∙ ap (λ (found : Option HandTerms). only_if (is_some found) Closed) c.in-Some.is;
      };
      asked = λ asks. absurd (let never : true ≡ false = sym asks ∙ is.idle in cc);
    }

pub returns-in-Settled-clause-ended : goal.returns-in-Settled-clause-ended
returns-in-Settled-clause-ended g c =
    let self = c.args.self in let k : ℕ = pass_number self.book in
    let settled = c.settle-book_pass.ensures.stands in
    let journal : List JournalEntry = seen c.settle-book_pass.result.0 in (
      refl,
      sym (ended-push settled.at k (events.Settle c.finish-done.result.start.table) c.finish-done.result.acts journal
          (settled.hold.left ∙ ap (λ (more : List JournalEntry). settled.at ++ more)
          (settled.is.1 ∙ ap (λ (end : SettleEnd). only_if (is_settled end) (entry_told (tale_of settled.at) k
          (events.Settle c.finish-done.result.start.table) c.finish-done.result.acts)) c.in-Settled.is))),
    )

pub invariant_of-done : goal.invariant_of-done
invariant_of-done g c =
    let self = c.args.self in let k : ℕ = pass_number self.book in let table : ℕ = self.table in
    let stands = c.close_hand-table_pass.ensures.stands in
    let after : List TableEntry = seen c.close_hand-table_pass.result.0 in
    let grown = grown-here self stands.at stands.hold.others in
    let tied = tied-lying self c.requires.lies in
    let hand : HandTerms = c.in-Some.hand in
    let lies : lying_hand stands.at ≡ Some hand = subst (λ (found : Option HandTerms).
    IfSome found (λ hand. lying_hand stands.at ≡ Some hand)) c.in-Some.is stands.is.0 in
    let left : after ≡ stands.at ++ Closed ∷ [] = stands.hold.left
    ∙ ap (λ (more : List TableEntry). stands.at ++ more)
    (stands.is.2 ∙ ap (λ (found : Option HandTerms). only_if (is_some found) Closed) c.in-Some.is) in
    let settled = c.settle-book_pass.ensures.stands in
    let journal : List JournalEntry = seen c.settle-book_pass.result.0 in
    let put : journal ≡ settled.at = (settled.hold.idle (settled.is.1
    ∙ ap (λ (end : SettleEnd). only_if (is_settled end) (entry_told (tale_of settled.at) k
    (events.Settle c.finish-done.result.start.table) c.finish-done.result.acts)) c.in-Stopped.is)).0 in
    let ended : (tale_of journal).ended ≡ true =
    ap (λ (journal : List JournalEntry). (tale_of journal).ended) put
    ∙ not-so (tale_of settled.at).ended false (sym settled.is.0 ∙ ap is_settled c.in-Stopped.is) in
    let tied_now = tied-look k table (seen self.book) settled.at journal (seen self.dock) settled.hold.others
    c.settle-book_pass.ensures.legal.allowed None true put tied in
    record {
      first = stands.hold.number ∙ self.first;
      tied = λ no. absurd cc;
      brought = λ _. subst (λ (n : ℕ). IsBrought n table journal after) (sym settled.hold.number)
          (brought-void k table journal (seen self.dock) stands.at after grown hand lies ended left tied_now);
    }

pub returns-in-Stopped-clause-turn : goal.returns-in-Stopped-clause-turn
returns-in-Stopped-clause-turn g c =
    let self = c.args.self in let k : ℕ = pass_number self.book in
    let stands = c.close_hand-table_pass.ensures.stands in let pass = c.close_hand-table_pass.result.0 in
    let is = at-table self.stage c.requires.lies in
    let settled = c.settle-book_pass.ensures.stands in let book = c.settle-book_pass.result.0 in
    record {
      journal = settled.at;
      brought = settled.added;
      history = stands.at;
      made = stands.added;
      book = visit-fewer 0 1 self.book book settled.at settled.added (omega arith)
          (visit-hold self.book book settled.at settled.added settled.hold);
      dock = subst (λ (lay : Bool). IsVisit (count_of lay) self.dock pass stands.at stands.added)
          (sym c.requires.lies) (visit-hold self.dock pass stands.at stands.added stands.hold);
      did = record {
        done = refl;
        brought_none = settled.is.1 ∙ ap (λ (end : SettleEnd). only_if (is_settled end)
            (entry_told (tale_of settled.at) k
            (events.Settle c.finish-done.result.start.table) c.finish-done.result.acts))
            c.in-Stopped.is;
        made_end = stands.is.2
            ∙ (λ i. only_if (is_some (c.in-Some.is i)) Closed)
            ∙ ap (λ (lay : Bool). only_if lay Closed) (sym c.requires.lies);
      };
      asked = λ asks. absurd (let never : true ≡ false = sym asks ∙ is.idle in cc);
    }

pub returns-in-Stopped-clause-ended : goal.returns-in-Stopped-clause-ended
returns-in-Stopped-clause-ended g c =
    let self = c.args.self in let k : ℕ = pass_number self.book in
    let settled = c.settle-book_pass.ensures.stands in
    let journal : List JournalEntry = seen c.settle-book_pass.result.0 in
    let put : journal ≡ settled.at = (settled.hold.idle (settled.is.1
    ∙ ap (λ (end : SettleEnd). only_if (is_settled end) (entry_told (tale_of settled.at) k
    (events.Settle c.finish-done.result.start.table) c.finish-done.result.acts)) c.in-Stopped.is)).0 in (
      refl,
      sym (ap (λ (journal : List JournalEntry). (tale_of journal).ended) put
          ∙ not-so (tale_of settled.at).ended false (sym settled.is.0 ∙ ap is_settled c.in-Stopped.is)),
    )
