use Rattle.std.proofs.Common.{rules, ◌≡◌, ◌∙◌, ◌++◌, [], ℕ, Bool, List, true, false, sym, ap, subst}
use Rattle.std.specs.Prelude.{is_some, Option}
use Rattle.history_lock.specs.Passes.{pass_number, seen}
use Rattle.table_engine.specs.Hands.{HandTerms}
use Rattle.view_rules.specs.declared.entries.TableEntry.{TableEntry}
use Rattle.view_rules.specs.declared.entries.TableEntry.TheVariants.{Closed}
use Rattle.dock_rules.specs.Added.{only_if}
use Rattle.table_worker.specs.Stages.{does_lie}
use Rattle.table_worker.specs.Turns.{count_of}
use Rattle.table_worker.specs.Visits.{IsVisit}
use Rattle.table_worker.proofs.Invariant.{grown-here, tied-lying}
use Rattle.table_worker.proofs.Standing.{brought-still, brought-void, lying-now}
use Rattle.table_worker.proofs.Visiting.{visit-hold, visit-none}
use Rattle.table_worker.proofs.worker.Worker.end.Goals as goal

pub invariant_of-result : goal.invariant_of-result
invariant_of-result g c =
    let self = c.args.self in
    let away : does_lie self.stage ≡ false = search rules in
    record {
      first = self.first;
      tied = λ going. absurd (let never : true ≡ false = going in cc);
      brought = λ _. brought-still (pass_number self.book) self.table (seen self.book) (seen self.dock) self.stage
          self.tied self.brought c.requires.stopped away;
    }

pub returns-then-not-lies-clause-dock : goal.returns-then-not-lies-clause-dock
returns-then-not-lies-clause-dock g c =
    let self = c.args.self in
    let away : does_lie self.stage ≡ false = search rules in
    record {
      at = seen self.dock;
      added = [];
      visit = subst (λ (lay : Bool). IsVisit (count_of lay) self.dock self.dock (seen self.dock) []) (sym away)
          (visit-none self.dock);
      is = ap (λ (lay : Bool). only_if lay Closed) (sym away);
    }

pub invariant_of-result-2 : goal.invariant_of-result-2
invariant_of-result-2 g c =
    let self = c.args.self in let k : ℕ = pass_number self.book in let table : ℕ = self.table in
    let stands = c.void_hand-pass.ensures.stands in let after : List TableEntry = seen c.void_hand-pass.result.0 in
    let grown = grown-here self stands.at stands.hold.others in
    let lay : does_lie self.stage ≡ true = search rules in
    let tied = tied-lying self lay in
    let there = lying-now k table (seen self.book) (seen self.dock) stands.at after grown tied in
    record {
      first = stands.hold.number ∙ self.first;
      tied = λ going. absurd (let never : true ≡ false = going in cc);
      brought = λ _. brought-void k table (seen self.book) (seen self.dock) stands.at after grown there.0 there.1
          c.requires.stopped (stands.hold.left ∙ ap (λ (more : List TableEntry). stands.at ++ more)
          (stands.is.1 ∙ ap (λ (found : Option HandTerms). only_if (is_some found) Closed) (stands.is.0 ∙ there.1)))
          tied;
    }

pub returns-clause-dock : goal.returns-clause-dock
returns-clause-dock g c =
    let self = c.args.self in let k : ℕ = pass_number self.book in let table : ℕ = self.table in
    let stands = c.void_hand-pass.ensures.stands in let after : List TableEntry = seen c.void_hand-pass.result.0 in
    let grown = grown-here self stands.at stands.hold.others in
    let lay : does_lie self.stage ≡ true = search rules in
    let tied = tied-lying self lay in
    let there = lying-now k table (seen self.book) (seen self.dock) stands.at after grown tied in
    let pass = c.void_hand-pass.result.0 in
    record {
      at = stands.at;
      added = stands.added;
      visit = subst (λ (lay : Bool). IsVisit (count_of lay) self.dock pass stands.at stands.added) (sym lay)
          (visit-hold self.dock pass stands.at stands.added stands.hold);
      is = stands.is.1 ∙ (ap (λ (found : Option HandTerms). only_if (is_some found) Closed) (stands.is.0 ∙ there.1)
          ∙ ap (λ (lay : Bool). only_if lay Closed) (sym lay));
    }
