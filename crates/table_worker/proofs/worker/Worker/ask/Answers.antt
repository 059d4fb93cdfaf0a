use Rattle.std.proofs.Common.{◌≡◌, ◌∙◌, ◌++◌, ℕ, Bool, List, false, true, sym, ap, subst}
use Rattle.std.specs.Prelude.{Option}
use Rattle.history_lock.specs.Passes.{pass_number, seen}
use Rattle.table_engine.specs.Hands.{HandTerms}
use Rattle.view_rules.specs.declared.entries.JournalEntry.{JournalEntry}
use Rattle.table_worker.specs.Ties.{IsTied}
use Rattle.table_worker.proofs.Invariant.{tied-asking}
use Rattle.table_worker.proofs.Standing.{tied-asked}
use Rattle.table_worker.proofs.worker.Worker.ask.Goals as goal

pub invariant_of-worker : goal.invariant_of-worker
invariant_of-worker g c =
    let self = c.args.self in let k : ℕ = pass_number self.book in let table : ℕ = self.table in
    let stands = c.order-pass.ensures.stands in let after : List JournalEntry = seen c.order-pass.result.0 in
    let tied = tied-asking self c.requires.asks in
    let now = tied-asked k table (seen self.book) stands.at after (seen self.dock) stands.hold.others
    c.order-pass.ensures.legal.allowed c.order-pass.result.1 stands.is.0
    (stands.hold.left ∙ ap (λ (more : List JournalEntry). stands.at ++ more) stands.is.1) tied in
    let stage = c.stage_after.ensures.free in
    record {
      first = self.first;
      tied = λ _. subst (λ (at : ℕ × Option HandTerms × Bool).
          IsTied at.0 table after (seen self.dock) at.1 at.2)
          (λ i. (sym stands.hold.number i, sym stage.1 i, sym stage.0 i)) now;
      brought = λ done. absurd (let never : false ≡ true = sym stage.2 ∙ done in cc);
    }
