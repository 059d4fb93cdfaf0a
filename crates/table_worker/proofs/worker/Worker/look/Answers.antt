use Rattle.std.proofs.Common.{◌≡◌, ◌∙◌, ℕ, List, sym, ap, subst}
use Rattle.history_lock.specs.Passes.{pass_number, seen}
use Rattle.view_rules.specs.declared.entries.JournalEntry.{JournalEntry}
use Rattle.dock_rules.specs.Journals.{tale_of}
use Rattle.table_worker.specs.Stages.{does_lie, hand_carried}
use Rattle.table_worker.specs.Ties.{IsBrought, IsTied}
use Rattle.table_worker.proofs.Events.{brought-journal}
use Rattle.table_worker.proofs.Standing.{tied-look}
use Rattle.table_worker.proofs.worker.Worker.look.Goals as goal

pub invariant_of-worker : goal.invariant_of-worker
invariant_of-worker g c =
    let self = c.args.self in let k : ℕ = pass_number self.book in let table : ℕ = self.table in
    let stands = c.stopped-pass.ensures.stands in
    let after : List JournalEntry = seen c.stopped-pass.result.0 in
    let legal = c.stopped-pass.ensures.legal.allowed in
    let left : after ≡ stands.at = (stands.hold.idle stands.is.1).0 in
    record {
      first = self.first;
      tied = λ going. subst (λ (n : ℕ). IsTied n table after (seen self.dock) (hand_carried self.stage)
          (does_lie self.stage)) (sym stands.hold.number)
          (tied-look k table (seen self.book) stands.at after (seen self.dock) stands.hold.others legal
          (hand_carried self.stage) (does_lie self.stage) left (self.tied going));
      brought = λ done. subst (λ (both : ℕ × List JournalEntry). IsBrought both.0 table both.1 (seen self.dock))
          (λ i. (sym stands.hold.number i, sym left i))
          (brought-journal k table (seen self.book) stands.at (seen self.dock) stands.hold.others
          (sym (ap (λ (journal : List JournalEntry). (tale_of journal).legal) left) ∙ legal) (self.brought done));
    }
