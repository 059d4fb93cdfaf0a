use Rattle.std.proofs.Common.{◌≡◌, ◌∙◌, ◌++◌, ◌∷◌, [], ℕ, List, None, Some, Result, IfOk, is_ok, false, sym, ap, subst}
use Rattle.history_lock.specs.Passes.{pass_number, seen}
use Rattle.table_engine.specs.declared.record.ActFault.{ActFault}
use Rattle.table_engine.specs.Hands.{HandTerms}
use Rattle.view_rules.specs.declared.entries.JournalEntry.{JournalEntry}
use Rattle.dock_rules.specs.Added.{only_if}
use Rattle.dock_rules.specs.Journals.{Has, Tale, entry_told, tale_of}
use Rattle.dock_rules.specs.Points.{hand_begun, next_begin}
use Rattle.table_worker.specs.Ties.{IsTied}
use Rattle.table_worker.proofs.Invariant.{tied-free}
use Rattle.table_worker.proofs.Standing.{tied-begin, tied-look}
use Rattle.table_worker.proofs.worker.Worker.begin.Goals as goal

pub invariant_of-loaded : goal.invariant_of-loaded
invariant_of-loaded g c =
    let self = c.args.self in let k : ℕ = pass_number self.book in let table : ℕ = self.table in
    let stands = c.begin-pass.ensures.stands in let after : List JournalEntry = seen c.begin-pass.result.0 in
    let free = c.requires.free in
    let tied = tied-free self free.1 free.0 free.2 in
    let tale : Tale = tale_of stands.at in
    let hand : HandTerms = c.in-Ok.hand in
    let is : hand ≡ hand_begun tale table =
    subst (λ (result : Result HandTerms ActFault). IfOk result (λ hand. hand ≡ hand_begun tale table)) c.in-Ok.is
    stands.is.1 in
    let left : after ≡ stands.at ++ entry_told tale k (next_begin tale table) [] ∷ [] = stands.hold.left
    ∙ ap (λ (more : List JournalEntry). stands.at ++ more)
    (stands.is.2 ∙ ap (λ (result : Result HandTerms ActFault). only_if (is_ok result)
    (entry_told tale k (next_begin tale table) [])) c.in-Ok.is) in
    let has_hand : Has (pass_number c.begin-pass.result.0) hand.start (tale_of after) =
    subst (λ (result : Result HandTerms ActFault).
    IfOk result (λ hand. Has (pass_number c.begin-pass.result.0) hand.start (tale_of after))) c.in-Ok.is
    c.begin-pass.ensures.has in
    let has : Has k (hand_begun tale table).start (tale_of after) =
    subst (λ (at : ℕ × HandTerms). Has at.0 at.1.start (tale_of after)) (λ i. (stands.hold.number i, is i)) has_hand in
    let now = tied-begin k table (seen self.book) stands.at after (seen self.dock) stands.hold.others
    c.begin-pass.ensures.legal.allowed left has tied in
    record {
      first = self.first;
      tied = λ _. subst (λ (at : ℕ × HandTerms). IsTied at.0 table after (seen self.dock) (Some at.1) false)
          (λ i. (sym stands.hold.number i, sym is i)) now;
      brought = λ no. absurd cc;
    }

pub invariant_of-free : goal.invariant_of-free
invariant_of-free g c =
    let self = c.args.self in let k : ℕ = pass_number self.book in let table : ℕ = self.table in
    let stands = c.begin-pass.ensures.stands in let after : List JournalEntry = seen c.begin-pass.result.0 in
    let free = c.requires.free in
    let tied = tied-free self free.1 free.0 free.2 in
    let tale : Tale = tale_of stands.at in
    let left : after ≡ stands.at = (stands.hold.idle (stands.is.2
    ∙ ap (λ (result : Result HandTerms ActFault). only_if (is_ok result)
    (entry_told tale k (next_begin tale table) [])) c.in-Err.is)).0 in
    let now = tied-look k table (seen self.book) stands.at after (seen self.dock) stands.hold.others
    c.begin-pass.ensures.legal.allowed None false left tied in
    record {
      first = self.first;
      tied = λ _. subst (λ (n : ℕ). IsTied n table after (seen self.dock) None false) (sym stands.hold.number) now;
      brought = λ no. absurd cc;
    }
