-- What the worker's own entries tell of the hand at its table.
use Rattle.std.proofs.Common.{◌≡◌, ◌∙◌, sym, ap, subst, ℕ, List}
use Rattle.std.specs.Prelude.{is_some}
use Rattle.history_lock.specs.Entries.{entries_by}
use Rattle.view_rules.specs.declared.entries.TableEntry.{TableEntry}
use Rattle.dock_rules.specs.Tables.{lies, lying_hand, table_caller}
use Rattle.dock_rules.proofs.Tables.{lies-workers}

-- A hand lies there by the worker's own entries just where one lies there.
pub lies-own : (history own : List TableEntry) (number : ℕ) → number ≡ 0
    → entries_by table_caller number history ≡ own → lies own ≡ is_some (lying_hand history)
lies-own history own number first mine =
    ap lies (sym (subst (λ (n : ℕ). entries_by table_caller n history ≡ own) first mine)) ∙ lies-workers history
