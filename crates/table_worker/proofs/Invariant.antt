-- What a worker's invariant says in its stages.
use Rattle.std.proofs.Common.{◌≡◌, ℕ, Bool, true, false, subst}
use Rattle.std.specs.Prelude.{List, Option, Some, None}
use Rattle.table_engine.specs.Hands.{HandTerms}
use Rattle.history_lock.specs.Entries.{IsGrownByOthers}
use Rattle.history_lock.specs.Passes.{pass_number, seen}
use Rattle.view_rules.specs.declared.entries.TableEntry.{TableEntry}
use Rattle.dock_rules.specs.Tables.{table_caller}
use Rattle.table_worker.specs.declared.worker.Worker.{Worker}
use Rattle.table_worker.specs.Stages.{does_ask, does_lie, hand_carried, is_done}
use Rattle.table_worker.specs.Ties.{IsTied}
use Rattle.table_worker.proofs.AtStages.{at-table, between, on_its_way}

-- the tie between a worker's hands and its table, with this hand to be brought there
abbrev pub IsTiedWith : Worker → Option HandTerms → Bool → Type 0
IsTiedWith worker carried there =
    IsTied (pass_number worker.book) worker.table (seen worker.book) (seen worker.dock) carried there

module _ (worker : Worker) where
  -- No hand is out.
  pub tied-free : hand_carried worker.stage ≡ None → does_lie worker.stage ≡ false → is_done worker.stage ≡ false
      → IsTiedWith worker None false
  tied-free none away going =
      subst (λ (at : Option HandTerms × Bool). IsTiedWith worker at.0 at.1) (λ i. (none i, away i)) (worker.tied going)

  -- No hand is out, and an order is asked for.
  pub tied-asking : does_ask worker.stage ≡ true → IsTiedWith worker None false
  tied-asking asks = let is = between worker.stage asks in tied-free is.none is.away is.going

  -- A hand is to be brought to the table.
  pub tied-carrying : (hand : HandTerms) → hand_carried worker.stage ≡ Some hand → IsTiedWith worker (Some hand) false
  tied-carrying hand held =
      let is = on_its_way worker.stage hand held in
      subst (λ (at : Option HandTerms × Bool). IsTiedWith worker at.0 at.1) (λ i. (held i, is.away i))
      (worker.tied is.going)

  -- A hand lies at the table.
  pub tied-lying : does_lie worker.stage ≡ true → IsTiedWith worker None true
  tied-lying lies =
      let is = at-table worker.stage lies in
      subst (λ (at : Option HandTerms × Bool). IsTiedWith worker at.0 at.1) (λ i. (is.none i, lies i))
      (worker.tied is.going)

  -- What others added to the table's history is not the worker's, whose pass is the first.
  pub grown-here : (at : List TableEntry)
      → IsGrownByOthers table_caller (pass_number worker.dock) (seen worker.dock) at
      → IsGrownByOthers table_caller 0 (seen worker.dock) at
  grown-here at grown =
      subst (λ (n : ℕ). IsGrownByOthers table_caller n (seen worker.dock) at) worker.first grown
