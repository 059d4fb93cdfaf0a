use Rattle.std.proofs.Common.{◌∙◌, sym, ap}
use Rattle.history_lock.specs.Entries.{entries_by}
use Rattle.history_lock.specs.Passes.{seen}
use Rattle.dock_rules.specs.Tables.{table_caller}
use Rattle.table_worker.proofs.Ties.{tied-first}
use Rattle.table_worker.proofs.worker.Worker.new.Goals as goal

pub invariant_of-result : goal.invariant_of-result
invariant_of-result c =
    let book = c.args.book in let dock = c.args.dock in
    record {
      first = c.requires.first;
      tied = λ _. tied-first book.number c.args.table (seen book) (seen dock) (book.mine ∙ c.requires.none.0)
          (sym (ap (λ k. entries_by table_caller k (seen dock)) c.requires.first) ∙ (dock.mine ∙ c.requires.none.1));
      brought = λ no. absurd cc;
    }
