-- What the worker's own entries tell of the history of its table.
use Rattle.std.proofs.Common.{◌≡◌, ◌∙◌, ℕ, Bool, true, false, List, [], ◌∷◌, ◌++◌, None, ap, sym, subst}
use Rattle.std.specs.Prelude.{All, IsSome}
use Rattle.std.proofs.lemmas.List.Elements.{All-append, All-cons, All-nil, filter_map-append}
use Rattle.history_lock.specs.Entries.{entries_by}
use Rattle.table_engine.specs.declared.start.HandStart.{HandStart}
use Rattle.view_rules.specs.declared.entries.TableEntry.{TableEntry}
use Rattle.view_rules.specs.declared.entries.TableEntry.TheVariants.{Opened}
use Rattle.dock_rules.specs.Added.{only_if}
use Rattle.dock_rules.specs.Tables.{AreOfTable, lies, lying_hand, openings, start_opened, table_caller}
use Rattle.dock_rules.proofs.Tables.{lies-workers, none-by_workers, openings-workers}

module _ (number : ℕ) (history own : List TableEntry) (worker : number ≡ 0)
    (mine : entries_by table_caller number history ≡ own) where
  -- the own entries are the worker's
  workers_own : entries_by table_caller 0 history ≡ own
  workers_own = subst (λ (n : ℕ). entries_by table_caller n history ≡ own) worker mine

  -- Where none lies there by them, none does.
  pub none-by_own : lies own ≡ false → lying_hand history ≡ None
  none-by_own none = none-by_workers history (ap lies workers_own ∙ none)

  -- Where one lies there by them, one does.
  pub some-by_own : lies own ≡ true → IsSome (lying_hand history)
  some-by_own some = sym (lies-workers history) ∙ (ap lies workers_own ∙ some)

  -- Where all hands that were opened by them are of a table, all are.
  pub table-by_own : (table : ℕ) → AreOfTable table own → AreOfTable table history
  table-by_own table of =
      subst (λ (starts : List HandStart). All (λ (start : HandStart). start.table ≡ table) starts)
      (ap openings (sym workers_own) ∙ openings-workers history) of

-- Entries are all of a table with others that are.
table-append : (table : ℕ) (front back : List TableEntry) → AreOfTable table front → AreOfTable table back
    → AreOfTable table (front ++ back)
table-append table front back first then_ =
    subst (λ (starts : List HandStart). All (λ (start : HandStart). start.table ≡ table) starts)
    (sym (filter_map-append start_opened front back))
    (All-append (λ (start : HandStart). start.table ≡ table) (openings front) (openings back) first then_)

-- So are they with the opening of a hand of that table, if there is one.
pub table-opened : (table : ℕ) (entries : List TableEntry) (done : Bool) (start : HandStart) → AreOfTable table entries
    → start.table ≡ table → AreOfTable table (entries ++ only_if done (Opened start))
table-opened table entries false start of is =
    table-append table entries [] of (All-nil (λ (found : HandStart). found.table ≡ table))
table-opened table entries true start of is =
    table-append table entries (Opened start ∷ []) of
    (All-cons (λ (found : HandStart). found.table ≡ table) start [] is
    (All-nil (λ (found : HandStart). found.table ≡ table)))
