use Rattle.std.proofs.Common.{◌≡◌, ◌∙◌, true, [], ◌++◌, List, Option, None, ap}
use Rattle.std.specs.Prelude.{is_none}
use Rattle.history_lock.specs.Passes.{own}
use Rattle.table_engine.specs.declared.start.HandStart.{HandStart}
use Rattle.table_engine.specs.Hands.{HandTerms}
use Rattle.view_rules.specs.declared.entries.TableEntry.{TableEntry}
use Rattle.view_rules.specs.declared.entries.TableEntry.TheVariants.{Opened}
use Rattle.dock_rules.specs.Added.{only_if}
use Rattle.dock_rules.specs.Tables.{lies}
use Rattle.dock_tests.proofs.table.open_hand.Goals as goal

-- A hand lies there by the own entries, where one was opened and nothing was done before.
lies-opened : (before after added : List TableEntry) (back : Option HandTerms) (start : HandStart) → before ≡ []
    → after ≡ before ++ added → added ≡ only_if (is_none back) (Opened start) → back ≡ None → lies after ≡ true
lies-opened before after added back start none grown opened kept =
    ap lies
    (grown
    ∙ (ap (λ (front : List TableEntry). front ++ added) none
    ∙ (opened ∙ ap (λ (found : Option HandTerms). only_if (is_none found) (Opened start)) kept)))

pub open_hand-worker-requires-clause-none_lies : goal.open_hand-worker-requires-clause-none_lies
open_hand-worker-requires-clause-none_lies g c = ap lies c.requires.pass.2

pub returns-clause-lies : goal.returns-clause-lies
returns-clause-lies g c =
    let stands = c.open_hand-worker.ensures.stands in
    lies-opened (own c.args.worker) (own c.open_hand-worker.result.0) stands.added c.open_hand-worker.result.1
    c.in_ok-hand.hand.start c.requires.pass.2 stands.hold.own_after stands.is c.in-None.is
