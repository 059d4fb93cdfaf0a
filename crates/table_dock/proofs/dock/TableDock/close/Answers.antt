use Rattle.std.proofs.Common.{◌≡◌, ◌<◌, ◌++◌, ◌∙◌, List, All, sym, ap, subst}
use Rattle.view_rules.specs.declared.entries.TableEntry.{TableEntry}
use Rattle.dock_rules.specs.Tables.{table_caller}
use Rattle.table_dock.specs.Docks.{dock_passes}
use Rattle.table_dock.proofs.dock.TableDock.close.Goals as goal

pub returns-in-Ok-clause-seen : goal.returns-in-Ok-clause-seen
returns-in-Ok-clause-seen c = rw c.into_end.ensures.entries c.in-Ok.ensures.seen

pub returns-in-Ok-clause-others : goal.returns-in-Ok-clause-others
returns-in-Ok-clause-others c =
    let later = c.in-Ok.ensures.grown in
    let all : c.into_end.result.entries ≡ later.0 = c.into_end.ensures.entries ∙ (later.1
    ∙ ap (λ (opening : List TableEntry). opening ++ later.0) c.args.self.begun) in
    subst (All (λ e. table_caller e < dock_passes c.args.self)) (sym all) later.2
