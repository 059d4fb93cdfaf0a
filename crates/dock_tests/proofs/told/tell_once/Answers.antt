use Rattle.std.proofs.Common.{◌≡◌, ◌∙◌, ◌<◌, ℕ, List, ap, length, sym, subst, take}
use Rattle.std.specs.Prelude.{IfErr, IfOk}
use Rattle.view_rules.specs.declared.entries.TableEntry.{TableEntry}
use Rattle.dock_rules.specs.Tables.{lying_hand}
use Rattle.table_dock.specs.declared.end.Untold.{Untold}
use Rattle.table_dock.specs.Telling.{number_told}
use Rattle.dock_tests.proofs.told.tell_once.Goals as goal

pub returns-clause-ok : goal.returns-clause-ok
returns-clause-ok g c =
    let stands = c.read_lines.ensures.stands in
    let same = (stands.hold.idle stands.is.1).0 in
    subst (λ (history : List TableEntry). IfOk c.read_lines.result.1 (λ (count : ℕ). count ≡ length history)) (sym same)
    stands.is.0.all

pub returns-clause-err : goal.returns-clause-err
returns-clause-err g c =
    let stands = c.read_lines.ensures.stands in
    let same = (stands.hold.idle stands.is.1).0 in
    subst
    (λ (history : List TableEntry). IfErr c.read_lines.result.1
    (λ (untold : Untold). untold.told < length history)) (sym same) stands.is.0.cut

pub returns-clause-hand : goal.returns-clause-hand
returns-clause-hand g c =
    let stands = c.read_lines.ensures.stands in
    let same = (stands.hold.idle stands.is.1).0 in
    stands.is.0.told.hand
    ∙ ap (λ (history : List TableEntry). lying_hand (take (number_told c.read_lines.result.1) history)) (sym same)

pub returns-clause-table : goal.returns-clause-table
returns-clause-table g c =
    let stands = c.read_lines.ensures.stands in stands.is.0.told.same_table ∙ c.requires.table
