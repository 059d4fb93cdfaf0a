use Rattle.std.proofs.Common.{arith, ◌∙◌, ◌++◌, ℕ, List, ap}
use Rattle.std.proofs.lemmas.Grind.{common_steps}
use Rattle.table_engine.specs.declared.start.HandStart.{HandStart}
use Rattle.view_rules.specs.declared.entries.TableEntry.TheVariants.{Opened}
use Rattle.view_rules.specs.Entries.{TableTold, begun, entry_lines}
use Rattle.view_rules.specs.Spelling.{lines_text}
use Rattle.player_view.specs.Inside.{told_by}
use Rattle.player_view.proofs.Telling.{text-opened}
use Rattle.player_view.proofs.teller.TableTeller.open.Goals as goal

pub returns-clause-ok : goal.returns-clause-ok
returns-clause-ok c =
    let start = c.args.start.now in
    let is = c.in-Ok.ensures.hand ∙ ap (λ (copy : HandStart). begun copy) c.in_ok-copy.ensures in
    c.in_ok-push_opening.ensures.ok
    ∙ ap (λ (text : List ℕ). c.args.out.now.items ++ text)
    (text-opened (told_by c.self.inside) c.in-Ok.hand start is
    ∙ ap (λ (told : TableTold). lines_text (entry_lines told (Opened start))) c.self.view_is)

pub returns-in_default-clause-extends : goal.returns-in_default-clause-extends
returns-in_default-clause-extends c = grind (arith, common_steps)

pub returns-in_err-copy-clause-extends : goal.returns-in_err-copy-clause-extends
returns-in_err-copy-clause-extends c = grind (arith, common_steps)
