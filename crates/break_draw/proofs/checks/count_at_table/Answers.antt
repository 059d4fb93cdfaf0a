use Rattle.std.proofs.Common.{◌∙◌, ap, map}
use Rattle.std.specs.Prelude.{count_by}
use Rattle.std.specs.Str.{bytes_eq}
use Rattle.break_draw.proofs.Names.{named-players}
use Rattle.break_draw.proofs.checks.count_at_table.Goals as goal

pub returns : goal.returns
returns c = c.count_in_slots.ensures ∙ (named-players c.args.name c.table_slots.result.now
    ∙ ap (λ players. count_by (bytes_eq c.args.name) (map (λ seated. seated.name) players))
    c.table_slots.ensures.players)
