use Rattle.std.proofs.Common.{◌∙◌, ◌&&◌, sym, ap}
use Rattle.std.specs.Str.{bytes_eq}
use Rattle.balance_rule.specs.Filling.{names_at}
use Rattle.break_draw.specs.Draws.{is_reordered}
use Rattle.break_draw.proofs.Reorders.{draw-exact}
use Rattle.break_draw.proofs.checks.check_draw.Goals as goal

pub returns-then-are_same_places-clause-exact : goal.returns-then-are_same_places-clause-exact
returns-then-are_same_places-clause-exact c =
    draw-exact c.args.book.now c.args.table c.args.fill.now c.args.seats.now c.args.names.now c.are_players.result
    (c.are_players.ensures
    ∙ ap (λ b. b && is_reordered bytes_eq c.args.names.now (names_at c.args.book.now c.args.table))
    (sym c.if-are_same_places.true ∙ c.are_same_places.ensures))

pub returns-else-are_same_places-clause-exact : goal.returns-else-are_same_places-clause-exact
returns-else-are_same_places-clause-exact c =
    draw-exact c.args.book.now c.args.table c.args.fill.now c.args.seats.now c.args.names.now c.are_same_places.result
    (c.if-are_same_places.false ∙ ap (λ b. b && is_reordered bytes_eq c.args.names.now
    (names_at c.args.book.now c.args.table)) (sym c.if-are_same_places.false ∙ c.are_same_places.ensures))
