use Rattle.std.proofs.Common.{◌≡◌, ◌∙◌, ◌==◌, ◌&&◌, sym, ap, true, false, length}
use Rattle.std.specs.Str.{bytes_eq}
use Rattle.std.proofs.lemmas.Bool.{eq-eqb, ne_eqb}
use Rattle.balance_rule.specs.Filling.{names_at}
use Rattle.break_draw.specs.Draws.{come_as_often}
use Rattle.break_draw.proofs.Names.{names-length}
use Rattle.break_draw.proofs.checks.are_players.Goals as goal

pub returns-then-names-from : goal.returns-then-names-from
returns-then-names-from c =
    let len = names-length c.args.book.now c.args.table in
    let same : (length c.args.names.now == length (names_at c.args.book.now c.args.table)) ≡ true =
    eq-eqb (length c.args.names.now) (length (names_at c.args.book.now c.args.table))
    (c.if-names-from.true ∙ (c.from.ensures ∙ (c.count.ensures.count ∙ sym len))) in
    c.names_come_as_often.ensures ∙ ap (λ b. b && come_as_often bytes_eq c.args.names.now
    (names_at c.args.book.now c.args.table)) (sym same)

pub returns-else-names-from : goal.returns-else-names-from
returns-else-names-from c =
    let len = names-length c.args.book.now c.args.table in
    let as_many = c.from.ensures ∙ (c.count.ensures.count ∙ sym len) in
    let fails : (length c.args.names.now == c.from.result) ≡ false = ne_eqb (length c.args.names.now) c.from.result
    c.if-names-from.false in
    fails ∙ ap (λ b. b && come_as_often bytes_eq c.args.names.now (names_at c.args.book.now c.args.table))
    (sym (ap (λ n. length c.args.names.now == n) (sym as_many) ∙ fails))
