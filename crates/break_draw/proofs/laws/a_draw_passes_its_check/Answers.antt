use Rattle.std.proofs.Common.{refl}
use Rattle.balance_rule.specs.Filling.{names_at}
use Rattle.break_draw.specs.Generator.{drawn_order}
use Rattle.break_draw.proofs.Reorders.{draw-right}
use Rattle.break_draw.proofs.Shuffles.{drawn-permutes}
use Rattle.break_draw.proofs.laws.a_draw_passes_its_check.Goals as goal

pub returns-clause-test : goal.returns-clause-test
returns-clause-test c = λ seed kind other number seating table fill. draw-right seating table fill
    (drawn_order seed kind number fill) (names_at seating table)
    (drawn_order seed other number (names_at seating table)) refl
    (drawn-permutes seed kind number fill) (drawn-permutes seed other number (names_at seating table))

pub returns-clause-right : goal.returns-clause-right
returns-clause-right c = λ seed kind other number seating table fill. record {
  places = drawn-permutes seed kind number fill;
  players = drawn-permutes seed other number (names_at seating table);
}
