use Rattle.std.proofs.Common.{◌≡◌, ◌∙◌, ◌+◌, sym, ap, subst, true, false, None, arith}
use Rattle.std.specs.Prelude.{fold}
use Rattle.seat_book.specs.Places.{IsTableOf}
use Rattle.balance_rule.specs.Filling.{is_other_open, lower_of}
use Rattle.break_draw.proofs.Growing.{folded-one, passed-none}
use Rattle.break_draw.proofs.filling.lowest_table.Goals.{then-is_other_open, else-is_other_open}
use Rattle.break_draw.proofs.filling.lowest_table.Goals as goal

pub loop-below-preserved : goal.loop-below-preserved
loop-below-preserved c =
    let number : IsTableOf c.args.book.now.table_count (c.loop-below.below + 1) = record {
      first = omega arith;
      last = omega (arith, c.loop-below-test.true, c.table_count-below-end.ensures.tables);
    } in
    elim c.if-is_other_open.branch [
      | then-is_other_open w ↦
          let passes : is_other_open c.args.book.now c.args.table (c.loop-below.below + 1) ≡ true =
          sym c.is_other_open.ensures ∙ w.if-is_other_open.true in
          let one = w.lower_of.ensures.one c.args.book.now.table_count c.loop-below.invariant.within number in
          record {
            so_far = λ count has. w.lowest-is ∙ (sym (w.lower_of.ensures.lower c.args.book.now.table_count count has
                c.loop-below.invariant.within number) ∙ (ap (λ lowest. lower_of count lowest (c.loop-below.below + 1))
                (c.loop-below.invariant.so_far count has)
                ∙ sym (folded-one (lower_of count) None (is_other_open c.args.book.now c.args.table) c.loop-below.below
                passes)));
            within = λ table is. let same : w.lower_of.result ≡ table = cc in
                subst (IsTableOf c.args.book.now.table_count) same one;
          }
      | else-is_other_open w ↦
          let fails : is_other_open c.args.book.now c.args.table (c.loop-below.below + 1) ≡ false =
          sym c.is_other_open.ensures ∙ w.if-is_other_open.false in
          let same = passed-none (is_other_open c.args.book.now c.args.table) c.loop-below.below fails in
          record {
            so_far = λ count has. w.lowest-is ∙ (c.loop-below.invariant.so_far count has
                ∙ ap (λ tables. fold (lower_of count) None tables) (sym same));
            within = rw w.lowest-is c.loop-below.invariant.within;
          }
    ]
