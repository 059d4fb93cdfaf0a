use Rattle.std.proofs.Common.{◌≡◌, ◌∙◌, ◌-◌, ◌+◌, sym, ap, map, suc, true, false, arith}
use Rattle.std.specs.Prelude.{filter, sum}
use Rattle.rulebook.specs.Seats.{walk}
use Rattle.seat_book.specs.Counts.{count_at}
use Rattle.balance_rule.specs.Filling.{is_other_open}
use Rattle.break_draw.proofs.Growing.{summed-one, passed-none}
use Rattle.break_draw.proofs.filling.empty_elsewhere.Goals.{then-is_other_open, else-is_other_open}
use Rattle.break_draw.proofs.filling.empty_elsewhere.Goals as goal

pub loop-below-preserved : goal.loop-below-preserved
loop-below-preserved c = elim c.if-is_other_open.branch [
  | then-is_other_open w ↦
      let passes : is_other_open c.args.book.now c.args.table (c.loop-below.below + 1) ≡ true =
      sym c.is_other_open.ensures ∙ w.if-is_other_open.true in
      let more = summed-one (λ other. c.args.book.now.seat_count - count_at c.args.book.now.players other)
      (is_other_open c.args.book.now c.args.table) c.loop-below.below passes in
      let now : c.if-is_other_open.empty ≡ sum (map (λ other. c.args.book.now.seat_count
      - count_at c.args.book.now.players other) (filter (is_other_open c.args.book.now c.args.table)
      (walk suc c.loop-below.below 0))) + (c.args.book.now.seat_count
      - count_at c.args.book.now.players (c.loop-below.below + 1)) = omega (
        arith,
        w.empty-is,
        w.from-empty.ensures,
        w.count.ensures.count,
        c.seat_count-seats.ensures.seats,
        c.loop-below.invariant.so_far,
      ) in
      record {
        so_far = now ∙ sym more;
        small = omega (
          arith,
          w.empty-is,
          w.from-empty.ensures,
          c.seat_count-seats.ensures.seats,
          c.seat_count-seats.ensures.lawful.most_seats,
          c.loop-below.invariant.small,
        );
      }
  | else-is_other_open w ↦
      let fails : is_other_open c.args.book.now c.args.table (c.loop-below.below + 1) ≡ false =
      sym c.is_other_open.ensures ∙ w.if-is_other_open.false in
      let same = passed-none (is_other_open c.args.book.now c.args.table) c.loop-below.below fails in
      record {
        so_far = w.empty-is ∙ (c.loop-below.invariant.so_far ∙ ap (λ tables. sum (map (λ other.
            c.args.book.now.seat_count - count_at c.args.book.now.players other) tables)) (sym same));
        small = omega (arith, w.empty-is, c.loop-below.invariant.small);
      }
]
