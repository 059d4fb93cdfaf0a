use Rattle.std.proofs.Common.{◌≡◌, ◌∙◌, ◌+◌, ◌-◌, ◌<◌, ◌||◌, sym, ap, suc, true, false, arith}
use Rattle.std.specs.List.{list_any}
use Rattle.rulebook.specs.Seats.{walk}
use Rattle.seat_book.proofs.TableWalks.{any-next}
use Rattle.hand_rounds.specs.Rounds.{holds_open}
use Rattle.hand_rounds.proofs.rounds.is_unfinished.Goals as goal

pub loop-below-preserved : goal.loop-below-preserved
loop-below-preserved c =
    let within : c.loop-below.below < c.args.book.now.table_count = omega (
      arith,
      c.loop-below-test.true,
      c.table_count-below-end.ensures.tables,
    ) in
    let here : holds_open c.args.book.now (c.loop-below.below + 1) ≡ false =
    sym c.holds_open.ensures ∙ c.if-holds_open.false in
    sym (any-next (holds_open c.args.book.now) c.args.book.now.table_count c.loop-below.below within
    ∙ ap (λ b. b || list_any (holds_open c.args.book.now)
    (walk suc (c.args.book.now.table_count - (c.loop-below.below + 1)) (c.loop-below.below + 1))) here)
    ∙ c.loop-below.invariant

pub returns-then-holds_open : goal.returns-then-holds_open
returns-then-holds_open c =
    let within : c.loop-below.below < c.args.book.now.table_count = omega (
      arith,
      c.loop-below-test.true,
      c.table_count-below-end.ensures.tables,
    ) in
    let here : holds_open c.args.book.now (c.loop-below.below + 1) ≡ true =
    sym c.holds_open.ensures ∙ c.if-holds_open.true in
    sym (any-next (holds_open c.args.book.now) c.args.book.now.table_count c.loop-below.below within
    ∙ ap (λ b. b || list_any (holds_open c.args.book.now)
    (walk suc (c.args.book.now.table_count - (c.loop-below.below + 1)) (c.loop-below.below + 1))) here)
    ∙ c.loop-below.invariant
