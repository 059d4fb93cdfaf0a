use Rattle.std.proofs.Common.{◌≡◌, ◌∙◌, ◌+◌, ◌<◌, ◌≤◌, ◌&&◌, nat_lt, sym, ap, ℕ, true, false, arith}
use Rattle.seat_book.specs.Counts.{count_at}
use Rattle.tournament_rules.specs.Books.{BookState}
use Rattle.tournament_rules.specs.Checks.{may_be_entered, is_not_fewest}
use Rattle.floor_book.proofs.TablesLeft.{has_fewer, left-first, left-found, left-next, left-none}
use Rattle.floor_book.proofs.book.Book.is_not_fewest.Goals as goal

pub loop-below-init : goal.loop-below-init
loop-below-init c = left-first (has_fewer c.args.self.now c.args.table) c.args.self.now.plan.tables

pub loop-below-preserved : goal.loop-below-preserved
loop-below-preserved c =
    let book : BookState = c.args.self.now in
    let within : c.loop-below.below < c.args.self.now.plan.tables = omega (
      arith,
      c.loop-below-test.true,
      c.table_count-below-end.ensures.tables,
      c.self.invariant.tables.tables,
      ap (λ (book : BookState). book.plan.tables) c.self.view_is,
    ) in
    let counted = c.count-players.ensures.count
    ∙ ap (λ (book : BookState). count_at book.seating.players c.args.table) c.self.view_is in
    let fails : has_fewer c.args.self.now c.args.table (c.loop-below.below + 1) ≡ false =
    ap (λ (n : ℕ). may_be_entered book (c.loop-below.below + 1)
    && nat_lt (count_at book.seating.players (c.loop-below.below + 1)) n) (sym counted)
    ∙ (sym c.has_fewer.ensures ∙ c.if-has_fewer.false) in
    left-next (has_fewer book c.args.table) book.plan.tables c.loop-below.below (is_not_fewest book c.args.table)
    c.loop-below.invariant within fails

pub returns-then-has_fewer : goal.returns-then-has_fewer
returns-then-has_fewer c =
    let book : BookState = c.args.self.now in
    let within : c.loop-below.below < c.args.self.now.plan.tables = omega (
      arith,
      c.loop-below-test.true,
      c.table_count-below-end.ensures.tables,
      c.self.invariant.tables.tables,
      ap (λ (book : BookState). book.plan.tables) c.self.view_is,
    ) in
    let counted = c.count-players.ensures.count
    ∙ ap (λ (book : BookState). count_at book.seating.players c.args.table) c.self.view_is in
    let passes : has_fewer c.args.self.now c.args.table (c.loop-below.below + 1) ≡ true =
    ap (λ (n : ℕ). may_be_entered book (c.loop-below.below + 1)
    && nat_lt (count_at book.seating.players (c.loop-below.below + 1)) n) (sym counted)
    ∙ (sym c.has_fewer.ensures ∙ c.if-has_fewer.true) in
    left-found (has_fewer book c.args.table) book.plan.tables c.loop-below.below (is_not_fewest book c.args.table)
    c.loop-below.invariant within passes

pub returns : goal.returns
returns c =
    let book : BookState = c.args.self.now in
    let over : c.args.self.now.plan.tables ≤ c.loop-below.below = omega (
      arith,
      c.loop-below-test.false,
      c.table_count-below-end.ensures.tables,
      c.self.invariant.tables.tables,
      ap (λ (book : BookState). book.plan.tables) c.self.view_is,
    ) in
    left-none (has_fewer book c.args.table) book.plan.tables c.loop-below.below (is_not_fewest book c.args.table)
    c.loop-below.invariant over
