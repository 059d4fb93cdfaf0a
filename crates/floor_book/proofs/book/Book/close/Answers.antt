use Rattle.std.proofs.Common.{◌≡◌, ◌<◌, ◌^◌, ◌∙◌, sym, ap, arith}
use Rattle.tournament_rules.specs.Books.{BookState}
use Rattle.tournament_rules.specs.Effects.{void_first}
use Rattle.floor_book.proofs.Begun.{left_count, left_accepted, stopped_state}
use Rattle.floor_book.proofs.book.Book.close.Goals as goal

pub void_at-requires : goal.void_at-requires
void_at-requires c =
    let is : c.loop-below.self ≡ void_first c.args.self.now c.loop-below.below = c.loop-below.invariant in
    let count = ap (λ (book : BookState). book.seating.table_count) is
    ∙ (left_count c.args.self.now c.loop-below.below
    ∙ sym (ap (λ (book : BookState). book.seating.table_count) c.self.view_is)) in
    record { first = omega arith; last = omega (arith, count, c.table_count-below-end.ensures.tables) }

pub overflow_add-self : goal.overflow_add-self
overflow_add-self c =
    let is : c.loop-below.self ≡ void_first c.args.self.now c.loop-below.below = c.loop-below.invariant in
    let accepted : c.self-2.inside.accepted ≡ c.args.self.now.accepted = ap (λ (book : BookState). book.accepted)
    (c.self-2.view_is ∙ is) ∙ left_accepted c.args.self.now c.loop-below.below in
    let few : c.args.self.now.accepted < 2 ^ 60 = c.requires in
    omega (arith, accepted, few)

pub returns : goal.returns
returns c =
    let is : c.loop-below.self ≡ void_first c.args.self.now c.loop-below.below = c.loop-below.invariant in
    let plan = ap (λ (book : BookState). book.plan.tables) c.self.view_is in
    let all : c.loop-below.below ≡ c.args.self.now.plan.tables =
    omega (arith, plan, c.self.invariant.tables.tables, c.table_count-below-end.ensures.tables) in
    stopped_state c.args.self.now _ c.loop-below.below (c.self-2.view_is ∙ is) all
