use Rattle.std.proofs.Common.{rules, ◌≡◌, ℕ, length, slice_get, ◌-◌, ◌<◌, List, refl, sym, ap, ◌∙◌, subst, arith}
use Rattle.history_lock.specs.declared.view.View.{View}
use Rattle.history_lock.specs.Entries.{entries_by}
use Rattle.history_lock.specs.Views.{first_share}
use Rattle.history_lock.proofs.Prefixes.{none_own}
use Rattle.history_lock.proofs.Dealing.{none_there, fresh_push, gives, left_over, given_one, last_one, giving, giving_rests, giving_is_fresh}
use Rattle.history_lock.proofs.making.deal.Goals as goal

pub loop-number-init : goal.loop-number-init
loop-number-init g c = (
  refl,
  c.requires.all.1,
  (c.args.n, omega arith, c.requires.all.0),
  search rules,
  c.requires.room.1,
  λ k pass e.
      absurd (none_there k pass (ap (λ l. slice_get l k) (sym c.requires.room.0) ∙ e)),
)

pub split_seat-given-requires : goal.split_seat-given-requires
split_seat-given-requires g c =
    let left = c.loop-number.invariant.2 in (
      search rules,
      search rules,
      gives g.V.Grows.history g.V.Grows.caller_of c.args.steps.now.key.passes
          (g.V.Grows.history c.args.steps.now.key.opening.value) c.loop-number.seat.id
          c.loop-number.number left.0 c.args.n (first_share c.args.seat.me.0.shares).seen c.loop-number.seat.me.0
          left.2 left.1
          c.loop-number-test.true,
    )

pub invariant_of-push_reserved : goal.invariant_of-push_reserved
invariant_of-push_reserved g c =
    let left = c.loop-number.invariant.2 in
    let given = c.split_seat-given.ensures.4 in
    let seen : List g.row.V-Entry.Denot = (first_share c.args.seat.me.0.shares).seen in
    let below : c.loop-number.number < c.args.n = let lt = c.loop-number-test.true in omega arith in
    record {
      empty_handed = ap (λ m. m.1) given;
      at_rest = giving_rests c.loop-number.number seen c.split_seat-given.result.me.0
          (ap (λ m. m.0) given ∙ given_one c.loop-number.number left.0 c.args.n seen c.loop-number.seat.me.0 left.2
          left.1 below);
      mine = subst (λ (z : View g.row.V-Entry.Denot). entries_by g.V.Grows.caller_of c.loop-number.number
          (first_share z.shares).seen ≡ (first_share z.shares).own)
          (sym (ap (λ m. m.0) given ∙ given_one c.loop-number.number left.0 c.args.n seen c.loop-number.seat.me.0 left.2
          left.1 below)) (none_own g.V.Grows.caller_of c.loop-number.number seen
          (let most = c.requires.opener.0 in omega arith) c.requires.opener.1);
    }

pub invariant_of-push_reserved-2-clause-mine : goal.invariant_of-push_reserved-2-clause-mine
invariant_of-push_reserved-2-clause-mine g c =
    let left = c.loop-number.invariant.2 in
    let seen : List g.row.V-Entry.Denot = (first_share c.args.seat.me.0.shares).seen in
    let some : 0 < c.args.n = c.requires.all.2 in
    let below : c.loop-number.number < c.args.n = let le = c.loop-number.auto.number-end in omega arith in
    let one : c.loop-number.seat.me.0 ≡ giving c.loop-number.number 1 seen =
    last_one c.loop-number.number left.0 c.args.n seen c.loop-number.seat.me.0 left.2 left.1
    c.loop-number-test.false below in
    let last : c.args.n - 1 ≡ c.loop-number.number = let le = c.loop-number.auto.number-end in let ge =
    c.loop-number-test.false in omega arith in
    subst (λ (k : ℕ). entries_by g.V.Grows.caller_of k (first_share c.loop-number.seat.me.0.shares).seen
    ≡ (first_share c.loop-number.seat.me.0.shares).own) (sym last)
    (subst (λ (z : View g.row.V-Entry.Denot). entries_by g.V.Grows.caller_of c.loop-number.number
    (first_share z.shares).seen ≡ (first_share z.shares).own) (sym one)
    (none_own g.V.Grows.caller_of c.loop-number.number seen (let most = c.requires.opener.0 in omega arith)
    c.requires.opener.1))

pub loop-number-preserved : goal.loop-number-preserved
loop-number-preserved g c =
    let left = c.loop-number.invariant.2 in
    let given = c.split_seat-given.ensures.4 in
    let kept = c.split_seat-given.ensures.2 in
    let seen : List g.row.V-Entry.Denot = (first_share c.args.seat.me.0.shares).seen in
    let below : c.loop-number.number < c.args.n = let lt = c.loop-number-test.true in omega arith in
    let over = left_over c.loop-number.number left.0 c.args.n seen c.loop-number.seat.me.0 left.2 left.1
    c.loop-number-test.true in
    let one : c.split_seat-given.result.me.0 ≡ giving c.loop-number.number 1 seen = ap (λ m. m.0) given
    ∙ given_one c.loop-number.number left.0 c.args.n seen c.loop-number.seat.me.0 left.2 left.1 below in
    let len : length c.loop-number.passes.items ≡ c.loop-number.number = omega (arith, c.loop-number.passes.ok.0) in (
      search rules,
      ap (λ m. m.1) kept ∙ c.loop-number.invariant.1,
      (over.0, over.1, ap (λ m. m.0) kept ∙ over.2),
      omega arith,
      omega arith,
      rw c.push_reserved.ensures.items
          (fresh_push c.args.seat.table_id seen c.loop-number.passes.items _ c.loop-number.number len
          c.loop-number.invariant.5
          (giving_is_fresh c.args.seat.table_id c.loop-number.number seen _ (c.split_seat-given.ensures.3
          ∙ c.loop-number.invariant.0) refl refl one)),
    )

pub returns-clause-fresh : goal.returns-clause-fresh
returns-clause-fresh g c =
    let left = c.loop-number.invariant.2 in
    let seen : List g.row.V-Entry.Denot = (first_share c.args.seat.me.0.shares).seen in
    let some : 0 < c.args.n = c.requires.all.2 in
    let below : c.loop-number.number < c.args.n = let le = c.loop-number.auto.number-end in omega arith in
    let last : c.args.n - 1 ≡ c.loop-number.number = let le = c.loop-number.auto.number-end in let ge =
    c.loop-number-test.false in omega arith in
    let len : length c.loop-number.passes.items ≡ c.loop-number.number = omega (arith, c.loop-number.passes.ok.0) in
    let one : c.loop-number.seat.me.0 ≡ giving c.loop-number.number 1 seen =
    last_one c.loop-number.number left.0 c.args.n seen c.loop-number.seat.me.0 left.2 left.1
    c.loop-number-test.false below in
    rw c.push_reserved-2.ensures.items
    (fresh_push c.args.seat.table_id seen c.loop-number.passes.items _ c.loop-number.number len
    c.loop-number.invariant.5
    (giving_is_fresh c.args.seat.table_id c.loop-number.number seen _ c.loop-number.invariant.0 last refl one))
