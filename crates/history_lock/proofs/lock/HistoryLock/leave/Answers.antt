use Rattle.std.proofs.Common.{rules, arith, ◌≡◌, ◌+◌, ◌%◌, ◌^◌, ℕ, [], ◌∷◌, refl, sym, ap, ◌∙◌, subst, Option, Some, None}
use Rattle.std.proofs.lemmas.Grind.{common_steps}
use mathlib.Core.Option.{none}
use Rattle.atomic_table.specs.Table.{Me, step, rest, Allows}
use Rattle.history_lock.specs.declared.view.View.{View}
use Rattle.history_lock.specs.declared.view.Share.{Share}
use Rattle.history_lock.specs.Entries.{entries_by}
use Rattle.history_lock.proofs.Prefixes.{own_left}
use Rattle.history_lock.specs.Views.{first_share}
use Rattle.history_lock.specs.Rule.{IsKept}
use Rattle.history_lock.specs.Steps.{passed_on, share_left}
use Rattle.history_lock.proofs.Moves.{passes_on}
use Rattle.history_lock.proofs.lock.HistoryLock.leave.Goals as goal

pub fetch_add-served-requires : goal.fetch_add-served-requires
fetch_add-served-requires g c =
    let H = g.V.Grows.history in let C = g.V.Grows.caller_of in let n : ℕ = c.args.self.now.table.shared.key.passes in
    let start = H c.args.self.now.table.shared.key.opening.value in
    let slots : ℕ = c.args.self.now.table.shared.table_id.slots in let id : ℕ = c.exchange-taken.new.seat.id in
    let M : Type 0 = Me (Option g.row.V.Denot) (View g.row.V-Entry.Denot) in
    let before : M = c.args.inside.turn.seat.me in
    let val : g.row.V.Denot = c.args.inside.value in
    let share = share_left (first_share before.0.shares) (H val) in
    let v : View g.row.V-Entry.Denot = record before.0 { shares = share ∷ [] } in
    let told : g.row.V.Denot
    → M = λ x. (record before.0 { shares = share_left (first_share before.0.shares) (H x) ∷ [] }, (0, None) ∷ []) in
    let is : c.exchange-taken.new.seat.me ≡ (v, (0, Some val) ∷ []) = c.exchange-taken.ensures.3
    ∙ ap (λ (m : M). let z : M = (m.0, (0, Some val) ∷ rest m.1) in z) (c.publish.ensures.left
    ∙ ap told c.of-left.ensures) in (
      search rules,
      search rules,
      subst (λ (m : M). Allows (IsKept H C n start) slots id m 1 (λ k. (k + 1) % 2 ^ 64)
          (passed_on (step slots 1 1 0 none) m)) (sym is)
          (passes_on H C n start slots id v share val refl
          (ap (λ (z : View g.row.V-Entry.Denot). z.served) c.args.inside.turn.let_in) refl),
    )

pub invariant_of-result-clause-mine : goal.invariant_of-result-clause-mine
invariant_of-result-clause-mine g c =
    let H = g.V.Grows.history in let C = g.V.Grows.caller_of in
    let M : Type 0 = Me (Option g.row.V.Denot) (View g.row.V-Entry.Denot) in
    let before : M = c.args.inside.turn.seat.me in
    let S : Type 0 = Share g.row.V-Entry.Denot in
    let k : ℕ = c.args.inside.turn.number in
    let told : g.row.V.Denot
    → M = λ x. (record before.0 { shares = share_left (first_share before.0.shares) (H x) ∷ [] }, (0, None) ∷ []) in
    let left : c.publish.new.seat.me ≡ told c.args.inside.value = c.publish.ensures.left ∙ ap told c.of-left.ensures in
    let share : first_share c.call_next.new.seat.me.0.shares
    ≡ share_left (first_share before.0.shares) (H c.args.inside.value) =
    ap (λ (m : M). first_share m.0.shares) (c.call_next.ensures.same.2 ∙ c.fetch_add-served.ensures.2)
    ∙ (ap (λ (m : M). first_share m.0.shares) c.exchange-taken.ensures.3
    ∙ ap (λ (m : M). first_share m.0.shares) left) in
    subst (λ (z : S). entries_by C k z.seen ≡ z.own) (sym share)
    (own_left C k (first_share before.0.shares).seen (first_share before.0.shares).own (H c.args.inside.value)
    c.args.inside.turn.mine c.requires.grown)

pub publish-requires-clause-grown : goal.publish-requires-clause-grown
publish-requires-clause-grown g c = grind (arith, common_steps)

pub returns : goal.returns
returns g c = grind (arith, common_steps)
