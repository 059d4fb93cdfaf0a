use Rattle.std.proofs.Common.{rules, ◌≡◌, ℕ, [], refl, sym, subst, Option}
use mathlib.Core.Option.{none}
use Rattle.atomic_table.specs.Table.{Me, step, Allows}
use Rattle.history_lock.specs.declared.view.View.{View}
use Rattle.history_lock.specs.Views.{resting_view, first_share}
use Rattle.history_lock.specs.Rule.{IsKept}
use Rattle.history_lock.specs.Steps.{counted}
use Rattle.history_lock.proofs.Moves.{counts}
use Rattle.history_lock.proofs.lock.HistoryLock.news.Goals as goal

pub load-count-requires : goal.load-count-requires
load-count-requires g c =
    let H = g.V.Grows.history in let C = g.V.Grows.caller_of in let n : ℕ = c.args.self.now.table.shared.key.passes in
    let start = H c.args.self.now.table.shared.key.opening.value in
    let slots : ℕ = c.args.self.now.table.shared.table_id.slots in let id : ℕ = c.args.pass.now.seat.id in
    let M : Type 0 = Me (Option g.row.V.Denot) (View g.row.V-Entry.Denot) in
    let before : M = c.args.pass.now.seat.me in
    let v : View g.row.V-Entry.Denot = resting_view c.args.pass.now.number c.args.pass.now.known before.0 in
    let is : before ≡ (v, []) = λ i. (c.args.pass.now.at_rest i, c.args.pass.now.empty_handed i) in (
      search rules,
      search rules,
      subst (λ (m : M). Allows (IsKept H C n start) slots id m 2 (λ k. k) (counted (step slots 2 0 0 none) m)) (sym is)
          (counts H C n start slots id v [] (record (first_share before.0.shares) { number = c.args.pass.now.number }) refl
          refl),
    )
