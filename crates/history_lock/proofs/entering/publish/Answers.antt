use Rattle.std.proofs.Common.{rules, ◌≡◌, ℕ, [], ◌∷◌, List, length, refl, sym, ap, ◌∙◌, subst, arith, Option, None}
use mathlib.Core.Option.{none}
use Rattle.atomic_table.specs.Table.{Me, step, Allows}
use Rattle.history_lock.specs.declared.view.View.{View}
use Rattle.history_lock.specs.Views.{let_in_view, first_share}
use Rattle.history_lock.specs.Rule.{IsKept}
use Rattle.history_lock.specs.Steps.{published, share_left}
use Rattle.history_lock.proofs.Lists.{each_of_all}
use Rattle.history_lock.proofs.Moves.{publishes}
use Rattle.history_lock.proofs.entering.publish.Goals as goal

pub store-requires : goal.store-requires
store-requires g c =
    let H = g.V.Grows.history in let C = g.V.Grows.caller_of in let n : ℕ = c.args.steps.now.key.passes in
    let start = H c.args.steps.now.key.opening.value in
    let slots : ℕ = c.args.steps.now.table_id.slots in let id : ℕ = c.args.seat.now.id in
    let M : Type 0 = Me (Option g.row.V.Denot) (View g.row.V-Entry.Denot) in
    let before : M = c.args.seat.now.me in
    let v : View g.row.V-Entry.Denot = let_in_view before.0 in
    let is : before ≡ (v, (0, None) ∷ []) = λ i. (c.requires.served.0 i, c.requires.served.1 i) in
    let grown = c.requires.grown in
    let left : List g.row.V-Entry.Denot = g.J.Leaving.left in
    let same : H c.args.left.now.value ≡ left = c.requires.left in
    let counted : c.args.count ≡ length left = c.requires.count ∙ ap length same in (
      search rules,
      search rules,
      subst (λ (m : M). Allows (IsKept H C n start) slots id m 2 (λ _. c.args.count)
          (λ _. published left (step slots 2 c.args.count 0 none) m c.args.count)) (sym is)
          (publishes H C n start slots id v (first_share before.0.shares) left grown.0 c.args.count refl refl (sym same
          ∙ grown.1) (each_of_all (λ e. C e ≡ (first_share before.0.shares).number) grown.0 grown.2) counted
          (omega arith)),
    )

pub returns : goal.returns
returns g c =
    let M : Type 0 = Me (Option g.row.V.Denot) (View g.row.V-Entry.Denot) in
    let before : M = c.args.seat.now.me in
    let shares : before.0.shares ≡ first_share before.0.shares ∷ [] =
    ap (λ (v : View g.row.V-Entry.Denot). v.shares) c.requires.served.0 in
    record {
      seat = search rules;
      left = c.store.ensures.2.1 (first_share before.0.shares) shares
          ∙ (λ i. (
            record before.0 { shares = share_left (first_share before.0.shares) (sym c.requires.left i) ∷ [] },
            c.requires.served.1 i,
          ));
    }
