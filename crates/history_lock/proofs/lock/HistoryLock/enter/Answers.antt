use Rattle.std.proofs.Common.{rules, ◌≡◌, ◌+◌, ◌%◌, ◌^◌, ℕ, [], refl, sym, ap, ◌∙◌, subst, Option}
use mathlib.Core.Option.{none}
use Rattle.atomic_table.specs.Table.{Me, step, Allows}
use Rattle.history_lock.specs.declared.view.View.{View}
use Rattle.history_lock.specs.Views.{resting_view, first_share}
use mathlib.Core.List.{IsPrefix}
use Rattle.history_lock.specs.Entries.{entries_by, IsGrownByOthers}
use Rattle.history_lock.specs.Passes.{seen, own}
use Rattle.history_lock.specs.Rule.{IsKept}
use Rattle.history_lock.proofs.Holds.{grown_by_others}
use Rattle.history_lock.specs.Steps.{drew}
use Rattle.history_lock.proofs.Moves.{draws}
use Rattle.history_lock.proofs.lock.HistoryLock.enter.Goals as goal

pub fetch_add-ticket-requires : goal.fetch_add-ticket-requires
fetch_add-ticket-requires g c =
    let H = g.V.Grows.history in let C = g.V.Grows.caller_of in let n : ℕ = c.args.self.now.table.shared.key.passes in
    let start = H c.args.self.now.table.shared.key.opening.value in
    let slots : ℕ = c.args.self.now.table.shared.table_id.slots in let id : ℕ = c.into_parts-number.result.2.id in
    let M : Type 0 = Me (Option g.row.V.Denot) (View g.row.V-Entry.Denot) in
    let before : M = c.args.pass.seat.me in
    let share = record (first_share before.0.shares) { number = c.args.pass.number } in
    let v : View g.row.V-Entry.Denot = resting_view c.args.pass.number c.args.pass.known before.0 in
    let is : c.into_parts-number.result.2.me ≡ (v, []) = ap (λ p. p.me) c.into_parts-number.ensures.2
    ∙ (λ i. (c.args.pass.at_rest i, c.args.pass.empty_handed i)) in (
      search rules,
      search rules,
      subst
          (λ (m : M). Allows (IsKept H C n start) slots id m 0 (λ k. (k + 1) % 2 ^ 64) (drew (step slots 0 1 0 none) m))
          (sym is) (draws H C n start slots id v [] share refl refl refl),
    )

pub returns : goal.returns
returns g c =
    let H = g.V.Grows.history in let C = g.V.Grows.caller_of in let pass = c.args.pass in
    let k : ℕ = pass.number in let x = c.wait_turn-value.result in
    let M : Type 0 = Me (Option g.row.V.Denot) (View g.row.V-Entry.Denot) in
    let begins : IsPrefix (seen pass) (H x) = search rules in
    let mine : entries_by C k (H x) ≡ own pass = search rules in
    let found_is : (first_share c.wait_turn-value.new.seat.me.0.shares).seen ≡ H x =
    ap (λ (m : M). (first_share m.0.shares).seen) c.wait_turn-value.ensures.served in
    record {
      lock = search rules;
      number = search rules;
      all_found = found_is;
      mine = mine;
      enough = search rules;
      own_before = search rules;
      one_more = search rules;
      known_before = search rules;
      others = subst (IsGrownByOthers C k (seen pass)) (sym found_is)
          (grown_by_others C k (seen pass) (H x) begins (mine ∙ sym pass.mine));
    }
