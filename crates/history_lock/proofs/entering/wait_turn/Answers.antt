use Rattle.std.proofs.Common.{rules, ◌≡◌, ◌∷◌, ℕ, [], refl, sym, ap, ◌∙◌, subst, Option, Some, None, IsSome}
use mathlib.Core.Option.{none}
use Rattle.atomic_table.specs.Table.{Me, step, rest, Allows}
use Rattle.history_lock.specs.declared.view.View.{View}
use Rattle.history_lock.specs.Views.{ticketed_view, first_share}
use Rattle.history_lock.specs.Rule.{IsKept}
use Rattle.history_lock.specs.Steps.{IsFound, looked, served_view}
use Rattle.history_lock.proofs.Moves.{looks}
use Rattle.history_lock.proofs.Turns.{look_hit, look_miss, waits, turn_taken}
use Rattle.history_lock.proofs.entering.wait_turn.Goals as goal

pub load-requires : goal.load-requires
load-requires g c =
    let H = g.V.Grows.history in let C = g.V.Grows.caller_of in let n : ℕ = c.args.steps.now.key.passes in
    let start = H c.args.steps.now.key.opening.value in
    let slots : ℕ = c.args.steps.now.table_id.slots in let id : ℕ = c.loop.seat.id in
    let M : Type 0 = Me (Option g.row.V.Denot) (View g.row.V-Entry.Denot) in
    let before : M = c.args.seat.now.me in
    let v : View g.row.V-Entry.Denot = ticketed_view c.args.ticket before.0 in
    let is : c.loop.seat.me ≡ (v, []) = c.loop.invariant.2 ∙ (λ i. (c.requires.ready.0 i, c.requires.ready.1 i)) in (
      search rules,
      search rules,
      subst
          (λ (m : M). Allows (IsKept H C n start) slots id m 1 (λ k. k) (looked H C (step slots 1 0 0 none) m)) (sym is)
          (looks H C n start slots id v (first_share before.0.shares) c.args.ticket refl refl refl),
    )

pub exchange-requires : goal.exchange-requires
exchange-requires g c =
    let hit = look_hit g.V.Grows.history g.V.Grows.caller_of
    (step c.args.steps.now.table_id.slots 1 0 0 none) c.args.ticket c.load.result c.loop.seat.me c.load.new.seat.me
    (waits c.args.ticket c.args.seat.now.me c.loop.seat.me c.requires.ready.0 c.requires.ready.1 c.loop.invariant.2)
    c.load.ensures.2 c.if-load-ticket.true in
    let slot : c.load.new.seat.me.1 ≡ (0, Some hit.0) ∷ [] =
    ap (λ (m : Me (Option g.row.V.Denot) (View g.row.V-Entry.Denot)). m.1) hit.1.0 in
    (search rules, (Some hit.0, slot ∙ ap (λ cs. (0, Some hit.0) ∷ rest cs) (sym slot)))

pub unwrap-requires : goal.unwrap-requires
unwrap-requires g c =
    let t = turn_taken g.V.Grows.history g.V.Grows.caller_of
    (step c.args.steps.now.table_id.slots 1 0 0 none) c.args.ticket c.load.result c.args.seat.now.me
    c.loop.seat.me c.load.new.seat.me c.exchange.new.seat.me
    c.exchange.result c.requires.ready.0 c.requires.ready.1 c.loop.invariant.2 c.load.ensures.2 c.if-load-ticket.true
    c.exchange.ensures.2 c.exchange.ensures.3 in
    subst IsSome (sym t.1) refl

pub returns-then-load-ticket-clause-served : goal.returns-then-load-ticket-clause-served
returns-then-load-ticket-clause-served g c =
    let t = turn_taken g.V.Grows.history g.V.Grows.caller_of
    (step c.args.steps.now.table_id.slots 1 0 0 none) c.args.ticket c.load.result c.args.seat.now.me
    c.loop.seat.me c.load.new.seat.me c.exchange.new.seat.me
    c.exchange.result c.requires.ready.0 c.requires.ready.1 c.loop.invariant.2 c.load.ensures.2 c.if-load-ticket.true
    c.exchange.ensures.2 c.exchange.ensures.3 in
    let same : t.0 ≡ c.unwrap.result = let e = sym t.1 ∙ c.unwrap.ensures in cc in
    t.2 ∙ ap (λ x. let z : Me (Option g.row.V.Denot) (View g.row.V-Entry.Denot) = (
      served_view c.args.seat.now.me.0 (first_share c.args.seat.now.me.0.shares) (g.V.Grows.history x),
      (0, None) ∷ [],
    ) in z) same

pub returns-then-load-ticket-clause-found : goal.returns-then-load-ticket-clause-found
returns-then-load-ticket-clause-found g c =
    let t = turn_taken g.V.Grows.history g.V.Grows.caller_of
    (step c.args.steps.now.table_id.slots 1 0 0 none) c.args.ticket c.load.result c.args.seat.now.me
    c.loop.seat.me c.load.new.seat.me c.exchange.new.seat.me
    c.exchange.result c.requires.ready.0 c.requires.ready.1 c.loop.invariant.2 c.load.ensures.2 c.if-load-ticket.true
    c.exchange.ensures.2 c.exchange.ensures.3 in
    let same : t.0 ≡ c.unwrap.result = let e = sym t.1 ∙ c.unwrap.ensures in cc in
    subst (IsFound g.V.Grows.history g.V.Grows.caller_of
    (first_share c.args.seat.now.me.0.shares) c.args.seat.now.me.0.known) same t.3

pub loop-preserved : goal.loop-preserved
loop-preserved g c =
    let same = look_miss g.V.Grows.history g.V.Grows.caller_of
    (step c.args.steps.now.table_id.slots 1 0 0 none) c.args.ticket c.load.result c.loop.seat.me c.load.new.seat.me
    (waits c.args.ticket c.args.seat.now.me c.loop.seat.me c.requires.ready.0 c.requires.ready.1 c.loop.invariant.2)
    c.load.ensures.2 c.if-load-ticket.false in
    (search rules, search rules, same ∙ c.loop.invariant.2)
