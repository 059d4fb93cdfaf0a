use Rattle.std.proofs.Common.{◌≤◌, ℕ, length, refl, sym, ◌∙◌, subst, arith, IsSome}
use Rattle.std.specs.Slots.{slots_items}
use Rattle.history_lock.specs.Entries.{IsGrownByPasses}
use Rattle.history_lock.proofs.Ending.{comes_out, fits_value}
use Rattle.history_lock.proofs.lock.HistoryLock.close.Goals as goal

pub unwrap-value-requires : goal.unwrap-value-requires
unwrap-value-requires g c =
    let H = g.V.Grows.history in let C = g.V.Grows.caller_of in let n : ℕ = c.args.self.table.shared.key.passes in
    let start = H c.args.self.table.shared.key.opening.value in
    let enough : n ≤ length c.args.passes.items =
    omega (arith, c.args.self.counted, c.if-len-self.false, c.len.ensures, c.args.passes.ok.0) in
    let out = comes_out H C n start c.args.passes.items c.take_in-seat.result.id c.take_in-seat.result.me.0
    (slots_items c.close_with-closed.result.words) (slots_items c.close_with-closed.result.slots) c.take.result
    c.take_in-seat.ensures.shares c.take_in-seat.ensures.at_rest.1
    enough c.close_with-closed.ensures.values.2 c.take.ensures.value in
    subst IsSome (sym out.1) refl

pub returns-clause-seen : goal.returns-clause-seen
returns-clause-seen g c =
    let H = g.V.Grows.history in let C = g.V.Grows.caller_of in let n : ℕ = c.args.self.table.shared.key.passes in
    let start = H c.args.self.table.shared.key.opening.value in
    let enough : n ≤ length c.args.passes.items =
    omega (arith, c.args.self.counted, c.if-len-self.false, c.len.ensures, c.args.passes.ok.0) in
    let out = comes_out H C n start c.args.passes.items c.take_in-seat.result.id c.take_in-seat.result.me.0
    (slots_items c.close_with-closed.result.words) (slots_items c.close_with-closed.result.slots) c.take.result
    c.take_in-seat.ensures.shares c.take_in-seat.ensures.at_rest.1
    enough c.close_with-closed.ensures.values.2 c.take.ensures.value in
    let fit = fits_value H C n start c.args.passes.items out.0 c.unwrap-value.result (sym out.1
    ∙ c.unwrap-value.ensures) out.2 in
    fit.begins

pub returns-clause-own : goal.returns-clause-own
returns-clause-own g c =
    let H = g.V.Grows.history in let C = g.V.Grows.caller_of in let n : ℕ = c.args.self.table.shared.key.passes in
    let start = H c.args.self.table.shared.key.opening.value in
    let enough : n ≤ length c.args.passes.items =
    omega (arith, c.args.self.counted, c.if-len-self.false, c.len.ensures, c.args.passes.ok.0) in
    let out = comes_out H C n start c.args.passes.items c.take_in-seat.result.id c.take_in-seat.result.me.0
    (slots_items c.close_with-closed.result.words) (slots_items c.close_with-closed.result.slots) c.take.result
    c.take_in-seat.ensures.shares c.take_in-seat.ensures.at_rest.1
    enough c.close_with-closed.ensures.values.2 c.take.ensures.value in
    let fit = fits_value H C n start c.args.passes.items out.0 c.unwrap-value.result (sym out.1
    ∙ c.unwrap-value.ensures) out.2 in
    fit.own_is

pub returns-clause-numbers : goal.returns-clause-numbers
returns-clause-numbers g c =
    let H = g.V.Grows.history in let C = g.V.Grows.caller_of in let n : ℕ = c.args.self.table.shared.key.passes in
    let start = H c.args.self.table.shared.key.opening.value in
    let enough : n ≤ length c.args.passes.items =
    omega (arith, c.args.self.counted, c.if-len-self.false, c.len.ensures, c.args.passes.ok.0) in
    let out = comes_out H C n start c.args.passes.items c.take_in-seat.result.id c.take_in-seat.result.me.0
    (slots_items c.close_with-closed.result.words) (slots_items c.close_with-closed.result.slots) c.take.result
    c.take_in-seat.ensures.shares c.take_in-seat.ensures.at_rest.1
    enough c.close_with-closed.ensures.values.2 c.take.ensures.value in
    λ k below. let same = c.args.self.counted in out.2.numbers k (omega arith)

pub returns-clause-grown : goal.returns-clause-grown
returns-clause-grown g c =
    let H = g.V.Grows.history in let C = g.V.Grows.caller_of in let n : ℕ = c.args.self.table.shared.key.passes in
    let start = H c.args.self.table.shared.key.opening.value in
    let enough : n ≤ length c.args.passes.items =
    omega (arith, c.args.self.counted, c.if-len-self.false, c.len.ensures, c.args.passes.ok.0) in
    let out = comes_out H C n start c.args.passes.items c.take_in-seat.result.id c.take_in-seat.result.me.0
    (slots_items c.close_with-closed.result.words) (slots_items c.close_with-closed.result.slots) c.take.result
    c.take_in-seat.ensures.shares c.take_in-seat.ensures.at_rest.1
    enough c.close_with-closed.ensures.values.2 c.take.ensures.value in
    let fit = fits_value H C n start c.args.passes.items out.0 c.unwrap-value.result (sym out.1
    ∙ c.unwrap-value.ensures) out.2 in
    subst (λ k. IsGrownByPasses C k start (H c.unwrap-value.result)) c.args.self.counted fit.grown
