use Rattle.std.proofs.Common.{◌≡◌, ◌∷◌, ℕ, List, refl, sym, ap, ◌∙◌, subst, arith, Option, All}
use Rattle.atomic_table.specs.Table.{opening}
use Rattle.atomic_table.specs.Seated.{TableId}
use Rattle.history_lock.specs.Limits.{opener}
use Rattle.history_lock.specs.Passes.{AreFresh}
use Rattle.history_lock.specs.Rule.{IsKept}
use Rattle.history_lock.specs.Views.{first_share, opening_view}
use Rattle.history_lock.proofs.Lists.{each_of_all, no_rings}
use Rattle.history_lock.proofs.Seats.{opens}
use Rattle.history_lock.proofs.Dealing.{opening_seen}
use Rattle.history_lock.proofs.making.make.Goals as goal

pub new-requires : goal.new-requires
new-requires g c =
    let H = g.V.Grows.history in let C = g.V.Grows.caller_of in let count : ℕ = c.count-count.result in
    let slots = c.in-Ok-one_slot.ensures.ok in let told = c.of.ensures in
    let start = opens H C c.args.n (H c.args.value) count c.args.value c.requires.passes.0 c.requires.passes.1 refl
    c.count-count.ensures (omega arith) (each_of_all (λ e. C e ≡ opener) (H c.args.value) c.requires.opener) in
    subst (λ (t : List (Option g.row.V.Denot) × g.row.V.Denot). IsKept H C c.args.n (H t.1)
    (opening (0 ∷ 0 ∷ count ∷ no_rings) t.0 (opening_view c.args.n (H t.1)))) (λ i. (sym slots i, sym told i)) start

pub deal-passes-requires-clause-all : goal.deal-passes-requires-clause-all
deal-passes-requires-clause-all g c =
    let H = g.V.Grows.history in
    let first = c.in-Ok-new.ensures.ok.4 in
    let seen : (first_share c.in-Ok-new.seat.me.0.shares).seen ≡ H c.of.result.value =
    ap (λ m. (first_share m.0.shares).seen) first
    ∙ opening_seen c.args.n (H c.of.result.value) c.requires.passes.0 in
    (ap (λ m. m.0) first ∙ ap (opening_view c.args.n) (sym seen), ap (λ m. m.1) first, c.requires.passes.0)

pub returns-in-Ok-new-clause-fresh : goal.returns-in-Ok-new-clause-fresh
returns-in-Ok-new-clause-fresh g c =
    let H = g.V.Grows.history in
    let first = c.in-Ok-new.ensures.ok.4 in
    let seen : (first_share c.in-Ok-new.seat.me.0.shares).seen ≡ H c.args.value =
    ap (λ m. (first_share m.0.shares).seen) first
    ∙ (opening_seen c.args.n (H c.of.result.value) c.requires.passes.0 ∙ ap H c.of.ensures) in
    subst (λ (t : TableId × List g.row.V-Entry.Denot). AreFresh t.0 t.1 c.deal-passes.result.items)
    (λ i. (c.in-Ok-new.ensures.ok.2 i, seen i)) c.deal-passes.ensures.fresh

pub deal-passes-requires-clause-opener : goal.deal-passes-requires-clause-opener
deal-passes-requires-clause-opener g c =
    let H = g.V.Grows.history in
    let first = c.in-Ok-new.ensures.ok.4 in
    let seen : (first_share c.in-Ok-new.seat.me.0.shares).seen ≡ H c.args.value =
    ap (λ m. (first_share m.0.shares).seen) first
    ∙ (opening_seen c.args.n (H c.of.result.value) c.requires.passes.0 ∙ ap H c.of.ensures) in
    (c.requires.passes.1, subst (All (λ e. g.V.Grows.caller_of e ≡ opener)) (sym seen) c.requires.opener)
