use Rattle.std.proofs.Common.{◌∙◌, false, List, [], ◌∷◌, ◌++◌, ap, arith}
use Rattle.table_engine.specs.declared.record.ActOf.{ActOf}
use Rattle.view_rules.specs.declared.entries.TableEntry.{TableEntry}
use Rattle.view_rules.specs.declared.entries.TableEntry.TheVariants as entries
use Rattle.table_dock.proofs.CalledTimes.{made-push}
use Rattle.table_dock.proofs.hold.TableHold.act.Goals as goal

pub invariant_of-self-2 : goal.invariant_of-self-2
invariant_of-self-2 c =
    let act : ActOf = record { name = c.args.name; act = c.args.act; by_time = false } in
    let made = made-push c.self.inside.entries.items c.in-Some.hand c.act.new.self c.args.caller act
    c.push_reserved.new.self.items
    c.self.invariant.sound (c.self.invariant.told ∙ c.in-Some.is) c.in_ok-done.ensures.state c.in_ok-done.ensures.played
    (λ timed. absurd cc)
    (c.push_reserved.ensures.items
    ∙ ap (λ (items : List TableEntry). items ++ entries.Acted c.args.caller act ∷ []) c.reserve.ensures.items) in
    record { sound = made.0; told = made.1; room = omega (arith, c.in_ok-reserve.ensures.ok) }

pub returns-clause-sound : goal.returns-clause-sound
returns-clause-sound c =
    let act : ActOf = record { name = c.args.name; act = c.args.act; by_time = false } in
    (made-push c.self.inside.entries.items c.in-Some.hand c.act.new.self c.args.caller act
    c.push_reserved.new.self.items
    c.self.invariant.sound (c.self.invariant.told ∙ c.in-Some.is) c.in_ok-done.ensures.state c.in_ok-done.ensures.played
    (λ timed. absurd cc)
    (c.push_reserved.ensures.items
    ∙ ap (λ (items : List TableEntry). items ++ entries.Acted c.args.caller act ∷ []) c.reserve.ensures.items)).0
