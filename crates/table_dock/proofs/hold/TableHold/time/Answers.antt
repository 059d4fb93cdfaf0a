use Rattle.std.proofs.Common.{◌≡◌, ◌∙◌, List, [], ◌∷◌, ◌++◌, ap, arith}
use Rattle.view_rules.specs.declared.entries.TableEntry.{TableEntry}
use Rattle.view_rules.specs.declared.entries.TableEntry.TheVariants as entries
use Rattle.view_rules.specs.Entries.{with_act}
use Rattle.table_dock.proofs.CalledTimes.{made-push}
use Rattle.table_dock.proofs.hold.TableHold.time.Goals as goal

pub invariant_of-self-2 : goal.invariant_of-self-2
invariant_of-self-2 c =
    let after : c.time.new.self ≡ with_act c.in_ok-act.act c.in-Some.hand =
    rw c.in_ok-act.ensures.act c.in_ok-done.ensures.state in
    let made = made-push c.self.inside.entries.items c.in-Some.hand c.time.new.self c.args.caller c.in_ok-act.act
    c.push_reserved.new.self.items
    c.self.invariant.sound (c.self.invariant.told ∙ c.in-Some.is) after c.in_ok-done.ensures.played
    (λ timed. c.in_ok-act.ensures.act)
    (c.push_reserved.ensures.items
    ∙ ap (λ (items : List TableEntry). items ++ entries.Acted c.args.caller c.in_ok-act.act ∷ [])
    c.reserve.ensures.items) in
    record { sound = made.0; told = made.1; room = omega (arith, c.in_ok-reserve.ensures.ok) }

pub returns-clause-sound : goal.returns-clause-sound
returns-clause-sound c =
    let after : c.time.new.self ≡ with_act c.in_ok-act.act c.in-Some.hand =
    rw c.in_ok-act.ensures.act c.in_ok-done.ensures.state in
    (made-push c.self.inside.entries.items c.in-Some.hand c.time.new.self c.args.caller c.in_ok-act.act
    c.push_reserved.new.self.items
    c.self.invariant.sound (c.self.invariant.told ∙ c.in-Some.is) after c.in_ok-done.ensures.played
    (λ timed. c.in_ok-act.ensures.act)
    (c.push_reserved.ensures.items
    ∙ ap (λ (items : List TableEntry). items ++ entries.Acted c.args.caller c.in_ok-act.act ∷ [])
    c.reserve.ensures.items)).0
