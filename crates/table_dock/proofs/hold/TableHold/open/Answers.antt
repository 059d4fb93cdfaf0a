use Rattle.std.proofs.Common.{◌≡◌, ◌∙◌, List, [], ◌∷◌, ◌++◌, None, Some, ap, sym, subst, arith}
use Rattle.table_engine.specs.declared.start.HandStart.{HandStart}
use Rattle.table_engine.specs.Hands.{HandTerms}
use Rattle.table_engine.specs.Starts.{IsLawfulStart}
use Rattle.view_rules.specs.declared.entries.TableEntry.{TableEntry}
use Rattle.view_rules.specs.declared.entries.TableEntry.TheVariants as entries
use Rattle.view_rules.specs.Entries.{begun}
use Rattle.dock_rules.specs.Tables.{IsSoundTable, lying_hand}
use Rattle.dock_rules.proofs.Tables.{sound-push}
use Rattle.table_dock.proofs.hold.TableHold.open.Goals as goal

-- What a hand that is opened leaves.
opened : (history old after : List TableEntry) (hand : HandTerms) (start : HandStart) → IsSoundTable history
    → history ≡ old → lying_hand old ≡ None → start ≡ hand.start → IsLawfulStart hand.start → hand.acts ≡ []
    → after ≡ history ++ entries.Opened start ∷ [] → IsSoundTable after × (lying_hand after ≡ Some hand)
opened history old after hand start sound same free copied lawful fresh is =
    let pushed = sound-push history None (entries.Opened start) after sound (ap lying_hand same ∙ free)
    (subst IsLawfulStart (sym copied) lawful) is in
    let whole : begun start ≡ hand = λ i. record { start = copied i; acts = sym fresh i } in
    (pushed.0, pushed.1 ∙ ap (λ (found : HandTerms). Some found) whole)

pub invariant_of-self-2 : goal.invariant_of-self-2
invariant_of-self-2 c =
    let made = opened c.self.inside.entries.items c.args.self.now c.push_reserved.new.self.items c.args.hand
    c.in-Ok.opening c.self.invariant.sound c.self.view_is c.requires.free c.in-Ok.ensures.same
    c.opening_of.ensures.lawful c.requires.fresh
    (c.push_reserved.ensures.items
    ∙ ap (λ (items : List TableEntry). items ++ entries.Opened c.in-Ok.opening ∷ []) c.reserve.ensures.items) in
    record { sound = made.0; told = made.1; room = omega (arith, c.in-Ok-reserve.ensures.ok) }

pub returns-clause-sound : goal.returns-clause-sound
returns-clause-sound c =
    (opened c.self.inside.entries.items c.args.self.now c.push_reserved.new.self.items c.args.hand
    c.in-Ok.opening c.self.invariant.sound c.self.view_is c.requires.free c.in-Ok.ensures.same
    c.opening_of.ensures.lawful c.requires.fresh
    (c.push_reserved.ensures.items
    ∙ ap (λ (items : List TableEntry). items ++ entries.Opened c.in-Ok.opening ∷ []) c.reserve.ensures.items)).0
