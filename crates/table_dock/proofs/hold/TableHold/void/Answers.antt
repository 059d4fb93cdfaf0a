use Rattle.std.proofs.Common.{◌≡◌, ◌∙◌, ◌+◌, ◌≤◌, Some, length, sym, subst, arith}
use Rattle.std.specs.Prelude.{Option, option_to_list, vec_capacity, vec_len}
use Rattle.table_engine.specs.Hands.{HandTerms}
use Rattle.view_rules.specs.declared.entries.TableEntry.TheVariants as entries
use Rattle.dock_rules.proofs.Tables.{sound-push}
use Rattle.table_dock.proofs.hold.TableHold.void.Goals as goal

pub invariant_of-self-2 : goal.invariant_of-self-2
invariant_of-self-2 c =
    let hand = c.in_ok-hand.hand in
    let was : c.self.inside.hand ≡ Some hand = cc in
    let pushed = sound-push c.self.inside.entries.items (Some hand) entries.Closed c.push_reserved.new.self.items
    c.self.invariant.sound (c.self.invariant.told ∙ was) tt c.push_reserved.ensures.items in
    let room : vec_len c.self.inside.entries + 1 ≤ vec_capacity c.self.inside.entries =
    subst
    (λ (found : Option HandTerms). vec_len c.self.inside.entries + length (option_to_list found)
    ≤ vec_capacity c.self.inside.entries) was c.self.invariant.room in
    let within : vec_len c.push_reserved.new.self + 0 ≤ vec_capacity c.push_reserved.new.self = omega arith in
    record {
      sound = pushed.0;
      told = pushed.1 ∙ sym c.take.ensures.after;
      room =
          subst
          (λ (found : Option HandTerms). vec_len c.push_reserved.new.self + length (option_to_list found)
          ≤ vec_capacity c.push_reserved.new.self) (sym c.take.ensures.after) within;
    }

pub returns-clause-sound : goal.returns-clause-sound
returns-clause-sound c =
    let hand = c.in_ok-hand.hand in
    let was : c.self.inside.hand ≡ Some hand = cc in
    (sound-push c.self.inside.entries.items (Some hand) entries.Closed c.push_reserved.new.self.items
    c.self.invariant.sound (c.self.invariant.told ∙ was) tt c.push_reserved.ensures.items).0
