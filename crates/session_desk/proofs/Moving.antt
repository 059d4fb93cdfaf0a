-- What passes did, one thing after another.
use Rattle.std.proofs.Common.{◌∙◌, refl, sym, ap, ℕ, ◌+◌, ◌≤◌, List, [], ◌++◌, append-nil, append_assoc, arith}
use mathlib.Core.List.{IsPrefix}
use Rattle.history_lock.specs.declared.grows.Grows.{Ghosts}
use Rattle.history_lock.specs.declared.pass.Pass.{Pass}
use Rattle.history_lock.specs.Holds.{IsHold}
use Rattle.history_lock.specs.Passes.{IsSameButKnown, own, seen}
use Rattle.history_lock.proofs.Prefixes.{prefix_self, prefix_trans}
use Rattle.session_desk.specs.Moves.{HasMoved}

module _ {Val E : Type 0} {g : Ghosts Val E} where
  -- A pass with which nothing was done.
  pub moved-none : (pass : Pass Val E g) → HasMoved 0 [] pass pass
  moved-none pass = record {
    lock = refl;
    number = refl;
    made = omega arith;
    longer = prefix_self (seen pass);
    own_after = sym (append-nil (own pass));
  }

  -- A pass that learned how many entries there are made no hold.
  pub moved-known : (before after : Pass Val E g) → IsSameButKnown before after → HasMoved 0 [] before after
  moved-known before after same = record {
    lock = same.same_lock;
    number = same.same_number;
    made = let held = same.same_holds in omega (arith, held);
    longer = ([], append-nil (seen before) ∙ sym same.same_seen);
    own_after = same.same_own ∙ sym (append-nil (own before));
  }

  -- What a pass found begins with what it had seen.
  pub hold-later : (before after : Pass Val E g) (at added : List E) → IsHold before after at added
      → IsPrefix (seen before) at
  hold-later before after at added hold = (hold.others.0, sym hold.others.1)

  -- And what it has seen then is that with what it added.
  pub hold-left : (before after : Pass Val E g) (at added : List E) → IsHold before after at added
      → IsPrefix (at ++ added) (seen after)
  hold-left before after at added hold = ([], append-nil (at ++ added) ∙ sym hold.left)

  -- One hold.
  pub moved-hold : (before after : Pass Val E g) (at added : List E) → IsHold before after at added
      → HasMoved 1 added before after
  moved-hold before after at added hold = record {
    lock = hold.lock;
    number = hold.number;
    made = let more = hold.one_more in omega (arith, more);
    longer = prefix_trans (seen before) at (seen after) (hold-later before after at added hold) (added, sym hold.left);
    own_after = hold.own_after;
  }

  -- So many holds at least are fewer, too.
  pub moved-fewer : (fewer least : ℕ) (added : List E) (before after : Pass Val E g) → fewer ≤ least
      → HasMoved least added before after → HasMoved fewer added before after
  moved-fewer fewer least added before after le moved = record {
    lock = moved.lock;
    number = moved.number;
    made = let made = moved.made in omega (arith, made, le);
    longer = moved.longer;
    own_after = moved.own_after;
  }

  -- Some holds, and then others.
  pub moved-both : (least more : ℕ) (first second : List E) (before mid after : Pass Val E g)
      → HasMoved least first before mid → HasMoved more second mid after
      → HasMoved (least + more) (first ++ second) before after
  moved-both least more first second before mid after one two = record {
    lock = two.lock ∙ one.lock;
    number = two.number ∙ one.number;
    made = let a = one.made in let b = two.made in omega (arith, a, b);
    longer = prefix_trans (seen before) (seen mid) (seen after) one.longer two.longer;
    own_after = two.own_after ∙ (ap (λ front. front ++ second) one.own_after ∙ append_assoc (own before) first second);
  }
