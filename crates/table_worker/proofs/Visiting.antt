-- Holds of a pass, one after another.
use Rattle.std.proofs.Common.{◌∙◌, refl, sym, ap, subst, ℕ, ◌+◌, ◌≤◌, List, [], ◌++◌, append-nil, append_assoc, arith}
use Rattle.std.specs.Prelude.{◌==◌}
use Rattle.std.proofs.lemmas.List.Elements.{filter-append}
use mathlib.Core.List.{IsPrefix}
use Rattle.history_lock.specs.declared.grows.Grows.{Ghosts}
use Rattle.history_lock.specs.declared.pass.Pass.{Pass}
use Rattle.history_lock.specs.Entries.{IsGrownByOthers}
use Rattle.history_lock.specs.Holds.{IsHold}
use Rattle.history_lock.specs.Passes.{pass_number, own, seen}
use Rattle.table_worker.specs.Visits.{IsVisit}

-- Others added, and then others again.
grown-twice : {E : Type 0} (caller_of : E → ℕ) (k : ℕ) (first second third : List E)
    → IsGrownByOthers caller_of k first second → IsGrownByOthers caller_of k second third
    → IsGrownByOthers caller_of k first third
grown-twice caller_of k first second third one two = (
  one.0 ++ two.0,
  two.1 ∙ (ap (λ front. front ++ two.0) one.1 ∙ append_assoc first one.0 two.0),
  filter-append (λ e. caller_of e == k) one.0 two.0 ∙ (λ i. one.2 i ++ two.2 i),
)

module _ {Val E : Type 0} {g : Ghosts Val E} where
  -- One hold is a visit.
  pub visit-hold : (before after : Pass Val E g) (at added : List E) → IsHold before after at added
      → IsVisit 1 before after at added
  visit-hold before after at added hold = record {
    lock = hold.lock;
    number = hold.number;
    made = let more = hold.one_more in omega (arith, more);
    others = hold.others;
    left = hold.left;
    own_after = hold.own_after;
  }

  -- A pass that made no hold has seen what it had seen.
  pub visit-none : (pass : Pass Val E g) → IsVisit 0 pass pass (seen pass) []
  visit-none pass = record {
    lock = refl;
    number = refl;
    made = omega arith;
    others = ([], sym (append-nil (seen pass)), refl);
    left = sym (append-nil (seen pass));
    own_after = sym (append-nil (own pass));
  }

  -- A hold that adds nothing, and then a visit, are a visit with a hold more.
  pub visit-after : (least : ℕ) (before mid after : Pass Val E g) (at then_ added : List E) → IsHold before mid at []
      → IsVisit least mid after then_ added → IsVisit (least + 1) before after then_ added
  visit-after least before mid after at then_ added hold visit = record {
    lock = visit.lock ∙ hold.lock;
    number = visit.number ∙ hold.number;
    made = let more = hold.one_more in let later = visit.made in omega (arith, more, later);
    others = grown-twice g.caller_of (pass_number before) (seen before) (seen mid) then_
        (subst (IsGrownByOthers g.caller_of (pass_number before) (seen before)) (sym (hold.idle refl).0) hold.others)
        (subst (λ (number : ℕ). IsGrownByOthers g.caller_of number (seen mid) then_) hold.number visit.others);
    left = visit.left;
    own_after = visit.own_after ∙ ap (λ (mine : List E). mine ++ added) (hold.idle refl).1;
  }

  -- What a pass had seen begins what it has seen after a hold that adds nothing.
  pub seen-longer : (before after : Pass Val E g) (at : List E) → IsHold before after at []
      → IsPrefix (seen before) (seen after)
  seen-longer before after at hold =
      subst (IsPrefix (seen before)) (sym (hold.idle refl).0) (hold.others.0, sym hold.others.1)

  -- A visit with so many holds at least is one with fewer at least.
  pub visit-fewer : (fewer least : ℕ) (before after : Pass Val E g) (at added : List E) → fewer ≤ least
      → IsVisit least before after at added → IsVisit fewer before after at added
  visit-fewer fewer least before after at added fits visit = record {
    lock = visit.lock;
    number = visit.number;
    made = let more = visit.made in omega (arith, more, fits);
    others = visit.others;
    left = visit.left;
    own_after = visit.own_after;
  }
