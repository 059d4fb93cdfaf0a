-- How a call of a dock stands at the history that its pass found.
use Rattle.std.proofs.Common.{◌≡◌, ◌∙◌, sym, ap, subst, List, [], ◌++◌, arith}
use Rattle.std.proofs.lemmas.List.{append-nil}
use Rattle.history_lock.specs.declared.grows.Grows.{Ghosts}
use Rattle.history_lock.specs.declared.pass.Pass.{Pass}
use Rattle.history_lock.specs.declared.inside.Inside.{Inside}
use Rattle.history_lock.specs.declared.inside.Turn.{Turn}
use Rattle.history_lock.specs.Entries.{IsGrownBy, IsGrownByOthers}
use Rattle.history_lock.specs.Holds.{IsEntered, IsLeft, Stands}
use Rattle.history_lock.specs.Passes.{found, inside_number, pass_number, seen, value_of}

-- A value that was only looked at has grown by nothing.
pub grown-by_none : {Val E : Type 0} {g : Ghosts Val E} (before : Pass Val E g) (inside : Inside Val E g)
    → IsEntered before inside
    → IsGrownBy g.caller_of (inside_number inside) (found inside) (g.history (value_of inside))
grown-by_none {g = g} before inside came = (
  [],
  sym came.all_found ∙ sym (append-nil (found inside)),
  λ k d within. absurd (omega (arith, within)),
)

-- One way in, a change of the value that adds to its history, and one way out are a hold.
pub stands : {Val E : Type 0} {g : Ghosts Val E} (before after : Pass Val E g) (turn : Turn Val E g) (old new : Val)
    → IsEntered before (record { value = old; turn = turn }) → IsLeft (record { value = new; turn = turn }) after
    → (added : List E) (Is : List E → List E → Type 0) → g.history new ≡ g.history old ++ added
    → Is (g.history old) added → Stands before after Is
stands {E = E} {g = g} before after turn old new came went added Is grown is = record {
  at = g.history old;
  added = added;
  hold = record {
    lock = went.lock ∙ came.lock;
    number = went.number ∙ came.number;
    one_more = went.same_holds ∙ came.one_more;
    same_known = went.same_known ∙ came.known_before;
    others = subst (λ (at : List E). IsGrownByOthers g.caller_of (pass_number before) (seen before) at) came.all_found
        came.others;
    left = went.all_seen ∙ grown;
    own_after = went.own_after added (grown ∙ ap (λ (at : List E). at ++ added) (sym came.all_found))
        ∙ ap (λ (own_ : List E). own_ ++ added) came.own_before;
    idle = λ none.
        let same = grown ∙ (ap (λ (more : List E). g.history old ++ more) none ∙ append-nil (g.history old)) in
        (went.all_seen ∙ same, went.idle (same ∙ sym came.all_found) ∙ came.own_before);
  };
  is = is;
}
