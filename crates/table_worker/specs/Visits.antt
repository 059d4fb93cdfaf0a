-- What several holds of a pass do together, of which one at most adds to the history. This project's own.
use Rattle.std.specs.Prelude.{◌≡◌, ◌+◌, ◌≤◌, ℕ, List, ◌++◌}
use Rattle.history_lock.specs.declared.grows.Grows.{Ghosts}
use Rattle.history_lock.specs.declared.pass.Pass.{Pass}
use Rattle.history_lock.specs.Entries.{IsGrownByOthers}
use Rattle.history_lock.specs.Passes.{lock_of, pass_number, seen, own, holds}

module _ {Val E : Type 0} {g : Ghosts Val E} where
  -- A visit: the pass made so many holds at least. The last that counts found this history, to which only others had
  -- added since the pass saw it, and these entries were added to it.
  pub record IsVisit (least : ℕ) (before after : Pass Val E g) (at added : List E) : Type 0 where
    pub lock : lock_of after ≡ lock_of before
    pub number : pass_number after ≡ pass_number before
    pub made : holds before + least ≤ holds after
    pub others : IsGrownByOthers g.caller_of (pass_number before) (seen before) at
    pub left : seen after ≡ at ++ added
    pub own_after : own after ≡ own before ++ added

  -- What a call did stands at a history: it made a visit of the pass, found that history and added these entries to it,
  -- and of the two this holds.
  pub record Visits (least : ℕ) (before after : Pass Val E g) (Is : List E → List E → Type 0) : Type 0 where
    pub at : List E
    pub added : List E
    pub visit : IsVisit least before after at added
    pub is : Is at added
