-- What a call that makes one hold of a pass does to it.
use Rattle.std.specs.Prelude.{◌≡◌, ◌+◌, ◌≤◌, List, [], ◌++◌, length}
use Rattle.history_lock.specs.declared.grows.Grows.{Ghosts}
use Rattle.history_lock.specs.declared.pass.Pass.{Pass}
use Rattle.history_lock.specs.declared.inside.Inside.{Inside}
use Rattle.history_lock.specs.Entries.{entries_by, IsGrownByOthers}
use Rattle.history_lock.specs.Passes.{lock_of, pass_number, seen, own, holds, known, value_of, found, inside_lock, inside_number, inside_own, inside_holds, inside_known}

module _ {Val E : Type 0} {g : Ghosts Val E} where
  -- The pass was let in, and found the value.
  pub record IsEntered (before : Pass Val E g) (inside : Inside Val E g) : Type 0 where
    pub lock : inside_lock inside ≡ lock_of before
    pub number : inside_number inside ≡ pass_number before
    -- what it found is the history of the value
    pub all_found : found inside ≡ g.history (value_of inside)
    -- that begins with all that the pass has seen, to which only others have added
    pub others : IsGrownByOthers g.caller_of (pass_number before) (seen before) (found inside)
    -- its entries of this caller are just the pass's own, in order
    pub mine : entries_by g.caller_of (pass_number before) (g.history (value_of inside)) ≡ own before
    -- and it has at least as many as the pass knows of
    pub enough : known before ≤ length (g.history (value_of inside))
    pub own_before : inside_own inside ≡ own before
    pub one_more : inside_holds inside ≡ holds before + 1
    pub known_before : inside_known inside ≡ known before

  -- The pass came out.
  pub record IsLeft (inside : Inside Val E g) (after : Pass Val E g) : Type 0 where
    pub lock : lock_of after ≡ inside_lock inside
    pub number : pass_number after ≡ inside_number inside
    -- it has seen the history that it left
    pub all_seen : seen after ≡ g.history (value_of inside)
    -- its own list is longer by what was added
    pub own_after : (added : List E) → g.history (value_of inside) ≡ found inside ++ added
        → own after ≡ inside_own inside ++ added
    -- and is as it was where nothing was
    pub idle : g.history (value_of inside) ≡ found inside → own after ≡ inside_own inside
    pub same_holds : holds after ≡ inside_holds inside
    pub same_known : known after ≡ inside_known inside

  -- One hold: the pass found this history, to which only others had added since its last hold, and added these entries
  -- to it.
  pub record IsHold (before after : Pass Val E g) (at : List E) (added : List E) : Type 0 where
    pub lock : lock_of after ≡ lock_of before
    pub number : pass_number after ≡ pass_number before
    pub one_more : holds after ≡ holds before + 1
    pub same_known : known after ≡ known before
    pub others : IsGrownByOthers g.caller_of (pass_number before) (seen before) at
    pub left : seen after ≡ at ++ added
    pub own_after : own after ≡ own before ++ added
    -- where nothing was added, all that it found is as it was, and so are its own entries
    pub idle : added ≡ [] → (seen after ≡ at) × (own after ≡ own before)

  -- What a call did stands at a history: the call made one hold of the pass, found that history and added these entries
  -- to it, and of the two this holds.
  pub record Stands (before after : Pass Val E g) (Is : List E → List E → Type 0) : Type 0 where
    pub at : List E
    pub added : List E
    pub hold : IsHold before after at added
    pub is : Is at added
