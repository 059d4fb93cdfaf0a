-- What several holds of a pass did. This project's own.
use Rattle.std.specs.Prelude.{◌≡◌, ◌+◌, ◌≤◌, ℕ, List, ◌++◌}
use mathlib.Core.List.{IsPrefix}
use Rattle.history_lock.specs.declared.grows.Grows.{Ghosts}
use Rattle.history_lock.specs.declared.pass.Pass.{Pass}
use Rattle.history_lock.specs.Passes.{lock_of, pass_number, seen, own, holds}

module _ {Val E : Type 0} {g : Ghosts Val E} where
  -- A pass made so many holds at least, has seen a history that begins with what it had seen, and made these entries.
  pub record HasMoved (least : ℕ) (added : List E) (before after : Pass Val E g) : Type 0 where
    pub lock : lock_of after ≡ lock_of before
    pub number : pass_number after ≡ pass_number before
    pub made : holds before + least ≤ holds after
    pub longer : IsPrefix (seen before) (seen after)
    pub own_after : own after ≡ own before ++ added
