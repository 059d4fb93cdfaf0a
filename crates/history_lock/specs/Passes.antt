-- What a contract sees of a pass, of a pass that is inside, and of a lock.
use Rattle.std.specs.Prelude.{◌≡◌, ℕ, List, [], slice_get, Some}
use Rattle.atomic_table.specs.Seated.{TableId}
use Rattle.history_lock.specs.declared.grows.Grows.{Ghosts}
use Rattle.history_lock.specs.declared.pass.Pass.{Pass}
use Rattle.history_lock.specs.declared.inside.Inside.{Inside}
use Rattle.history_lock.specs.declared.lock.HistoryLock.{HistoryLock}
use Rattle.history_lock.specs.declared.view.Share.{Share}
use Rattle.history_lock.specs.Views.{first_share}

-- The name of a lock: that of its table.
abbrev pub LockId : Type 0
LockId = TableId

module _ {Val E : Type 0} where
  -- Which lock it is.
  abbrev pub lock_id : HistoryLock Val E → LockId
  lock_id lock = lock.table.shared.table_id

  -- How many passes the lock was made with.
  abbrev pub pass_count : HistoryLock Val E → ℕ
  pass_count lock = lock.passes

  -- The value as the lock was made round it.
  abbrev pub opening_value : HistoryLock Val E → Val
  opening_value lock = lock.table.shared.key.opening.value

module _ {Val E : Type 0} {g : Ghosts Val E} where
  -- The lock whose pass it is.
  abbrev pub lock_of : Pass Val E g → LockId
  lock_of pass = pass.seat.table_id

  -- The number of the pass.
  abbrev pub pass_number : Pass Val E g → ℕ
  pass_number pass = pass.number

  -- The history that the pass has seen.
  abbrev pub seen : Pass Val E g → List E
  seen pass = (first_share pass.seat.me.0.shares).seen

  -- The entries that the pass made, in order.
  abbrev pub own : Pass Val E g → List E
  own pass = (first_share pass.seat.me.0.shares).own

  -- How often the pass has entered.
  abbrev pub holds : Pass Val E g → ℕ
  holds pass = pass.seat.me.0.holds

  -- The last count that `news` or `await_news` loaded for the pass.
  abbrev pub known : Pass Val E g → ℕ
  known pass = pass.known

  -- The value inside.
  abbrev pub value_of : Inside Val E g → Val
  value_of inside = inside.value

  -- The lock that it is inside of.
  abbrev pub inside_lock : Inside Val E g → LockId
  inside_lock inside = inside.turn.seat.table_id

  -- The number of the pass that is inside.
  abbrev pub inside_number : Inside Val E g → ℕ
  inside_number inside = inside.turn.number

  -- The history of the value as the pass found it.
  abbrev pub found : Inside Val E g → List E
  found inside = (first_share inside.turn.seat.me.0.shares).seen

  -- The entries that the pass made before it entered, in order.
  abbrev pub inside_own : Inside Val E g → List E
  inside_own inside = (first_share inside.turn.seat.me.0.shares).own

  -- How often the pass has entered, this time included.
  abbrev pub inside_holds : Inside Val E g → ℕ
  inside_holds inside = inside.turn.seat.me.0.holds

  -- The last count that was loaded for the pass.
  abbrev pub inside_known : Inside Val E g → ℕ
  inside_known inside = inside.turn.known

  -- What stands of a pass in the rule.
  abbrev pub share_of : Pass Val E g → Share E
  share_of pass = record { number = pass.number; seen = seen pass; own = own pass }

  -- The pass is unchanged but for what it knows.
  pub record IsSameButKnown (before after : Pass Val E g) : Type 0 where
    pub same_lock : lock_of after ≡ lock_of before
    pub same_number : pass_number after ≡ pass_number before
    pub same_seen : seen after ≡ seen before
    pub same_own : own after ≡ own before
    pub same_holds : holds after ≡ holds before

  -- A pass of this lock with this number, which has seen this history and has done nothing.
  pub record IsFresh (lock : LockId) (number : ℕ) (history : List E) (pass : Pass Val E g) : Type 0 where
    pub its_lock : lock_of pass ≡ lock
    pub its_number : pass_number pass ≡ number
    pub all_seen : seen pass ≡ history
    pub none_own : own pass ≡ []
    pub no_hold : holds pass ≡ 0
    pub none_known : known pass ≡ 0

  -- The passes have the numbers from 0 on, in order, and are fresh.
  abbrev pub AreFresh : LockId → List E → List (Pass Val E g) → Type 0
  AreFresh lock history passes =
      (k : ℕ) (pass : Pass Val E g) → slice_get passes k ≡ Some pass → IsFresh lock k history pass
