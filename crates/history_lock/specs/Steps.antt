-- What each kind of step tells the one who makes it: the view and the slot in hand before, the number found, and the
-- two after.
use Rattle.std.specs.Prelude.{◌≡◌, ◌==◌, ◌+◌, ◌++◌, ℕ, ◌≤◌, true, false, List, [], ◌∷◌, length, drop, Option, Some, None, MatchBool}
use mathlib.Core.List.{IsPrefix}
use Rattle.atomic_table.specs.Table.{Step, Me, rest}
use Rattle.history_lock.specs.declared.view.Share.{Share}
use Rattle.history_lock.specs.declared.view.View.{View}
use Rattle.history_lock.specs.Entries.{entries_by}
use Rattle.history_lock.specs.Views.{Each, spent_view}

module _ {E : Type 0} where
  -- The view of a pass that is served, and has seen the history of the value that it found.
  abbrev pub served_view : View E → Share E → List E → View E
  served_view v share seen = record v { shares = record share { seen = seen } ∷ []; served = true }

  -- The share of a pass that leaves this history: it has seen it, and what was added is its own.
  abbrev pub share_left : Share E → List E → Share E
  share_left share left = record share { seen = left; own = share.own ++ drop (length share.seen) left }

module _ {Val E : Type 0} where
  -- Draw ticket: the ticket is the number found, and the pass has one hold more.
  abbrev pub drew : Step (Option Val) → Me (Option Val) (View E) → ℕ → Me (Option Val) (View E) → Type 0
  drew step before found after = after ≡ (record before.0 { ticket = Some found; holds = before.0.holds + 1 }, before.1)

  -- The value x is found: its history begins with what the share has seen, has of its number just its own entries, and
  -- has at least `known` entries.
  pub record IsFound (history : Val → List E) (caller_of : E → ℕ) (share : Share E) (least : ℕ) (x : Val) : Type 0 where
    pub seen : IsPrefix share.seen (history x)
    pub own : entries_by caller_of share.number (history x) ≡ share.own
    pub known : least ≤ length (history x)

  -- Load serving: where the ticket is served, the seat has the slot with the value that it finds there. Else nothing
  -- changes.
  abbrev pub looked : (Val → List E) → (E → ℕ) → Step (Option Val) → Me (Option Val) (View E) → ℕ
      → Me (Option Val) (View E) → Type 0
  looked history caller_of step before found after =
      (ticket : ℕ) (share : Share E) → before.0.ticket ≡ Some ticket → before.0.shares ≡ share ∷ []
      → MatchBool (found == ticket)
      ((x : Val) × (after ≡ (served_view before.0 share (history x), (0, Some x) ∷ before.1))
      × IsFound history caller_of share before.0.known x)
      (after ≡ before)

  -- Publish count: while the slot is out and empty, the seen list and the own list grow to the history that is to be
  -- left.
  abbrev pub published : List E → Step (Option Val) → Me (Option Val) (View E) → ℕ → Me (Option Val) (View E) → Type 0
  published left step before stored after =
      (before.1 ≡ (0, None) ∷ []) × ((share : Share E) → before.0.shares ≡ share ∷ []
      → after ≡ (record before.0 { shares = share_left share left ∷ [] }, before.1))

  -- Pass on: the ticket is spent, and the slot comes home.
  abbrev pub passed_on : Step (Option Val) → Me (Option Val) (View E) → ℕ → Me (Option Val) (View E) → Type 0
  passed_on step before found after = after ≡ (record before.0 { ticket = None; served = false }, rest before.1)

  -- Load count: the count found is what is known from now on. It is not below what was known, nor below the length of
  -- what was seen.
  abbrev pub counted : Step (Option Val) → Me (Option Val) (View E) → ℕ → Me (Option Val) (View E) → Type 0
  counted step before found after =
      (after ≡ (record before.0 { known = found }, before.1)) × (before.0.known ≤ found)
      × Each (λ (x : Share E). length x.seen ≤ found) before.0.shares

  -- Ring a bell: nothing changes.
  abbrev pub rang : Step (Option Val) → Me (Option Val) (View E) → ℕ → Me (Option Val) (View E) → Type 0
  rang step before found after = after ≡ before

  -- A new seat has a view with no share.
  abbrev pub arrived : Step (Option Val) → Me (Option Val) (View E) → ℕ → Me (Option Val) (View E) → Type 0
  arrived step before found after = after.0 ≡ spent_view
