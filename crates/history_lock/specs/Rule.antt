-- The rule of the lock: what holds of its words, its slot and all views between any two steps.
use Rattle.std.specs.Prelude.{◌≡◌, ℕ, ◌+◌, ◌%◌, ◌^◌, ◌<◌, ◌≤◌, true, false, List, [], ◌∷◌, length, Option, Some, None}
use mathlib.Core.Option as maybe
use mathlib.Core.List.{IsPrefix}
use Rattle.atomic_table.specs.Table.{State}
use Rattle.history_lock.specs.declared.view.Share.{Share}
use Rattle.history_lock.specs.declared.view.View.{View}
use Rattle.history_lock.specs.Limits.{most_passes}
use Rattle.history_lock.specs.Entries.{entries_by, IsGrownByPasses}
use Rattle.history_lock.specs.Views.{Each, AtLeastOne, HasView, view_own, view_seen, waiting, share_count}

-- The words are the next ticket, the ticket that is served, the count of entries, and how often each bell was rung.
abbrev pub AreWords : List ℕ → ℕ → ℕ → ℕ → List ℕ → Type 0
AreWords words ticket serving count bells = words ≡ ticket ∷ serving ∷ count ∷ bells

module _ {E : Type 0} where
  -- The difference of the two tickets is the number of views with a ticket, at most n. The tickets differ, and lie in
  -- that range.
  pub record TicketsAreInRange (n ticket serving : ℕ) (views : List (View E)) : Type 0 where
    pub difference : ticket ≡ (serving + waiting views) % 2 ^ 64
    pub few : waiting views ≤ n
    pub in_range : (j : ℕ) (v : View E) (t : ℕ) → HasView views j v → v.ticket ≡ Some t
        → (i : ℕ) × (i < waiting views) × (t ≡ (serving + i) % 2 ^ 64)
    pub differ : (i j : ℕ) (v w : View E) (t : ℕ) → HasView views i v → HasView views j w → v.ticket ≡ Some t
        → w.ticket ≡ Some t → i ≡ j

  -- Each seen list begins the history `now`, and one of them is `now`. Its length fits a word, and no view knows of
  -- more entries.
  pub record NowIsLongest (now : List E) (views : List (View E)) : Type 0 where
    pub fits : length now < 2 ^ 64
    pub begin_it : (j : ℕ) (v : View E) → HasView views j v → Each (λ (x : Share E). IsPrefix x.seen now) v.shares
    pub is_seen : (j : ℕ) × (v : View E) × HasView views j v × AtLeastOne (λ (x : Share E). x.seen ≡ now) v.shares
    pub known : (j : ℕ) (v : View E) → HasView views j v → v.known ≤ length now

  -- A share of the j-th view has one of the n numbers, which this view keeps. Its own list is what `now` has of this
  -- number.
  abbrev pub IsKeptShare : (E → ℕ) → ℕ → List E → (ℕ → ℕ) → ℕ → Share E → Type 0
  IsKeptShare caller_of n now keeper j share = (share.number < n) × (keeper share.number ≡ j)
      × (share.own ≡ entries_by caller_of share.number now)

  -- Each of the n numbers has one share, in the view that keeps it.
  pub record NumbersAreKept (caller_of : E → ℕ) (n : ℕ) (now : List E) (keeper : ℕ → ℕ) (views : List (View E))
      : Type 0 where
    pub kept : (k : ℕ) → k < n → (v : View E) × HasView views (keeper k) v
        × AtLeastOne (λ (x : Share E). x.number ≡ k) v.shares
    pub own : (j : ℕ) (v : View E) → HasView views j v → Each (IsKeptShare caller_of n now keeper j) v.shares
    pub once : share_count views ≡ n

  -- At most one view is served, and its ticket is the one that is served.
  pub record OneIsServed (serving : ℕ) (views : List (View E)) : Type 0 where
    pub ticket : (j : ℕ) (v : View E) → HasView views j v → v.served ≡ true → v.ticket ≡ Some serving
    pub one : (i j : ℕ) (v w : View E) → HasView views i v → HasView views j w → v.served ≡ true → w.served ≡ true
        → i ≡ j

  -- Where no view is served, the slot is at home with a value whose history is `now`. Where one is, the slot is out
  -- with its seat, which has seen `now`.
  pub record SlotIsRight {Val : Type 0} (history : Val → List E) (now : List E)
      (homes : List (maybe.Option (Option Val))) (views : List (View E)) : Type 0 where
    pub home : ((j : ℕ) (v : View E) → HasView views j v → v.served ≡ false)
        → (x : Val) × (homes ≡ maybe.some (Some x) ∷ []) × (history x ≡ now)
    pub out : (j : ℕ) (v : View E) → HasView views j v → v.served ≡ true
        → (homes ≡ maybe.none ∷ []) × Each (λ (x : Share E). x.seen ≡ now) v.shares

  -- A view is spent: it has no ticket, no entry of its own, and has seen the beginning of `now`.
  pub record IsSpent (now : List E) (v : View E) : Type 0 where
    pub no_ticket : v.ticket ≡ None
    pub none_own : view_own v ≡ []
    pub begins_now : IsPrefix (view_seen v) now

  -- A view with no share, as it is left once its pass was taken in, is spent.
  abbrev pub SpentAreIdle : List E → List (View E) → Type 0
  SpentAreIdle now views = (j : ℕ) (v : View E) → HasView views j v → v.shares ≡ [] → IsSpent now v

  -- The rule of a lock with n passes, made round a value with this opening. `now` is the history, which `count` counts.
  -- Behind the opening all its entries are of the n numbers.
  pub record IsKept {Val : Type 0} (history : Val → List E) (caller_of : E → ℕ) (n : ℕ) (opening : List E)
      (s : State (Option Val) (View E)) : Type 0 where
    pub now : List E
    pub ticket : ℕ
    pub serving : ℕ
    pub bells : List ℕ
    pub keeper : ℕ → ℕ
    pub limit : n ≤ most_passes
    pub words : AreWords s.words ticket serving (length now) bells
    pub tickets : TicketsAreInRange n ticket serving s.views
    pub grown : IsGrownByPasses caller_of n opening now
    pub longest : NowIsLongest now s.views
    pub numbers : NumbersAreKept caller_of n now keeper s.views
    pub served : OneIsServed serving s.views
    pub slot : SlotIsRight history now s.homes s.views
    pub spent : SpentAreIdle now s.views
