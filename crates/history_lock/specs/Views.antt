-- What each seat at the table knows. These views exist in proofs alone.
use Rattle.std.specs.Prelude.{◌≡◌, ◌⊎◌, ℕ, suc, zero, ◌+◌, true, false, List, [], ◌∷◌, length, count_by, sum_by, is_some, None, Some}
use mathlib.Core.Option.{some}
use lib.ListN.{get_elem?}
use Rattle.history_lock.specs.declared.view.Share.{Share}
use Rattle.history_lock.specs.declared.view.View.{View}

module _ {A : Type 0} (P : A → Type 0) where
  -- P holds of each element.
  abbrev pub Each : List A → Type 0
  Each [] = Unit {0}
  Each (x ∷ xs) = P x × Each xs

  -- P holds of at least one element.
  abbrev pub AtLeastOne : List A → Type 0
  AtLeastOne [] = ⊥
  AtLeastOne (x ∷ xs) = P x ⊎ AtLeastOne xs

module _ {E : Type 0} where
  -- The first share of a list, where it has one.
  abbrev pub first_share : List (Share E) → Share E
  first_share [] = record { number = 0; seen = []; own = [] }
  first_share (x ∷ xs) = x

  -- What a view has seen: the seen list of its first share, and nothing where it has none.
  abbrev pub view_seen : View E → List E
  view_seen v = (first_share v.shares).seen

  -- The own list of a view in the same way.
  abbrev pub view_own : View E → List E
  view_own v = (first_share v.shares).own

  -- The shares behind the first.
  abbrev pub further_shares : List (Share E) → List (Share E)
  further_shares [] = []
  further_shares (x ∷ xs) = xs

  -- The list of the first share alone, where there is one.
  abbrev pub only_first : List (Share E) → List (Share E)
  only_first [] = []
  only_first (x ∷ xs) = x ∷ []

  -- The shares of m passes that have seen this history and made no entry, with the numbers from k on.
  abbrev pub shares_from : ℕ → ℕ → List E → List (Share E)
  shares_from k zero seen = []
  shares_from k (suc m) seen = record { number = k; seen = seen; own = [] } ∷ shares_from (k + 1) m seen

  -- A view with no ticket, and with no hold or look at the count so far.
  abbrev pub view_of : List (Share E) → View E
  view_of shares = record { shares = shares; holds = 0; known = 0; ticket = None; served = false }

  -- The view at the start: it has the shares of all n passes, which have seen the history that the value brings.
  abbrev pub opening_view : ℕ → List E → View E
  opening_view n seen = view_of (shares_from 0 n seen)

  -- A view with no share, as one is left after its pass was taken in.
  abbrev pub spent_view : View E
  spent_view = view_of []

  -- A pass at rest, with this number and what it knows: it has one share and no ticket.
  abbrev pub resting_view : ℕ → ℕ → View E → View E
  resting_view number known v = record v {
    shares = record (first_share v.shares) { number = number } ∷ [];
    known = known;
    ticket = None;
    served = false;
  }

  -- A pass that has drawn this ticket, and was not served yet.
  abbrev pub ticketed_view : ℕ → View E → View E
  ticketed_view ticket v = record v { shares = first_share v.shares ∷ []; ticket = Some ticket; served = false }

  -- A pass that is served.
  abbrev pub let_in_view : View E → View E
  let_in_view v = record v { shares = first_share v.shares ∷ []; served = true }

  -- A pass that is served, with this number and what it knows.
  abbrev pub inside_view : ℕ → ℕ → View E → View E
  inside_view number known v =
      record v { shares = record (first_share v.shares) { number = number } ∷ []; known = known; served = true }

  -- The j-th view is v.
  abbrev pub HasView : List (View E) → ℕ → View E → Type 0
  HasView views j v = get_elem? views j ≡ some v

  -- How many views have a ticket.
  abbrev pub waiting : List (View E) → ℕ
  waiting views = count_by (λ (v : View E). is_some v.ticket) views

  -- How many shares the views have in all.
  abbrev pub share_count : List (View E) → ℕ
  share_count views = sum_by (λ (v : View E). length v.shares) views
