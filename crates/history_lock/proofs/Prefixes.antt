-- Beginnings of one list, and the entries of one caller in a longer one.
use Rattle.std.proofs.Common.{◌≡◌, ◌≢◌, ◌==◌, ℕ, ◌<◌, ◌≤◌, true, false, List, [], ◌∷◌, ◌++◌, length, drop, refl, sym, ap, ◌∙◌, subst, arith, append_assoc, length-append, All}
use Rattle.std.proofs.lemmas.List.{append-nil}
use Rattle.std.proofs.lemmas.List.Elements.{All-append, All-nil, filter-append}
use Rattle.std.proofs.lemmas.Bool.Decides.{nat_tests}
use mathlib.Core.List.{IsPrefix}
use Rattle.history_lock.specs.Entries.{entries_by, IsGrownBy, IsGrownByPasses}
use Rattle.history_lock.specs.Limits.{most_passes, opener}
use Rattle.history_lock.specs.Views.{Each}
use Rattle.history_lock.proofs.Lists.{all_of_each, each_of_all}

module _ {A : Type 0} where
  -- each list begins with itself
  pub prefix_self : (xs : List A) → IsPrefix xs xs
  prefix_self xs = ([], append-nil xs)

  -- a longer list begins with what it was made of
  pub prefix_append : (xs ys : List A) → IsPrefix xs (xs ++ ys)
  prefix_append xs ys = (ys, refl)

  -- a list that begins a beginning of another begins that other
  pub prefix_trans : (xs ys zs : List A) → IsPrefix xs ys → IsPrefix ys zs → IsPrefix xs zs
  prefix_trans xs ys zs p q = (p.0 ++ q.0, sym (append_assoc xs p.0 q.0) ∙ (ap (λ w. w ++ q.0) p.1 ∙ q.1))

  -- a beginning is at most as long as the list that it begins
  pub prefix_length : (xs ys : List A) → IsPrefix xs ys → length xs ≤ length ys
  prefix_length xs ys p = omega (arith, sym (ap length p.1) ∙ length-append xs p.0)

  -- what stands behind a beginning is what was added
  pub drop_append : (xs ys : List A) → drop (length xs) (xs ++ ys) ≡ ys
  drop_append [] ys = refl
  drop_append (x ∷ xs) ys = drop_append xs ys

module _ {E : Type 0} (caller_of : E → ℕ) where
  -- of entries of one caller, all are that caller's
  pub entries_by_own : (k : ℕ) (added : List E) → Each (λ e. caller_of e ≡ k) added
      → entries_by caller_of k added ≡ added
  entries_by_own k [] own = refl
  entries_by_own k (e ∷ es) own =
      let here : (caller_of e == k) ≡ true = let h = own.0 in grind (arith, nat_tests) in
      let rest : entries_by caller_of k es ≡ es = entries_by_own k es own.1 in
      rw here (ap (λ w. e ∷ w) rest)

  -- and none is another's
  pub entries_by_other : (k i : ℕ) (added : List E) → k ≢ i → Each (λ e. caller_of e ≡ k) added
      → entries_by caller_of i added ≡ []
  entries_by_other k i [] ne own = refl
  entries_by_other k i (e ∷ es) ne own =
      let here : (caller_of e == i) ≡ false = let h = own.0 in grind (arith, nat_tests) in
      rw here (entries_by_other k i es ne own.1)

  -- where entries of caller k are added to a history, the entries of k grow by just these
  pub entries_by_grown : (k : ℕ) (log added : List E) → Each (λ e. caller_of e ≡ k) added
      → entries_by caller_of k (log ++ added) ≡ entries_by caller_of k log ++ added
  entries_by_grown k log added own = filter-append (λ e. caller_of e == k) log added
      ∙ ap (λ w. entries_by caller_of k log ++ w) (entries_by_own k added own)

  -- where entries of caller k are added to a history, those of every other caller stay as they were
  pub entries_by_kept : (k i : ℕ) (log added : List E) → k ≢ i → Each (λ e. caller_of e ≡ k) added
      → entries_by caller_of i (log ++ added) ≡ entries_by caller_of i log
  entries_by_kept k i log added ne own =
      filter-append (λ e. caller_of e == i) log added
      ∙ (ap (λ w. entries_by caller_of i log ++ w) (entries_by_other k i added ne own)
      ∙ append-nil (entries_by caller_of i log))

  -- a history has grown by callers below n alone before any entry is added
  pub not_grown : (n : ℕ) (log : List E) → IsGrownByPasses caller_of n log log
  not_grown n log = ([], sym (append-nil log), All-nil (λ e. caller_of e < n))

  -- and where a caller below n adds to one that has
  pub passes_grow : (n k : ℕ) (before log added : List E) → k < n → IsGrownByPasses caller_of n before log
      → Each (λ e. caller_of e ≡ k) added → IsGrownByPasses caller_of n before (log ++ added)
  passes_grow n k before log added below grown own = (
    grown.0 ++ added,
    ap (λ w. w ++ added) grown.1 ∙ append_assoc before grown.0 added,
    All-append (λ e. caller_of e < n) grown.0 added grown.2
        (λ j e at. subst (λ i. i < n) (sym (all_of_each (λ e. caller_of e ≡ k) added own j e at)) below),
  )

  -- where a history has of caller k just these entries, a longer one to which only k added has those that were added
  -- too
  pub own_left : (k : ℕ) (seen own left : List E) → entries_by caller_of k seen ≡ own → IsGrownBy caller_of k seen left
      → entries_by caller_of k left ≡ own ++ drop (length seen) left
  own_left k seen own left mine grown =
      let whole = grown.1 in
      ap (entries_by caller_of k) whole
      ∙ (entries_by_grown k seen grown.0 (each_of_all (λ e. caller_of e ≡ k) grown.0 grown.2)
      ∙ (ap (λ w. w ++ grown.0) mine
      ∙ (ap (λ w. own ++ w) (sym (drop_append seen grown.0)) ∙ ap (λ w. own ++ drop (length seen) w) (sym whole))))

  -- a history of the opener's entries has none of a caller below it
  pub none_own : (k : ℕ) (log : List E) → k ≤ most_passes → All (λ e. caller_of e ≡ opener) log
      → entries_by caller_of k log ≡ []
  none_own k log small opened =
      entries_by_other opener k log (λ e. omega (arith, e)) (each_of_all (λ e. caller_of e ≡ opener) log opened)
