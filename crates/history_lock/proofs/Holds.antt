-- A hold is one way in and one way out.
use Rattle.std.proofs.Common.{◌≡◌, ◌==◌, ℕ, List, [], sym, ap, ◌∙◌}
use Rattle.std.proofs.lemmas.List.{append-nil, append_cancel_left}
use Rattle.std.proofs.lemmas.List.Elements.{filter-append}
use mathlib.Core.List.{IsPrefix}
use Rattle.history_lock.specs.Entries.{entries_by, IsGrownByOthers}

-- where a longer history has as many entries of caller k as before, only others have added to it
pub grown_by_others : {E : Type 0} (caller_of : E → ℕ) (k : ℕ) (before after : List E) → IsPrefix before after
    → entries_by caller_of k after ≡ entries_by caller_of k before → IsGrownByOthers caller_of k before after
grown_by_others caller_of k before after longer same = (
  longer.0,
  sym longer.1,
  append_cancel_left (entries_by caller_of k before) (entries_by caller_of k longer.0) []
      (sym (filter-append (λ e. caller_of e == k) before longer.0)
      ∙ (ap (entries_by caller_of k) longer.1 ∙ (same ∙ sym (append-nil (entries_by caller_of k before))))),
)
