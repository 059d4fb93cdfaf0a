-- Where an entry stands in a list with others behind it, and the work of a caller in a longer journal.
use Rattle.std.proofs.Common.{◌≡◌, ◌⊎◌, ◌∙◌, inl, inr, refl, sym, ap, subst, ◌==◌, ℕ, Bool, true, false, cond, List, [], ◌∷◌, ◌++◌, append-nil, arith}
use Rattle.std.specs.Prelude.{Some}
use Rattle.std.proofs.lemmas.Bool.Decides.{nat_tests}
use Rattle.history_lock.specs.Entries.{entries_by}
use Rattle.view_rules.specs.declared.entries.JournalEntry.{JournalEntry}
use Rattle.dock_rules.specs.Journals.{journal_caller, tale_of}
use Rattle.table_worker.specs.Ties.{AreWork, work_owed}

-- What stands in two lists together stands in the one or in the other.
pub split-append : {A : Type 0} (first second front back : List A) (item : A) → first ++ second ≡ front ++ item ∷ back
    → ((rest : List A) × (first ≡ front ++ item ∷ rest))
    ⊎ ((mid : List A) × (front ≡ first ++ mid) × (second ≡ mid ++ item ∷ back))
split-append [] second front back item is = inr (front, refl, is)
split-append (x ∷ first) second [] back item is =
    inl (first, let head : x ≡ item = cc in ap (λ y. y ∷ first) head)
split-append {A = A} (x ∷ first) second (y ∷ front) back item is =
    later (split-append first second front back item (let tail : first ++ second ≡ front ++ item ∷ back = cc in tail))
    (let head : x ≡ y = cc in head)
  where
    later : ((rest : List A) × (first ≡ front ++ item ∷ rest))
        ⊎ ((mid : List A) × (front ≡ first ++ mid) × (second ≡ mid ++ item ∷ back)) → x ≡ y
        → ((rest : List A) × (x ∷ first ≡ y ∷ (front ++ item ∷ rest)))
        ⊎ ((mid : List A) × (y ∷ front ≡ x ∷ (first ++ mid)) × (second ≡ mid ++ item ∷ back))
    later (inl found) head = inl (found.0, λ i. head i ∷ found.1 i)
    later (inr found) head = inr (found.0, λ i. sym head i ∷ found.1 i, found.2)

-- Numbers that are the same are told so.
pub same-number : (one other : ℕ) → one ≡ other → (one == other) ≡ true
same-number one other is = grind (arith, nat_tests)

-- An entry of a caller is among those of the caller.
found-by : (caller : ℕ) (mid back : List JournalEntry) (entry : JournalEntry) → entry.caller ≡ caller
    → entries_by journal_caller caller (mid ++ entry ∷ back) ≡ [] → ⊥
found-by caller [] back entry mine none =
    let test = same-number entry.caller caller mine in
    let never : entry ∷ entries_by journal_caller caller back ≡ [] =
    sym (ap (λ (here : Bool). cond here (entry ∷ entries_by journal_caller caller back)
    (entries_by journal_caller caller back)) test) ∙ none in
    cc
found-by caller (first ∷ mid) back entry mine none =
    by_first (first.caller == caller) none (found-by caller mid back entry mine)
  where
    by_first : (here : Bool)
        → cond here (first ∷ entries_by journal_caller caller (mid ++ entry ∷ back))
        (entries_by journal_caller caller (mid ++ entry ∷ back)) ≡ []
        → (entries_by journal_caller caller (mid ++ entry ∷ back) ≡ [] → ⊥) → ⊥
    by_first true none later = cc
    by_first false none later = later none

module _ (caller table : ℕ) where
  -- The work stays so while others add to the journal.
  pub work-others : (before others : List JournalEntry) → entries_by journal_caller caller others ≡ []
      → AreWork caller table before → AreWork caller table (before ++ others)
  work-others before others none work = λ front back entry is mine.
      by_side front back entry mine (split-append before others front back entry is)
    where
      by_side : (front back : List JournalEntry) (entry : JournalEntry) → entry.caller ≡ caller
          → ((rest : List JournalEntry) × (before ≡ front ++ entry ∷ rest))
          ⊎ ((mid : List JournalEntry) × (front ≡ before ++ mid) × (others ≡ mid ++ entry ∷ back))
          → work_owed table (tale_of front) entry.event ≡ Some entry.event
      by_side front back entry mine (inl found) = work front found.0 entry found.1 mine
      by_side front back entry mine (inr found) =
          absurd (found-by caller found.0 back entry mine (sym (ap (entries_by journal_caller caller) found.2) ∙ none))

  -- It stays so with an entry more that is work.
  pub work-push : (before : List JournalEntry) (added : JournalEntry)
      → work_owed table (tale_of before) added.event ≡ Some added.event
      → AreWork caller table before → AreWork caller table (before ++ added ∷ [])
  work-push before added owed work = λ front back entry is mine.
      by_side front back entry mine (split-append before (added ∷ []) front back entry is)
    where
      at_end : (front back mid : List JournalEntry) (entry : JournalEntry) → front ≡ before ++ mid
          → added ∷ [] ≡ mid ++ entry ∷ back → work_owed table (tale_of front) entry.event ≡ Some entry.event
      at_end front back [] entry at is =
          let same : added ≡ entry = cc in
          let here : before ≡ front = sym (at ∙ append-nil before) in
          subst (λ (there : List JournalEntry × JournalEntry).
          work_owed table (tale_of there.0) there.1.event ≡ Some there.1.event) (λ i. (here i, same i)) owed
      at_end front back (first ∷ []) entry at is = absurd cc
      at_end front back (first ∷ second ∷ mid) entry at is = absurd cc

      by_side : (front back : List JournalEntry) (entry : JournalEntry) → entry.caller ≡ caller
          → ((rest : List JournalEntry) × (before ≡ front ++ entry ∷ rest))
          ⊎ ((mid : List JournalEntry) × (front ≡ before ++ mid) × (added ∷ [] ≡ mid ++ entry ∷ back))
          → work_owed table (tale_of front) entry.event ≡ Some entry.event
      by_side front back entry mine (inl found) = work front found.0 entry found.1 mine
      by_side front back entry mine (inr found) = at_end front back found.0 entry found.1 found.2

  -- A caller with no entry has done no work.
  pub work-none : (journal : List JournalEntry) → entries_by journal_caller caller journal ≡ []
      → AreWork caller table journal
  work-none journal none = λ front back entry is mine.
      absurd (found-by caller front back entry mine (sym (ap (entries_by journal_caller caller) is) ∙ none))
