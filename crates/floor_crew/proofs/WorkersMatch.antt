-- A journal and the histories of all tables match, where each hand is begun and settled by the worker of its table.
use Rattle.std.proofs.Common.{◌≡◌, ◌⊎◌, ◌∙◌, inl, inr, refl, sym, ap, subst, ◌==◌, ℕ, ◌+◌, ◌<◌, ◌≤◌, Bool, true, false, cond, List, [], ◌∷◌, ◌++◌, length, append-nil, arith}
use Rattle.std.specs.Prelude.{Option, None, Some, slice_get}
use Rattle.std.proofs.lemmas.Bool.Decides.{nat_tests}
use Rattle.std.proofs.lemmas.Option.{same_Some}
use mathlib.Core.List.{IsPrefix}
use Rattle.table_engine.specs.Hands.{HandTerms}
use Rattle.history_lock.specs.Entries.{IsGrownByPasses, entries_by}
use Rattle.view_rules.specs.declared.entries.JournalEntry.{JournalEntry}
use Rattle.view_rules.specs.declared.entries.TableEntry.{TableEntry}
use Rattle.view_rules.specs.declared.entries.TableEntry.TheVariants.{Acted, Closed, Opened}
use Rattle.dock_rules.specs.Journals.{journal_caller, tale_of}
use Rattle.dock_rules.specs.Tables.{IsLegalTableHistory, MayComeInTurn, lying_hand, table_caller}
use Rattle.dock_rules.specs.Whole.{IsMatch, hands_of}
use Rattle.dock_rules.proofs.Tables.{legal-back, legal-nil}
use Rattle.table_worker.specs.Alone.{is_hand_at}
use Rattle.table_worker.specs.Ties.{IsBrought}
use Rattle.table_worker.proofs.Alone.{here-of}
use Rattle.table_worker.proofs.Events.{brought-free}
use Rattle.table_worker.proofs.Matching.{brought-matches}
use Rattle.table_worker.proofs.Splits.{split-append}
use Rattle.table_worker.proofs.Ties.{tied-first}
use Rattle.floor_crew.proofs.LawfulSettles.{none-behind}
use Rattle.floor_crew.proofs.OfHands.{has-own, has-there, has_hands, is_of_hand, of-table}
use Rattle.floor_crew.proofs.Zipped.{all-at, get-behind}

-- Entries that may come where no hand lies, and of which none is the worker's, are none.
none-lying : (entries : List TableEntry) → MayComeInTurn None entries → entries_by table_caller 0 entries ≡ []
    → entries ≡ []
none-lying [] may none = refl
none-lying (Opened start ∷ entries) may none = absurd cc
none-lying (Acted caller act ∷ entries) may none = absurd may.0
none-lying (Closed ∷ entries) may none = absurd may.0

-- A legal history of a table is all that its worker has seen, where no hand lay there then and none came behind from
-- the worker.
pub history-all : (noted history : List TableEntry) → IsPrefix noted history → IsLegalTableHistory history
    → entries_by table_caller 0 history ≡ entries_by table_caller 0 noted → lying_hand noted ≡ None → noted ≡ history
history-all noted history prefix legal same none =
    let may : MayComeInTurn None prefix.0 =
    subst (λ (hand : Option HandTerms). MayComeInTurn hand prefix.0) none
    (legal-back noted prefix.0 (subst IsLegalTableHistory (sym prefix.1) legal)) in
    let idle : entries_by table_caller 0 prefix.0 ≡ [] =
    none-behind (λ (entry : TableEntry). table_caller entry == 0) noted prefix.0
    (ap (entries_by table_caller 0) prefix.1 ∙ same) in
    sym (append-nil noted)
    ∙ (ap (λ (more : List TableEntry). noted ++ more) (sym (none-lying prefix.0 may idle)) ∙ prefix.1)

-- a number above those of all callers
abbrev above_all : List JournalEntry → ℕ
above_all [] = 0
above_all (entry ∷ journal) = (entry.caller + 1) + above_all journal

-- No entry has a number above those of all callers.
none-above : (k : ℕ) (journal : List JournalEntry) → above_all journal ≤ k → entries_by journal_caller k journal ≡ []
none-above k [] above = refl
none-above k (entry ∷ journal) above =
    let most : (entry.caller + 1) + above_all journal ≤ k = above in
    let other : (entry.caller == k) ≡ false = grind (arith, nat_tests) in
    ap (λ (is : Bool). cond is (entry ∷ entries_by journal_caller k journal) (entries_by journal_caller k journal)) other
    ∙ none-above k journal (omega (arith, most))

module _ (journal : List JournalEntry) (worker_of : ℕ → Option ℕ) where
  -- Whoever has a number is the worker of a table, or begins and settles no hand.
  abbrev pub IsKnown : ℕ → Type 0
  IsKnown k =
      ((table : ℕ) × (worker_of table ≡ Some k)) ⊎ (has_hands (entries_by journal_caller k journal) ≡ false)

  module _ (histories : ℕ → List TableEntry) where
    -- The workers of the tables are done, the tournament was stopped, and whoever else added to a journal behind its
    -- opening, which has no hands, has a number below this one and is known. A number that no table has has no history.
    pub record AreWorkers (count : ℕ) (opened : List JournalEntry) : Type 0 where
      pub ended : (tale_of journal).ended ≡ true
      pub legal : (table : ℕ) → IsLegalTableHistory (histories table)
      pub grown : IsGrownByPasses journal_caller count opened journal
      pub opened_none : has_hands opened ≡ false
      pub known : (k : ℕ) → k < count → IsKnown k
      pub brought : (table k : ℕ) → worker_of table ≡ Some k → IsBrought k table journal (histories table)
      pub nowhere : (table : ℕ) → worker_of table ≡ None → histories table ≡ []

    module _ (count : ℕ) (opened : List JournalEntry) (are : AreWorkers count opened) where
      -- What begins or settles a hand stands behind the opening.
      below : (front back : List JournalEntry) (entry : JournalEntry) → journal ≡ front ++ entry ∷ back
          → is_of_hand entry.event ≡ true → entry.caller < count
      below front back entry is hand =
          by_side (split-append opened are.grown.0 front back entry (sym are.grown.1 ∙ is))
        where
          by_side : ((rest : List JournalEntry) × (opened ≡ front ++ entry ∷ rest))
              ⊎ ((mid : List JournalEntry) × (front ≡ opened ++ mid) × (are.grown.0 ≡ mid ++ entry ∷ back))
              → entry.caller < count
          by_side (inl found) =
              let never : true ≡ false =
              sym (has-there front found.0 entry hand) ∙ (ap has_hands (sym found.1) ∙ are.opened_none) in
              absurd cc
          by_side (inr found) =
              all-at (λ (other : JournalEntry). journal_caller other < count) are.grown.0 are.grown.2
              (length found.0) entry
              (ap (λ (l : List JournalEntry). slice_get l (length found.0)) found.2 ∙ get-behind found.0 entry back)

      -- It comes from the worker of its table.
      worker-by : (table : ℕ) (front back : List JournalEntry) (entry : JournalEntry)
          → journal ≡ front ++ entry ∷ back → is_hand_at table entry.event ≡ true
          → worker_of table ≡ Some entry.caller
      worker-by table front back entry is here =
          by_known (are.known entry.caller (below front back entry is (of-table table entry.event here)))
        where
          by_known : ((his : ℕ) × (worker_of his ≡ Some entry.caller))
              ⊎ (has_hands (entries_by journal_caller entry.caller journal) ≡ false)
              → worker_of table ≡ Some entry.caller
          by_known (inl found) =
              let brought = are.brought found.0 entry.caller found.1 in
              let same : table ≡ found.0 =
              here-of found.0 (tale_of front) entry.event (brought.work front back entry is refl) table here in
              ap worker_of same ∙ found.1
          by_known (inr none) =
              let never : true ≡ false =
              sym (has-own front back entry (of-table table entry.event here))
              ∙ (ap (λ (l : List JournalEntry). has_hands (entries_by journal_caller entry.caller l)) (sym is) ∙ none) in
              absurd cc

      -- So the journal and the history of each table match.
      pub workers-match : (table : ℕ) → IsMatch table (tale_of journal) (hands_of (histories table))
      workers-match table = by_worker (worker_of table) refl
        where
          by_worker : (found : Option ℕ) → worker_of table ≡ found
              → IsMatch table (tale_of journal) (hands_of (histories table))
          by_worker (Some k) is =
              brought-matches k table journal (histories table) (are.legal table)
              (λ front back entry at here.
              same_Some entry.caller k (sym (worker-by table front back entry at here) ∙ is))
              (are.brought table k is)
          by_worker None is =
              let k : ℕ = above_all journal in
              let none = none-above k journal (omega arith) in
              subst (λ (history : List TableEntry). IsMatch table (tale_of journal) (hands_of history))
              (sym (are.nowhere table is))
              (brought-matches k table journal [] legal-nil
              (λ front back entry at here.
              let never : None ≡ Some entry.caller = sym is ∙ worker-by table front back entry at here in absurd cc)
              (brought-free k table journal [] None are.ended (tied-first k table journal [] none refl)))
