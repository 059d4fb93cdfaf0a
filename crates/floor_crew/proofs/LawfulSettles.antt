-- The hands that a journal settles were played lawfully, where the worker of a table brings each settle.
use Rattle.std.proofs.Common.{◌≡◌, ◌∙◌, refl, sym, ap, subst, ◌==◌, ℕ, zero, suc, Bool, true, false, cond, List, [], ◌∷◌, ◌++◌, ◌<◌, ◌≤◌, append-nil, fold, inl, inr, length, map, take, arith}
use Rattle.std.specs.Prelude.{◌⊎◌, ◌||◌, filter, Option, None, Some, option_map, option_to_list}
use Rattle.std.specs.List.{AllByRecursion, list_any}
use Rattle.std.proofs.lemmas.Bool.{cases_lt, or_parts}
use Rattle.std.proofs.lemmas.Bool.Decides.{nat_tests}
use Rattle.std.proofs.lemmas.List.Elements.{All-from_recursion, filter-append, recursion_from_All}
use Rattle.table_engine.specs.declared.record.ActOf.{ActOf}
use Rattle.table_engine.specs.Hands.{HandTerms}
use Rattle.table_engine.specs.Plays.{IsLawfulPlay}
use Rattle.tournament_events.specs.declared.event.Event.{Event}
use Rattle.tournament_events.specs.declared.event.Event.TheVariants as events
use Rattle.level_plan.specs.Plans.{PlanTerms}
use Rattle.level_plan.specs.declared.line.PlanLine.{PlanLine}
use Rattle.plan_files.specs.PlanLines.{lines_of_plan}
use Rattle.simulation_rules.specs.Runs.{is_settle}
use Rattle.history_lock.specs.Entries.{IsGrownByPasses, entries_by}
use Rattle.history_lock.specs.Limits.{opener}
use Rattle.view_rules.specs.declared.entries.JournalEntry.{JournalEntry}
use Rattle.view_rules.specs.declared.entries.TableEntry.{TableEntry}
use Rattle.dock_rules.specs.Journals.{Settled, Tale, first_tale, hand_out, journal_caller, plain_entry, seeded, settled_by, tale_of, told_one}
use Rattle.dock_rules.specs.Tables.{IsLegalTableHistory}
use Rattle.dock_rules.specs.Whole.{hands_of}
use Rattle.dock_rules.proofs.JournalTales.{tale_from}
use Rattle.book_dock.specs.Opening.{opening}
use Rattle.whole_laws.proofs.LawfulHands.{played-lawful}
use Rattle.table_worker.specs.Ties.{IsBrought, hands_closed, hands_settled}
use Rattle.table_worker.proofs.Others.{same-by}
use Rattle.floor_crew.specs.Tournaments.{AreLawful}
use Rattle.floor_crew.proofs.OfHands.{settles}

-- All entries of a caller are those of the worker of a table, who was done when it had seen a beginning of the journal
-- and this legal history of its table.
pub record IsWorkers (k : ℕ) (journal : List JournalEntry) : Type 0 where
  pub table : ℕ
  pub noted : List JournalEntry
  pub history : List TableEntry
  pub rest : List JournalEntry
  pub is : journal ≡ noted ++ rest
  pub own : entries_by journal_caller k journal ≡ entries_by journal_caller k noted
  pub legal : IsLegalTableHistory history
  pub brought : IsBrought k table noted history

-- No entry of a caller is a settle.
pub record SettlesNone (k : ℕ) (journal : List JournalEntry) : Type 0 where
  pub none : list_any (λ (entry : JournalEntry). is_settle entry.event) (entries_by journal_caller k journal) ≡ false

lawful-front : (hands : List HandTerms) (others : List HandTerms) → AllByRecursion IsLawfulPlay (hands ++ others)
    → AllByRecursion IsLawfulPlay hands
lawful-front [] others all = tt
lawful-front (hand ∷ hands) others all = (all.0, lawful-front hands others all.1)

lawful-take : (n : ℕ) (hands : List HandTerms) → AllByRecursion IsLawfulPlay hands
    → AllByRecursion IsLawfulPlay (take n hands)
lawful-take zero hands all = tt
lawful-take (suc n) [] all = tt
lawful-take (suc n) (hand ∷ hands) all = (all.0, lawful-take n hands all.1)

-- What stands behind a list of which a test picks the same is picked nowhere.
pub none-behind : {A : Type 0} (test : A → Bool) (front back : List A) → filter test (front ++ back) ≡ filter test front
    → filter test back ≡ []
none-behind {A} test front back same =
    cancelled (filter test front) (filter test back) (sym (filter-append test front back) ∙ same)
  where
    cancelled : (xs ys : List A) → xs ++ ys ≡ xs → ys ≡ []
    cancelled [] ys is = is
    cancelled (x ∷ xs) ys is = let tail : xs ++ ys ≡ xs = cc in cancelled xs ys tail

-- The hands that the worker of a table settled are lawful plays.
workers-lawful : (k : ℕ) (journal : List JournalEntry) → IsWorkers k journal
    → AllByRecursion IsLawfulPlay (hands_settled k (tale_of journal))
workers-lawful k journal his =
    let closed = lawful-front (hands_closed his.history) (option_to_list (hands_of his.history).lying)
    (played-lawful his.history his.legal) in
    let there = subst (AllByRecursion IsLawfulPlay) (sym his.brought.settled)
    (lawful-take (length (hands_settled k (tale_of his.noted))) (hands_closed his.history) closed) in
    let none = none-behind (λ (entry : JournalEntry). journal_caller entry == k) his.noted his.rest
    (ap (entries_by journal_caller k) (sym his.is) ∙ his.own) in
    subst (λ (journal : List JournalEntry). AllByRecursion IsLawfulPlay (hands_settled k (tale_of journal)))
    (sym his.is)
    (subst (AllByRecursion IsLawfulPlay) (sym (same-by k his.noted his.rest none).settled) there)

module _ (k : ℕ) where
  abbrev mine : Settled → Bool
  mine one = one.by == k

  found-none : (caller : ℕ) (found : Option HandTerms) → (caller == k) ≡ false
      → filter mine (option_to_list (option_map (λ hand. record { by = caller; hand = hand }) found)) ≡ []
  found-none caller None other = refl
  found-none caller (Some hand) other = ap (λ (is : Bool). cond is (record { by = caller; hand = hand } ∷ []) []) other

  -- Another caller settles nothing of this one.
  others-none : (tale : Tale) (caller : ℕ) (event : Event) (acts : List ActOf) → (caller == k) ≡ false
      → filter mine (settled_by tale caller event acts) ≡ []
  others-none tale caller (events.Settle table) acts other = found-none caller (hand_out tale table acts) other
  others-none tale caller event acts other = refl

  -- Nor does an event that is no settle.
  own-none : (tale : Tale) (caller : ℕ) (event : Event) (acts : List ActOf) → is_settle event ≡ false
      → filter mine (settled_by tale caller event acts) ≡ []
  own-none tale caller (events.Settle table) acts none = absurd cc
  own-none tale caller event acts none = refl

  kept : (tale : Tale) (entry : JournalEntry)
      → filter mine (settled_by (seeded tale entry) entry.caller entry.event entry.acts) ≡ []
      → filter mine (told_one tale entry).settled ≡ filter mine tale.settled
  kept tale entry none =
      filter-append mine tale.settled (settled_by (seeded tale entry) entry.caller entry.event entry.acts)
      ∙ (ap (λ (more : List Settled). filter mine tale.settled ++ more) none ∙ append-nil (filter mine tale.settled))

  none-from : (tale : Tale) (entries : List JournalEntry)
      → list_any (λ (entry : JournalEntry). is_settle entry.event) (entries_by journal_caller k entries) ≡ false
      → filter mine (fold told_one tale entries).settled ≡ filter mine tale.settled
  none-from tale [] none = refl
  none-from tale (entry ∷ entries) none = step (entry.caller == k) refl none (none-from (told_one tale entry) entries)
    where
      step : (is : Bool) → (entry.caller == k) ≡ is
          → list_any (λ (entry : JournalEntry). is_settle entry.event)
          (cond is (entry ∷ entries_by journal_caller k entries) (entries_by journal_caller k entries)) ≡ false
          → (list_any (λ (entry : JournalEntry). is_settle entry.event) (entries_by journal_caller k entries) ≡ false
          → filter mine (fold told_one (told_one tale entry) entries).settled
          ≡ filter mine (told_one tale entry).settled)
          → filter mine (fold told_one (told_one tale entry) entries).settled ≡ filter mine tale.settled
      step true is none later =
          let parts = or_parts (is_settle entry.event)
          (list_any (λ (entry : JournalEntry). is_settle entry.event) (entries_by journal_caller k entries)) none in
          later parts.1
          ∙ kept tale entry (own-none (seeded tale entry) entry.caller entry.event entry.acts parts.0)
      step false is none later =
          later none
          ∙ kept tale entry (others-none (seeded tale entry) entry.caller entry.event entry.acts is)

-- A caller of whom no entry is a settle settled no hand.
none-lawful : (k : ℕ) (journal : List JournalEntry) → SettlesNone k journal
    → AllByRecursion IsLawfulPlay (hands_settled k (tale_of journal))
none-lawful k journal none =
    let empty : filter (mine k) (tale_of journal).settled ≡ [] =
    ap (λ (tale : Tale). filter (mine k) tale.settled) (tale_from journal)
    ∙ none-from k first_tale journal none.none in
    subst (AllByRecursion IsLawfulPlay) (sym (ap (map (λ (one : Settled). one.hand)) empty)) tt

-- What is so of the hands of each caller is so of all.
each-lawful : (settled : List Settled)
    → ((k : ℕ) → AllByRecursion IsLawfulPlay (map (λ (one : Settled). one.hand) (filter (mine k) settled)))
    → AllByRecursion (λ (one : Settled). IsLawfulPlay one.hand) settled
each-lawful [] each = tt
each-lawful (one ∷ settled) each = (
  (subst (λ (is : Bool). Lawful (cond is (one ∷ filter (mine one.by) settled) (filter (mine one.by) settled))) itself
      (each one.by)).0,
  each-lawful settled (λ k. later k (mine k one) (each k)),
)
  where
    Lawful : List Settled → Type 0
    Lawful list = AllByRecursion IsLawfulPlay (map (λ (one : Settled). one.hand) list)

    itself : (one.by == one.by) ≡ true
    itself = grind (arith, nat_tests)

    later : (k : ℕ) (is : Bool)
        → AllByRecursion IsLawfulPlay (map (λ (one : Settled). one.hand)
        (cond is (one ∷ filter (mine k) settled) (filter (mine k) settled)))
        → AllByRecursion IsLawfulPlay (map (λ (one : Settled). one.hand) (filter (mine k) settled))
    later k true all = all.1
    later k false all = all

-- The hands that a journal settles were played lawfully, where each caller's entries are a worker's or settle none.
pub lawful_journal : (journal : List JournalEntry) → ((k : ℕ) → IsWorkers k journal ⊎ SettlesNone k journal)
    → AreLawful journal
lawful_journal journal callers =
    All-from_recursion (λ (one : Settled). IsLawfulPlay one.hand) (tale_of journal).settled
    (each-lawful (tale_of journal).settled (λ k. elim (callers k) [
      | inl his ↦ workers-lawful k journal his
      | inr none ↦ none-lawful k journal none
    ]))

plan-none : (seed : List ℕ) (lines : List PlanLine)
    → settles (map (plain_entry opener seed) (map events.Plan lines ++ events.Go ∷ [])) ≡ false
plan-none seed [] = refl
plan-none seed (line ∷ lines) = plan-none seed lines

-- Of entries of which none is a settle, none that a test picks is.
picked-none : (test : JournalEntry → Bool) (entries : List JournalEntry) → settles entries ≡ false
    → settles (filter test entries) ≡ false
picked-none test [] none = refl
picked-none test (entry ∷ entries) none =
    let parts = or_parts (is_settle entry.event) (settles entries) none in
    by_test (test entry) parts.0 (picked-none test entries parts.1)
  where
    by_test : (is : Bool) → is_settle entry.event ≡ false → settles (filter test entries) ≡ false
        → settles (cond is (entry ∷ filter test entries) (filter test entries)) ≡ false
    by_test true here later = ap (λ (first : Bool). first || settles (filter test entries)) here ∙ later
    by_test false here later = later

none-above : (n k : ℕ) (added : List JournalEntry) → n ≤ k
    → AllByRecursion (λ (entry : JournalEntry). journal_caller entry < n) added → entries_by journal_caller k added ≡ []
none-above n k [] above all = refl
none-above n k (entry ∷ added) above all =
    let below = all.0 in
    let other : (entry.caller == k) ≡ false = grind (arith, nat_tests) in
    ap (λ (is : Bool). cond is (entry ∷ entries_by journal_caller k added) (entries_by journal_caller k added)) other
    ∙ none-above n k added above all.1

-- So were those of a journal to whose opening the passes of a lock alone added, where each pass is a worker's or
-- settles none.
pub lawful_by_passes : (n : ℕ) (seed : List ℕ) (plan : PlanTerms) (journal : List JournalEntry)
    → IsGrownByPasses journal_caller n (opening seed plan) journal
    → ((k : ℕ) → k < n → IsWorkers k journal ⊎ SettlesNone k journal) → AreLawful journal
lawful_by_passes n seed plan journal grown passes =
    lawful_journal journal (λ k. elim (cases_lt k n) [
      | inl below ↦ passes k below
      | inr above ↦ inr (record { none = outside k above })
    ])
  where
    outside : (k : ℕ) → n ≤ k → settles (entries_by journal_caller k journal) ≡ false
    outside k above =
        let test : JournalEntry → Bool = λ (entry : JournalEntry). journal_caller entry == k in
        let nobody = none-above n k grown.0 above
        (recursion_from_All (λ (entry : JournalEntry). journal_caller entry < n) grown.0 grown.2) in
        ap (λ (journal : List JournalEntry). settles (filter test journal)) grown.1
        ∙ (ap settles (filter-append test (opening seed plan) grown.0)
        ∙ (ap (λ (more : List JournalEntry). settles (filter test (opening seed plan) ++ more)) nobody
        ∙ (ap settles (append-nil (filter test (opening seed plan)))
        ∙ picked-none test (opening seed plan) (plan-none seed (lines_of_plan plan)))))
