-- What entries of others leave of a caller's hands in a journal.
use Rattle.std.proofs.Common.{◌≡◌, ◌∙◌, refl, ap, ◌==◌, ℕ, Bool, true, false, cond, List, [], ◌∷◌, ◌++◌, fold, map, append-nil}
use Rattle.std.specs.Prelude.{filter, Option, None, Some, option_map, option_to_list}
use Rattle.std.proofs.lemmas.List.Elements.{filter-append}
use Rattle.table_engine.specs.declared.record.ActOf.{ActOf}
use Rattle.table_engine.specs.Hands.{HandTerms}
use Rattle.tournament_events.specs.declared.event.Event.{Event}
use Rattle.tournament_events.specs.declared.event.Event.TheVariants as events
use Rattle.history_lock.specs.Entries.{entries_by}
use Rattle.view_rules.specs.declared.entries.JournalEntry.{JournalEntry}
use Rattle.dock_rules.specs.Journals.{Begun, Settled, Tale, begun_by, first_tale, hand_out, journal_caller, seeded, settled_by, tale_of, told_one}
use Rattle.dock_rules.proofs.JournalTales.{tale_append, tale_from}
use Rattle.table_worker.specs.Ties.{hands_settled, starts_begun}

module _ (k : ℕ) where
  -- what this caller began and settled is the same
  pub record IsSameBy (before after : Tale) : Type 0 where
    pub begun : starts_begun k after ≡ starts_begun k before
    pub settled : hands_settled k after ≡ hands_settled k before

  begun-no : (tale : Tale) (caller : ℕ) (event : Event) → (caller == k) ≡ false
      → filter (λ (one : Begun). one.by == k) (begun_by tale caller event) ≡ []
  begun-no tale caller (events.Begin table row) other = rw other refl
  begun-no tale caller event other = refl

  settled-none : (caller : ℕ) (found : Option HandTerms) → (caller == k) ≡ false
      → filter (λ (one : Settled). one.by == k)
      (option_to_list (option_map (λ hand. record { by = caller; hand = hand }) found)) ≡ []
  settled-none caller None other = refl
  settled-none caller (Some hand) other = rw other refl

  settled-no : (tale : Tale) (caller : ℕ) (event : Event) (acts : List ActOf) → (caller == k) ≡ false
      → filter (λ (one : Settled). one.by == k) (settled_by tale caller event acts) ≡ []
  settled-no tale caller (events.Settle table) acts other = settled-none caller (hand_out tale table acts) other
  settled-no tale caller event acts other = refl

  -- what passes of a longer list of which nothing behind passes
  filter-front : {A : Type 0} (test : A → Bool) (front back : List A) → filter test back ≡ []
      → filter test (front ++ back) ≡ filter test front
  filter-front test front back none =
      filter-append test front back
      ∙ (ap (λ rest. filter test front ++ rest) none ∙ append-nil (filter test front))

  same-one : (tale : Tale) (entry : JournalEntry) → (entry.caller == k) ≡ false → IsSameBy tale (told_one tale entry)
  same-one tale entry other = record {
    begun = ap (map (λ (one : Begun). one.start))
        (filter-front (λ (one : Begun). one.by == k) tale.begun
        (begun_by (seeded tale entry) entry.caller entry.event)
        (begun-no (seeded tale entry) entry.caller entry.event other));
    settled = ap (map (λ (one : Settled). one.hand))
        (filter-front (λ (one : Settled). one.by == k) tale.settled
        (settled_by (seeded tale entry) entry.caller entry.event entry.acts)
        (settled-no (seeded tale entry) entry.caller entry.event entry.acts other));
  }

  same-from : (tale : Tale) (others : List JournalEntry) → entries_by journal_caller k others ≡ []
      → IsSameBy tale (fold told_one tale others)
  same-from tale [] none = record { begun = refl; settled = refl }
  same-from tale (entry ∷ others) none =
      step (entry.caller == k) refl none (same-from (told_one tale entry) others)
    where
      step : (mine : Bool) → (entry.caller == k) ≡ mine
          → cond mine (entry ∷ entries_by journal_caller k others) (entries_by journal_caller k others) ≡ []
          → (entries_by journal_caller k others ≡ []
          → IsSameBy (told_one tale entry) (fold told_one (told_one tale entry) others))
          → IsSameBy tale (fold told_one (told_one tale entry) others)
      step true is none further = absurd cc
      step false is none further =
          let here = same-one tale entry is in let there = further none in
          record { begun = there.begun ∙ here.begun; settled = there.settled ∙ here.settled }

  -- Entries of others leave what this caller began and settled.
  pub same-by : (before others : List JournalEntry) → entries_by journal_caller k others ≡ []
      → IsSameBy (tale_of before) (tale_of (before ++ others))
  same-by before others none =
      let is = tale_append before others in let same = same-from (tale_of before) others none in
      record {
        begun = ap (starts_begun k) is ∙ same.begun;
        settled = ap (hands_settled k) is ∙ same.settled;
      }

  -- A caller with no entry has begun and settled nothing.
  pub none-by : (journal : List JournalEntry) → entries_by journal_caller k journal ≡ []
      → (starts_begun k (tale_of journal) ≡ []) × (hands_settled k (tale_of journal) ≡ [])
  none-by journal none =
      let is = tale_from journal in let same = same-from first_tale journal none in
      (ap (starts_begun k) is ∙ same.begun, ap (hands_settled k) is ∙ same.settled)
