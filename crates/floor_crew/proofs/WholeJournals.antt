-- The journal of a tournament that was stopped is that of a whole tournament.
use Rattle.std.proofs.Common.{◌≡◌, ◌⊎◌, ◌∙◌, inl, inr, refl, sym, ap, subst, ℕ, ◌<◌, Bool, true, false, List, [], ◌∷◌, ◌++◌, fold, length, map, append-nil, length-append, arith}
use Rattle.std.specs.Prelude.{◌==◌, if◌then◌else◌}
use Rattle.std.specs.List.{AllByRecursion}
use Rattle.std.proofs.lemmas.Bool.Decides.{nat_tests}
use Rattle.std.proofs.lemmas.Grind.{flat_map-append}
use mathlib.Core.List.{IsPrefix}
use Rattle.level_plan.specs.Plans.{PlanTerms}
use Rattle.tournament_events.specs.declared.event.Event.{Event}
use Rattle.tournament_events.specs.declared.event.Event.TheVariants as events
use Rattle.floor_events.specs.Spelling.{IsWritable}
use Rattle.history_lock.specs.Entries.{IsGrownByPasses}
use Rattle.history_lock.specs.Limits.{opener}
use Rattle.view_rules.specs.declared.entries.JournalEntry.{JournalEntry}
use Rattle.plan_files.specs.PlanLines.{lines_of_plan}
use Rattle.simulation_rules.specs.Runs.{plan_events}
use Rattle.dock_rules.specs.Journals.{IsLegalJournal, Tale, acts_before, events_of, expand, first_tale, is_stop, journal_caller, plain_entry, tale_of, told_one}
use Rattle.dock_rules.proofs.JournalTales.{accepted-told, tale_from, tale_nil, tale_push}
use Rattle.whole_laws.proofs.Stopping.{none-behind_stop}
use Rattle.book_dock.specs.Opening.{opening}
use Rattle.floor_crew.specs.Tournaments.{AreLawful, IsWholeJournal}

-- no entry, or a last one
last-entry : (journal : List JournalEntry)
    → (journal ≡ []) ⊎ ((front : List JournalEntry) × (last : JournalEntry) × (journal ≡ front ++ last ∷ []))
last-entry [] = inl refl
last-entry (entry ∷ journal) =
    elim (last-entry journal) [
      | inl none ↦ inr ([], entry, ap (λ (l : List JournalEntry). entry ∷ l) none)
      | inr more ↦ inr (entry ∷ more.0, more.1, ap (λ (l : List JournalEntry). entry ∷ l) more.2)
    ]

-- the one event that is the stop
stop-is : (event : Event) → is_stop event ≡ true → event ≡ events.Stop
stop-is events.Stop is = refl
stop-is _ is = cc (is)

-- an event whose hand has no acts comes alone
no-acts : (event : Event) → acts_before event [] ≡ []
no-acts (events.Settle table) = refl
no-acts _ = refl

-- the seed is that of the first entry
seed-stays : (tale : Tale) (entries : List JournalEntry) → (tale.count == 0) ≡ false
    → (fold told_one tale entries).seed ≡ tale.seed
seed-stays tale [] counted = refl
seed-stays tale (entry ∷ entries) counted =
    let kept : (told_one tale entry).seed ≡ tale.seed =
    ap (λ (b : Bool). if b then entry.seed else tale.seed) counted in
    let more : ((told_one tale entry).count == 0) ≡ false = grind (arith, nat_tests) in
    seed-stays (told_one tale entry) entries more ∙ kept

module _ (seed : List ℕ) where
  opened-seed : (opened : List Event) (added : List JournalEntry) → 0 < length opened
      → (fold told_one first_tale (map (plain_entry opener seed) opened ++ added)).seed ≡ seed
  opened-seed [] added some = absurd (omega (arith, some))
  opened-seed (event ∷ opened) added some =
      seed-stays (told_one first_tale (plain_entry opener seed event))
      (map (plain_entry opener seed) opened ++ added) refl

  opened-events : (opened : List Event) → expand (map (plain_entry opener seed) opened) ≡ opened
  opened-events [] = refl
  opened-events (event ∷ opened) =
      let alone : events_of (plain_entry opener seed event) ≡ event ∷ [] =
      ap (λ (acts : List Event). acts ++ event ∷ []) (no-acts event) in
      let rest = opened-events opened in λ i. alone i ++ rest i

some-behind : (front : List Event) (last : Event) → 0 < length (front ++ last ∷ [])
some-behind front last = omega (arith, length-append front (last ∷ []))

-- the events of a journal that ends with the stop
stop-last : (journal : List JournalEntry) → (tale_of journal).ended ≡ true
    → (front : List Event) × (expand journal ≡ front ++ events.Stop ∷ [])
stop-last journal stopped =
    elim (last-entry journal) [
      | inl none ↦
          absurd
          (let never : false ≡ true =
          sym (ap (λ (t : Tale). t.ended) (ap tale_of none ∙ tale_nil)) ∙ stopped in cc (never))
      | inr more ↦
          let told : (tale_of journal).ended ≡ is_stop more.1.event =
          ap (λ (t : Tale). t.ended) (ap tale_of more.2 ∙ tale_push more.0 more.1) in
          let is = stop-is more.1.event (sym told ∙ stopped) in
          let alone : events_of more.1 ≡ events.Stop ∷ [] =
          ap (λ (event : Event). acts_before event more.1.acts ++ event ∷ []) is in (
            expand more.0,
            ap expand more.2
                ∙ (flat_map-append events_of more.0 (more.1 ∷ [])
                ∙ ap (λ (l : List Event). expand more.0 ++ l) (append-nil (events_of more.1) ∙ alone)),
          )
    ]

-- A legal journal that begins with one that ends with the stop is that one.
pub stopped-all : (noted journal : List JournalEntry) → IsPrefix noted journal → (tale_of journal).legal ≡ true
    → (tale_of noted).ended ≡ true → noted ≡ journal
stopped-all noted journal prefix legal ended =
    let allowed : (tale_of (noted ++ prefix.0)).legal ≡ true =
    subst (λ (l : List JournalEntry). (tale_of l).legal ≡ true) (sym prefix.1) legal in
    let none = none-behind_stop noted prefix.0 allowed ended in
    sym (append-nil noted) ∙ (ap (λ (l : List JournalEntry). noted ++ l) (sym none) ∙ prefix.1)

-- So it is the whole journal of its tournament.
pub whole-journal : (plan : PlanTerms) (seed : List ℕ) (count : ℕ) (before journal : List JournalEntry)
    → IsLegalJournal journal → IsGrownByPasses journal_caller count (opening seed plan) journal
    → IsPrefix before journal → (tale_of before).ended ≡ true → AllByRecursion IsWritable (expand journal)
    → AreLawful journal → IsWholeJournal plan seed journal
whole-journal plan seed count before journal legal grown prefix ended writable lawful =
    let same = stopped-all before journal prefix legal.allowed ended in
    let stopped : (tale_of journal).ended ≡ true =
    subst (λ (l : List JournalEntry). (tale_of l).ended ≡ true) same ended in
    let opened = plan_events plan in
    let last = stop-last journal stopped in
    record {
      legal = legal;
      seeded =
          ap (λ (t : Tale). t.seed) (tale_from journal)
          ∙ (ap (λ (l : List JournalEntry). (fold told_one first_tale l).seed) grown.1
          ∙ opened-seed seed opened grown.0 (some-behind (map events.Plan (lines_of_plan plan)) events.Go));
      lawful = lawful;
      whole = record {
        legal = accepted-told journal legal.allowed;
        writable = writable;
        opens = (
          expand grown.0,
          ap (λ (l : List Event). l ++ expand grown.0) (sym (opened-events seed opened))
              ∙ (sym (flat_map-append events_of (opening seed plan) grown.0) ∙ ap expand (sym grown.1)),
        );
        front = last.0;
        ends = last.1;
      };
    }
