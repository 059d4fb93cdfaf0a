-- What entries of others leave of the tie between a worker's hands and its table.
use Rattle.std.proofs.Common.{◌≡◌, ◌∙◌, refl, sym, ap, subst, ℕ, Bool, true, false, List, [], ◌++◌}
use Rattle.std.specs.Prelude.{Option, None, Some, is_some, option_map, option_to_list}
use Rattle.std.specs.Option.{ForSome}
use Rattle.std.proofs.lemmas.Option.{same_Some}
use Rattle.table_engine.specs.declared.start.HandStart.{HandStart}
use Rattle.table_engine.specs.Hands.{HandTerms}
use Rattle.history_lock.specs.Entries.{IsGrownByOthers, entries_by}
use Rattle.view_rules.specs.declared.entries.JournalEntry.{JournalEntry}
use Rattle.view_rules.specs.declared.entries.TableEntry.{TableEntry}
use Rattle.dock_rules.specs.Tables.{lying_hand, table_caller}
use Rattle.dock_rules.specs.Journals.{Tale, journal_caller, tale_of}
use Rattle.dock_rules.proofs.JournalTales.{legal-before, tale_append}
use Rattle.dock_rules.proofs.Keeping.{has-kept}
use Rattle.dock_rules.proofs.Tables.{lying-nil}
use Rattle.table_worker.specs.Ties.{IsOut, IsTied}
use Rattle.table_worker.proofs.Hands.{closed-nil, same-others, start_in}
use Rattle.table_worker.proofs.Others.{none-by, same-by}
use Rattle.table_worker.proofs.Splits.{work-none, work-others}

-- A journal that is legal was so before its last entries.
pub legal-at : (at added : List JournalEntry) → (tale_of (at ++ added)).legal ≡ true → (tale_of at).legal ≡ true
legal-at at added legal =
    legal-before (tale_of at) added (sym (ap (λ (tale : Tale). tale.legal) (tale_append at added)) ∙ legal)

-- whether there is a hand, by its start
some-start : (one other : Option HandTerms) → start_in one ≡ start_in other → is_some one ≡ is_some other
some-start None None same = refl
some-start None (Some other) same = absurd cc
some-start (Some one) None same = absurd cc
some-start (Some one) (Some other) same = refl

-- what is said of the start of a hand alone
for-start : (P : HandStart → Type 0) (one other : Option HandTerms) → start_in one ≡ start_in other
    → ForSome other (λ hand. P hand.start) → ForSome one (λ hand. P hand.start)
for-start P None other same holds = λ hand is. absurd cc
for-start P (Some one) None same holds = absurd cc
for-start P (Some one) (Some other) same holds = λ hand is.
    let start : other.start ≡ one.start = sym (same_Some one.start other.start same) in
    let here : one.start ≡ hand.start = ap (λ (hand : HandTerms). hand.start) (same_Some one hand is) in
    subst P (start ∙ here) (holds other refl)

module _ (k table : ℕ) where
  -- Others add to the journal.
  pub tied-journal : (before at : List JournalEntry) (history : List TableEntry) (carried : Option HandTerms)
      (there : Bool) → IsGrownByOthers journal_caller k before at → (tale_of at).legal ≡ true
      → IsTied k table before history carried there → IsTied k table at history carried there
  tied-journal before at history carried there grown legal tied =
      let others : List JournalEntry = grown.0 in
      let legal_so : (tale_of (before ++ others)).legal ≡ true =
      sym (ap (λ (journal : List JournalEntry). (tale_of journal).legal) grown.1) ∙ legal in
      let same = same-by k before others grown.2 in
      let out : (start : HandStart) → IsOut k table start (tale_of before)
      → IsOut k table start (tale_of (before ++ others)) =
      λ start out. record { here = out.here; has = has-kept k start before others legal_so grown.2 out.has } in
      subst (λ (journal : List JournalEntry). IsTied k table journal history carried there) (sym grown.1)
      (record {
        settled = same.settled ∙ tied.settled;
        begun = same.begun ∙ tied.begun;
        lies = tied.lies;
        lying = λ hand is. out hand.start (tied.lying hand is);
        brought = λ hand is.
            let was = tied.brought hand is in record { fresh = was.fresh; out = out hand.start was.out };
        work = work-others k table before others grown.2 tied.work;
        no_acts = tied.no_acts;
      })

  -- Others act at the table.
  pub tied-table : (journal : List JournalEntry) (before at : List TableEntry) (carried : Option HandTerms)
      (there : Bool) → IsGrownByOthers table_caller 0 before at
      → IsTied k table journal before carried there → IsTied k table journal at carried there
  tied-table journal before at carried there grown tied =
      let others : List TableEntry = grown.0 in
      let same = same-others before others grown.2 in
      subst (λ (history : List TableEntry). IsTied k table journal history carried there) (sym grown.1)
      (record {
        settled = tied.settled ∙ sym same.closed;
        begun = tied.begun
            ∙ ap (λ (starts : List HandStart). starts
            ++ option_to_list (option_map (λ (hand : HandTerms). hand.start) carried)) (sym same.opened);
        lies = some-start (lying_hand (before ++ others)) (lying_hand before) same.lying ∙ tied.lies;
        lying = for-start (λ start. IsOut k table start (tale_of journal)) (lying_hand (before ++ others))
            (lying_hand before) same.lying tied.lying;
        brought = tied.brought;
        work = tied.work;
        no_acts = same.acts ∙ tied.no_acts;
      })

  -- A worker of passes that have done nothing.
  pub tied-first : (journal : List JournalEntry) (history : List TableEntry)
      → entries_by journal_caller k journal ≡ [] → entries_by table_caller 0 history ≡ []
      → IsTied k table journal history None false
  tied-first journal history none idle =
      let nothing = none-by k journal none in
      let same = same-others [] history idle in
      record {
        settled = nothing.1 ∙ sym (same.closed ∙ closed-nil);
        begun = nothing.0 ∙ ap (λ (starts : List HandStart). starts ++ []) (sym same.opened);
        lies = some-start (lying_hand history) (lying_hand []) same.lying ∙ ap is_some lying-nil;
        lying = for-start (λ start. IsOut k table start (tale_of journal)) (lying_hand history) None
            (same.lying ∙ ap start_in lying-nil) (λ hand is. absurd cc);
        brought = λ hand is. absurd cc;
        work = work-none k table journal none;
        no_acts = same.acts;
      }
