-- What the worker's own entries do to the tie between its hands and its table.
use Rattle.std.proofs.Common.{◌≡◌, ◌∙◌, refl, sym, ap, subst, ℕ, ◌+◌, ◌≤◌, Bool, true, false, List, [], ◌∷◌, ◌++◌, filter, length, map, take, append-nil, length-append, arith}
use Rattle.std.specs.Prelude.{◌==◌, Option, None, Some, is_some, option_map, option_to_list}
use Rattle.std.proofs.Math.Seq.{take-append_seam}
use Rattle.std.proofs.lemmas.List.{map-append}
use Rattle.std.proofs.lemmas.List.Elements.{filter-append}
use Rattle.std.proofs.lemmas.Option.{same_Some}
use Rattle.card_set.specs.declared.card.CardRow.{CardRow}
use Rattle.table_engine.specs.declared.start.HandStart.{HandStart}
use Rattle.table_engine.specs.Hands.{HandTerms}
use Rattle.tournament_events.specs.declared.event.Event.{Event}
use Rattle.tournament_events.specs.declared.event.Event.TheVariants as events
use Rattle.tournament_rules.specs.Dealing.{next_start}
use Rattle.history_lock.specs.Entries.{IsGrownByOthers}
use Rattle.view_rules.specs.declared.entries.JournalEntry.{JournalEntry}
use Rattle.view_rules.specs.declared.entries.TableEntry.{TableEntry}
use Rattle.view_rules.specs.declared.entries.TableEntry.TheVariants.{Closed, Opened}
use Rattle.view_rules.specs.Entries.{begun}
use Rattle.dock_rules.specs.Tables.{lying_hand, openings}
use Rattle.dock_rules.specs.Journals.{Begun, Has, Settled, Tale, begun_by, book_of, entry_told, hand_out, journal_caller, settled_by, tale_of, told_next}
use Rattle.dock_rules.specs.Points.{order_owed}
use Rattle.dock_rules.proofs.Coming.{push-seeded}
use Rattle.dock_rules.proofs.Tables.{lying-push}
use Rattle.table_worker.specs.Ties.{IsBrought, IsCarried, IsOut, IsTied, hands_closed, hands_settled, starts_begun, work_owed}
use Rattle.table_worker.proofs.Hands.{acts-closed, acts-opened, closed-opened, closed-push, openings-closed, openings-opened}
use Rattle.table_worker.proofs.Owed.{IsMove, owed-move}
use Rattle.table_worker.proofs.Splits.{same-number, work-push}
use Rattle.whole_laws.proofs.Stopping.{ended-stopped, none-behind_stop}

-- no hand is there where none is
pub nothing : (found : Option HandTerms) → is_some found ≡ false → found ≡ None
nothing None none = refl
nothing (Some hand) none = absurd cc

-- One item more that passes.
filter-push : {A : Type 0} (test : A → Bool) (items : List A) (item : A) → test item ≡ true
    → filter test (items ++ item ∷ []) ≡ filter test items ++ item ∷ []
filter-push test items item passes = rw (filter-append test items (item ∷ []), passes) refl

-- A list begins a longer one.
begins-longer : {A : Type 0} (front back whole : List A) → whole ≡ front ++ back
    → front ≡ take (length front) whole
begins-longer front back whole is = sym (take-append_seam front back) ∙ ap (take (length front)) (sym is)

module _ (k table : ℕ) where
  -- The worker began a hand.
  pub tied-begun : (at : List JournalEntry) (history : List TableEntry) (row : CardRow)
      → Has k (next_start (book_of (tale_of at)) table row.cards)
      (tale_of (at ++ entry_told (tale_of at) k (events.Begin table row) [] ∷ []))
      → IsTied k table at history None false
      → IsTied k table (at ++ entry_told (tale_of at) k (events.Begin table row) [] ∷ []) history
      (Some (begun (next_start (book_of (tale_of at)) table row.cards))) false
  tied-begun at history row has tied =
      let tale : Tale = tale_of at in
      let entry : JournalEntry = entry_told tale k (events.Begin table row) [] in
      let start : HandStart = next_start (book_of tale) table row.cards in
      let one : Begun = record { by = k; start = start } in
      let is : tale_of (at ++ entry ∷ []) ≡ told_next tale entry = push-seeded at entry refl in
      record {
        settled = ap (hands_settled k) is
            ∙ (ap (λ (all : List Settled). map (λ (one : Settled). one.hand)
            (filter (λ (one : Settled). one.by == k) all)) (append-nil tale.settled) ∙ tied.settled);
        begun = ap (starts_begun k) is
            ∙ (ap (map (λ (one : Begun). one.start))
            (filter-push (λ (one : Begun). one.by == k) tale.begun one (same-number k k refl))
            ∙ (map-append (λ (one : Begun). one.start) (filter (λ (one : Begun). one.by == k) tale.begun) (one ∷ [])
            ∙ ap (λ (starts : List HandStart). starts ++ start ∷ []) (tied.begun ∙ append-nil (openings history))));
        lies = tied.lies;
        lying = λ hand found. absurd
            (let never : true ≡ false = sym (ap is_some found) ∙ tied.lies in cc);
        brought = λ hand found. subst (IsCarried k table (tale_of (at ++ entry ∷ [])))
            (same_Some (begun start) hand found)
            (record { fresh = refl; out = record { here = refl; has = has } });
        work = work-push k table at entry refl tied.work;
        no_acts = tied.no_acts;
      }

  -- The hand that was begun is opened at the table.
  pub tied-opened : (journal : List JournalEntry) (at : List TableEntry) (hand : HandTerms)
      → IsTied k table journal at (Some hand) false
      → IsTied k table journal (at ++ Opened hand.start ∷ []) None true
  tied-opened journal at hand tied =
      let lies = lying-push at (Opened hand.start) in
      record {
        settled = tied.settled ∙ sym (closed-opened at hand.start);
        begun = tied.begun
            ∙ (sym (openings-opened at hand.start) ∙ sym (append-nil (openings (at ++ Opened hand.start ∷ []))));
        lies = ap is_some lies;
        lying = λ found is. subst (λ (there : HandTerms). IsOut k table there.start (tale_of journal))
            (same_Some (begun hand.start) found (sym lies ∙ is)) (tied.brought hand refl).out;
        brought = λ found is. absurd cc;
        work = tied.work;
        no_acts = acts-opened at hand.start ∙ tied.no_acts;
      }

  -- The hand that lay there is closed and settled, with the acts that were made in it.
  pub tied-settled : (journal : List JournalEntry) (at : List TableEntry) (hand : HandTerms)
      → lying_hand at ≡ Some hand → (tale_of journal).legal ≡ true → (tale_of journal).ended ≡ false
      → IsTied k table journal at None true
      → IsTied k table
      (journal ++ entry_told (tale_of journal) k (events.Settle hand.start.table) hand.acts ∷ [])
      (at ++ Closed ∷ []) None false
  tied-settled journal at hand lies legal going tied =
      let tale : Tale = tale_of journal in
      let entry : JournalEntry = entry_told tale k (events.Settle hand.start.table) hand.acts in
      let out = tied.lying hand lies in
      let held = out.has (sym (ended-stopped journal legal) ∙ going) in
      let there : hand_out tale hand.start.table hand.acts ≡ Some hand =
      ap (option_map (λ (start : HandStart). record { start = start; acts = hand.acts })) held.0 in
      let one : Settled = record { by = k; hand = hand } in
      let is : tale_of (journal ++ entry ∷ []) ≡ told_next tale entry = push-seeded journal entry refl in
      let gone = lying-push at Closed in
      record {
        settled = ap (hands_settled k) is
            ∙ (ap (λ (found : Option HandTerms). map (λ (one : Settled). one.hand)
            (filter (λ (one : Settled). one.by == k) (tale.settled ++ option_to_list
            (option_map (λ (hand : HandTerms). record { by = k; hand = hand }) found)))) there
            ∙ (ap (map (λ (one : Settled). one.hand))
            (filter-push (λ (one : Settled). one.by == k) tale.settled one (same-number k k refl))
            ∙ (map-append (λ (one : Settled). one.hand) (filter (λ (one : Settled). one.by == k) tale.settled)
            (one ∷ [])
            ∙ (ap (λ (hands : List HandTerms). hands ++ hand ∷ []) tied.settled ∙ sym (closed-push at hand lies)))));
        begun = ap (starts_begun k) is
            ∙ (ap (λ (all : List Begun). map (λ (one : Begun). one.start) (filter (λ (one : Begun). one.by == k) all))
            (append-nil tale.begun)
            ∙ (tied.begun ∙ ap (λ (starts : List HandStart). starts ++ []) (sym (openings-closed at))));
        lies = ap is_some gone;
        lying = λ found is. absurd (let never : None ≡ Some found = sym gone ∙ is in cc);
        brought = λ found is. absurd cc;
        work = work-push k table journal entry
            (ap (λ (here : ℕ). Some (events.Settle here)) (sym out.here)) tied.work;
        no_acts = acts-closed at ∙ tied.no_acts;
      }

  -- what an order begins and settles: nothing
  none-begun : (tale : Tale) (order : Event) → IsMove order → begun_by tale k order ≡ []
  none-begun tale (events.Balance from to) move = refl
  none-begun tale (events.Break table places names) move = refl
  none-begun tale event move = absurd move

  none-settled : (tale : Tale) (order : Event) → IsMove order → settled_by tale k order [] ≡ []
  none-settled tale (events.Balance from to) move = refl
  none-settled tale (events.Break table places names) move = refl
  none-settled tale event move = absurd move

  is-owed : (tale : Tale) (order : Event) → IsMove order → order_owed tale ≡ Some order
      → work_owed table tale order ≡ Some order
  is-owed tale (events.Balance from to) move owed = owed
  is-owed tale (events.Break table places names) move owed = owed
  is-owed tale event move owed = absurd move

  -- The order that was owed was carried out.
  pub tied-ordered : (at : List JournalEntry) (history : List TableEntry) (order : Event)
      → order_owed (tale_of at) ≡ Some order → IsTied k table at history None false
      → IsTied k table (at ++ entry_told (tale_of at) k order [] ∷ []) history None false
  tied-ordered at history order owed tied =
      let tale : Tale = tale_of at in
      let entry : JournalEntry = entry_told tale k order [] in
      let move = owed-move tale order owed in
      let is : tale_of (at ++ entry ∷ []) ≡ told_next tale entry = push-seeded at entry refl in
      record {
        settled = ap (hands_settled k) is
            ∙ (ap (λ (more : List Settled). map (λ (one : Settled). one.hand)
            (filter (λ (one : Settled). one.by == k) (tale.settled ++ more))) (none-settled tale order move)
            ∙ (ap (λ (all : List Settled). map (λ (one : Settled). one.hand)
            (filter (λ (one : Settled). one.by == k) all)) (append-nil tale.settled) ∙ tied.settled));
        begun = ap (starts_begun k) is
            ∙ (ap (λ (more : List Begun). map (λ (one : Begun). one.start)
            (filter (λ (one : Begun). one.by == k) (tale.begun ++ more))) (none-begun tale order move)
            ∙ (ap (λ (all : List Begun). map (λ (one : Begun). one.start)
            (filter (λ (one : Begun). one.by == k) all)) (append-nil tale.begun) ∙ tied.begun));
        lies = tied.lies;
        lying = λ hand found. absurd (let never : true ≡ false = sym (ap is_some found) ∙ tied.lies in cc);
        brought = λ hand found. absurd cc;
        work = work-push k table at entry (is-owed tale order move owed) tied.work;
        no_acts = tied.no_acts;
      }

  few-carried : (carried : Option HandTerms) (opened : List HandStart)
      → length (opened ++ option_to_list (option_map (λ (hand : HandTerms). hand.start) carried)) ≤ length opened + 1
  few-carried None opened = omega (arith, length-append opened [])
  few-carried (Some hand) opened = omega (arith, length-append opened (hand.start ∷ []))

  -- The tournament was stopped while no hand lay at the table.
  pub brought-free : (journal : List JournalEntry) (history : List TableEntry) (carried : Option HandTerms)
      → (tale_of journal).ended ≡ true → IsTied k table journal history carried false
      → IsBrought k table journal history
  brought-free journal history carried ended tied = record {
    stopped = ended;
    none_lies = nothing (lying_hand history) tied.lies;
    opened = begins-longer (openings history)
        (option_to_list (option_map (λ (hand : HandTerms). hand.start) carried)) (starts_begun k (tale_of journal))
        tied.begun;
    all_but_last = let all = ap length tied.begun in let few = few-carried carried (openings history) in
        omega (arith, all, few);
    settled = begins-longer (hands_settled k (tale_of journal)) [] (hands_closed history)
        (sym tied.settled ∙ sym (append-nil (hands_settled k (tale_of journal))));
    work = tied.work;
    no_acts = tied.no_acts;
  }

  -- The tournament was stopped while a hand lay there, which was then taken away.
  pub brought-closed : (journal : List JournalEntry) (at : List TableEntry) (hand : HandTerms)
      → lying_hand at ≡ Some hand → (tale_of journal).ended ≡ true → IsTied k table journal at None true
      → IsBrought k table journal (at ++ Closed ∷ [])
  brought-closed journal at hand lies ended tied =
      let whole : starts_begun k (tale_of journal) ≡ openings (at ++ Closed ∷ []) ++ [] =
      tied.begun ∙ ap (λ (starts : List HandStart). starts ++ []) (sym (openings-closed at)) in
      record {
        stopped = ended;
        none_lies = lying-push at Closed;
        opened = begins-longer (openings (at ++ Closed ∷ [])) [] (starts_begun k (tale_of journal)) whole;
        all_but_last = let all = ap length whole in let few = few-carried None (openings (at ++ Closed ∷ [])) in
            omega (arith, all, few);
        settled = begins-longer (hands_settled k (tale_of journal)) (hand ∷ []) (hands_closed (at ++ Closed ∷ []))
            (closed-push at hand lies ∙ ap (λ (hands : List HandTerms). hands ++ hand ∷ []) (sym tied.settled));
        work = tied.work;
        no_acts = acts-closed at ∙ tied.no_acts;
      }

  -- Nobody adds to the journal of a worker who is done.
  pub brought-journal : (before at : List JournalEntry) (history : List TableEntry)
      → IsGrownByOthers journal_caller k before at → (tale_of at).legal ≡ true
      → IsBrought k table before history → IsBrought k table at history
  brought-journal before at history grown legal brought =
      let none = none-behind_stop before grown.0
      (sym (ap (λ (journal : List JournalEntry). (tale_of journal).legal) grown.1) ∙ legal) brought.stopped in
      let same : at ≡ before = grown.1 ∙ (ap (λ (more : List JournalEntry). before ++ more) none ∙ append-nil before) in
      subst (λ (journal : List JournalEntry). IsBrought k table journal history) (sym same) brought
