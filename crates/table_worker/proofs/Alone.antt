-- A table where one caller alone has hands: what the caller began and settled is what began and was settled there.
use Rattle.std.proofs.Common.{◌≡◌, ◌∙◌, refl, sym, ap, subst, ℕ, ◌+◌, ◌==◌, Bool, true, false, List, [], ◌∷◌, ◌++◌, filter, append-nil, append_assoc}
use Rattle.std.specs.Prelude.{if◌then◌else◌, Option, None, Some, option_map, option_to_list}
use Rattle.std.proofs.lemmas.Bool.{eqb-true}
use Rattle.std.proofs.lemmas.List.Elements.{filter-append}
use Rattle.level_plan.specs.Drafts.{plan_of}
use Rattle.table_engine.specs.declared.start.HandStart.{HandStart}
use Rattle.table_engine.specs.declared.record.ActOf.{ActOf}
use Rattle.tournament_events.specs.declared.event.Event.{Event}
use Rattle.tournament_events.specs.declared.event.Event.TheVariants as events
use Rattle.tournament_rules.specs.Books.{BookState, start_at}
use Rattle.tournament_rules.specs.Effects.{first_book}
use Rattle.tournament_rules.specs.States.{PlayState}
use Rattle.tournament_rules.specs.Valid.{IsValidState}
use Rattle.tournament_rules.proofs.Entries.{start_none}
use Rattle.tournament_rules.proofs.Steps.{valid_events}
use Rattle.view_rules.specs.declared.entries.JournalEntry.{JournalEntry}
use Rattle.dock_rules.specs.Journals.{Begun, Settled, Tale, begun_by, book_of, expand, seeded, settled_by, tale_of, told_one}
use Rattle.dock_rules.proofs.JournalTales.{state-told, tale_nil, tale_push}
use Rattle.table_worker.specs.Alone.{IsAlone, is_hand_at}
use Rattle.table_worker.specs.Ties.{AreWork, work_owed}
use Rattle.table_worker.proofs.Owed.{book-of}
use Rattle.table_worker.proofs.Splits.{same-number}

-- Two tests that each follow from the other are the same.
same-test : (one other : Bool) → (one ≡ true → other ≡ true) → (other ≡ true → one ≡ true) → one ≡ other
same-test true other to from = sym (to refl)
same-test false true to from = from refl
same-test false false to from = refl

-- a hand that is out at a table is one of it
out-here : (tale : Tale) (table : ℕ) (start : HandStart) → IsValidState tale.state
    → start_at (book_of tale).started table ≡ Some start → start.table ≡ table
out-here tale table start valid is = by_play tale.state.play refl
  where
    by_play : (found : Option PlayState) → tale.state.play ≡ found → start.table ≡ table
    by_play None at =
        let first : BookState = first_book (plan_of tale.state.draft) in
        let never : None ≡ Some start =
        sym (ap (λ (book : BookState). start_at book.started table) (book-of tale None at)
        ∙ start_none (first.plan.tables + 1) table) ∙ is in
        absurd cc
    by_play (Some play) at =
        (((valid.play play at).book).hands.starts table start
        (sym (ap (λ (book : BookState). start_at book.started table) (book-of tale (Some play) at)) ∙ is)).here

-- A hand of a worker's work is one of its table.
pub here-of : (table : ℕ) (tale : Tale) (event : Event) → work_owed table tale event ≡ Some event → (other : ℕ)
    → is_hand_at other event ≡ true → other ≡ table
here-of table tale (events.Begin there row) is other at =
    let same : table ≡ there = cc in sym (eqb-true there other at) ∙ sym same
here-of table tale (events.Settle there) is other at =
    let same : table ≡ there = cc in sym (eqb-true there other at) ∙ sym same
here-of table tale event is other at = absurd cc

module _ (caller table : ℕ) where
  -- What is so of the caller and the event of an entry, where this caller alone has hands at the table and none
  -- elsewhere.
  record IsOneOf (by_ : ℕ) (event : Event) : Type 0 where
    theirs : is_hand_at table event ≡ true → by_ ≡ caller
    here : by_ ≡ caller → (other : ℕ) → is_hand_at other event ≡ true → other ≡ table

  module _ (by_ other : ℕ) (theirs : (other == table) ≡ true → by_ ≡ caller)
      (here : by_ ≡ caller → (there : ℕ) → (other == there) ≡ true → there ≡ table) where
    alike : (other == table) ≡ (by_ == caller)
    alike =
        same-test (other == table) (by_ == caller) (λ yes. same-number by_ caller (theirs yes))
        (λ yes. same-number other table (here (eqb-true by_ caller yes) other (same-number other other refl)))

  begun-alike : (tale : Tale) (by_ : ℕ) (event : Event) → IsOneOf by_ event
      → filter (λ (one : Begun). one.start.table == table) (begun_by tale by_ event)
      ≡ filter (λ (one : Begun). one.by == caller) (begun_by tale by_ event)
  begun-alike tale by_ (events.Begin other row) is =
      ap (λ (b : Bool). if b then begun_by tale by_ (events.Begin other row) else [])
      (alike by_ other is.theirs is.here)
  begun-alike tale by_ event is = refl

  -- the hand of a start, as a caller settles it with these acts
  abbrev settled_from : ℕ → List ActOf → Option HandStart → List Settled
  settled_from by_ acts found =
      option_to_list (option_map (λ hand. record { by = by_; hand = hand })
      (option_map (λ start. record { start = start; acts = acts }) found))

  settled-alike : (tale : Tale) (by_ : ℕ) (event : Event) (acts : List ActOf) → IsValidState tale.state
      → IsOneOf by_ event
      → filter (λ (one : Settled). one.hand.start.table == table) (settled_by tale by_ event acts)
      ≡ filter (λ (one : Settled). one.by == caller) (settled_by tale by_ event acts)
  settled-alike tale by_ (events.Settle other) acts valid is = by_start (start_at (book_of tale).started other) refl
    where
      by_start : (found : Option HandStart) → start_at (book_of tale).started other ≡ found
          → filter (λ (one : Settled). one.hand.start.table == table) (settled_from by_ acts found)
          ≡ filter (λ (one : Settled). one.by == caller) (settled_from by_ acts found)
      by_start None at = refl
      by_start (Some start) at =
          let one : Settled = record { by = by_; hand = record { start = start; acts = acts } } in
          let test : (start.table == table) ≡ (by_ == caller) =
          ap (λ (there : ℕ). there == table) (out-here tale other start valid at)
          ∙ alike by_ other is.theirs is.here in
          ap (λ (b : Bool). if b then one ∷ [] else []) test
  settled-alike tale by_ event acts valid is = refl

  -- What began and was settled at the table is what the caller began and settled
  pub record AreSameHands (tale : Tale) : Type 0 where
    pub begun : filter (λ (one : Begun). one.start.table == table) tale.begun
        ≡ filter (λ (one : Begun). one.by == caller) tale.begun
    pub settled : filter (λ (one : Settled). one.hand.start.table == table) tale.settled
        ≡ filter (λ (one : Settled). one.by == caller) tale.settled

  same-next : (tale : Tale) (entry : JournalEntry) → IsValidState tale.state → IsOneOf entry.caller entry.event
      → AreSameHands tale → AreSameHands (told_one tale entry)
  same-next tale entry valid one same =
      let seeds : Tale = seeded tale entry in
      record {
        begun = filter-append (λ (one : Begun). one.start.table == table) tale.begun
            (begun_by seeds entry.caller entry.event)
            ∙ ((λ i. same.begun i ++ begun-alike seeds entry.caller entry.event one i)
            ∙ sym (filter-append (λ (one : Begun). one.by == caller) tale.begun
            (begun_by seeds entry.caller entry.event)));
        settled = filter-append (λ (one : Settled). one.hand.start.table == table) tale.settled
            (settled_by seeds entry.caller entry.event entry.acts)
            ∙ ((λ i. same.settled i ++ settled-alike seeds entry.caller entry.event entry.acts valid one i)
            ∙ sym (filter-append (λ (one : Settled). one.by == caller) tale.settled
            (settled_by seeds entry.caller entry.event entry.acts)));
      }

  valid-told : (journal : List JournalEntry) → IsValidState (tale_of journal).state
  valid-told journal = subst IsValidState (sym (state-told journal)) (valid_events (expand journal))

  module _ (journal : List JournalEntry) (alone : IsAlone caller table journal)
      (work : AreWork caller table journal) where
    same-from : (front rest : List JournalEntry) → journal ≡ front ++ rest → AreSameHands (tale_of front)
        → AreSameHands (tale_of journal)
    same-from front [] is same =
        subst (λ (list : List JournalEntry). AreSameHands (tale_of list)) (sym (is ∙ append-nil front)) same
    same-from front (entry ∷ rest) is same =
        same-from (front ++ entry ∷ []) rest (is ∙ sym (append_assoc front (entry ∷ []) rest))
        (subst AreSameHands (sym (tale_push front entry))
        (same-next (tale_of front) entry (valid-told front)
        (record {
          theirs = alone front rest entry is;
          here = λ mine. here-of table (tale_of front) entry.event (work front rest entry is mine);
        }) same))

    -- What the caller began and settled is what began and was settled at the table.
    pub same-hands : AreSameHands (tale_of journal)
    same-hands = same-from [] journal refl (subst AreSameHands (sym tale_nil) (record { begun = refl; settled = refl }))
