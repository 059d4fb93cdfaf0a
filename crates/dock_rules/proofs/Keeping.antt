-- A hand that is out with a caller stays so while others add to the journal.
use Rattle.std.proofs.Common.{◌≡◌, ◌∙◌, refl, sym, ap, subst, ℕ, ◌+◌, ◌<◌, Bool, true, false, List, [], ◌∷◌, ◌++◌, fold, map, length, arith}
use Rattle.std.specs.Prelude.{◌==◌, if◌then◌else◌, filter, is_some, slice_set, Option, Some, None, option_map}
use Rattle.std.specs.Option.{option_map_or, ForSome}
use Rattle.std.proofs.lemmas.Bool.{and_parts, eqb-true}
use Rattle.std.proofs.lemmas.Bool.Decides.{nat_tests}
use Rattle.std.proofs.lemmas.List.{get_or-set_same, get_or-set_other}
use Rattle.std.proofs.lemmas.Option.{same_Some}
use Rattle.card_set.specs.declared.card.CardRow.{CardRow}
use Rattle.table_engine.specs.declared.start.HandStart.{HandStart}
use Rattle.table_engine.specs.declared.record.ActOf.{ActOf}
use Rattle.tournament_events.specs.declared.event.Event.{Event}
use Rattle.tournament_events.specs.declared.event.Event.TheVariants as events
use Rattle.tournament_rules.specs.Books.{BookState, start_at}
use Rattle.tournament_rules.specs.Checks.{is_playing}
use Rattle.tournament_rules.specs.Dealing.{next_start}
use Rattle.tournament_rules.specs.Effects.{begun_book, first_book, settled}
use Rattle.tournament_rules.specs.States.{State, PlayState, accepted, acts_at, answer_to, effect, is_accepted, play_effect, refusal_of, run, state_after}
use Rattle.tournament_rules.specs.Valid.{IsValidPlay, IsValidState}
use Rattle.tournament_rules.proofs.Begins.{may_begin}
use Rattle.tournament_rules.proofs.Entries.{start_none}
use Rattle.tournament_rules.proofs.Fitting.{other_number}
use Rattle.tournament_rules.proofs.Going.{goes_on}
use Rattle.tournament_rules.proofs.Passed.{go_late, passed-parts, plan_late}
use Rattle.tournament_rules.proofs.Steps.{accepted_none, valid_events, valid_run}
use Rattle.level_plan.specs.Drafts.{Draft, plan_of}
use Rattle.view_rules.specs.declared.entries.JournalEntry.{JournalEntry}
use Rattle.dock_rules.specs.Journals.{Has, Tale, act_event, acts_before, book_of, events_of, expand, holder_after, is_brought_back, journal_caller, may_come, seeded, tale_of, told_next, told_one}
use Rattle.dock_rules.specs.Kept.{at_rest}
use Rattle.dock_rules.proofs.JournalTales.{accepted-append, legal-before, run-append, state-told, tale_append}
use Rattle.dock_rules.proofs.Coming.{accepted-in_play, answer-in_play, book-kept, push-seeded}

-- the book of a state, if its plan is whole
abbrev pub book_in : State → Option BookState
book_in state = option_map (λ play. play.book) state.play

-- An act changes no book.
effect-keeps : (draft : Draft) (play : Option PlayState) (count table : ℕ) (act : ActOf) (timed : Bool)
    → book_in (effect (record { draft = draft; play = play; accepted = count })
    (if timed then events.Time table else events.Act table act.name act.act))
    ≡ option_map (λ play. play.book) play
effect-keeps draft None count table act true = refl
effect-keeps draft None count table act false = refl
effect-keeps draft (Some play) count table act true = refl
effect-keeps draft (Some play) count table act false = refl

act-keeps : (state : State) (table : ℕ) (act : ActOf) → book_in (state_after state (act_event table act)) ≡ book_in state
act-keeps state table act = by_taken (is_accepted (answer_to state (act_event table act)))
  where
    by_taken : (taken : Bool)
        → book_in (if taken then accepted state (act_event table act) else state) ≡ book_in state
    by_taken true = effect-keeps state.draft state.play state.accepted table act act.by_time
    by_taken false = refl

acts-keep : (state : State) (table : ℕ) (acts : List ActOf)
    → book_in (run state (map (act_event table) acts)) ≡ book_in state
acts-keep state table [] = refl
acts-keep state table (act ∷ acts) =
    acts-keep (state_after state (act_event table act)) table acts ∙ act-keeps state table act

-- The acts before an event change no book.
before-keeps : (state : State) (event : Event) (acts : List ActOf)
    → book_in (run state (acts_before event acts)) ≡ book_in state
before-keeps state (events.Settle table) acts = acts-keep state table acts
before-keeps state event acts = refl

same_number : (one other : ℕ) → one ≡ other → (one == other) ≡ true
same_number one other same = grind (arith, nat_tests)

module _ (k : ℕ) (start : HandStart) where
  -- An event of another caller leaves out what was out, and with whom.
  event-keeps : (tale : Tale) (play : PlayState) (caller : ℕ) (event : Event) → IsValidPlay play
      → refusal_of play event ≡ None → (caller == k) ≡ false → is_brought_back tale caller event ≡ true
      → start_at play.book.started start.table ≡ Some start → tale.holder start.table ≡ k
      → (play_effect play event).book.stopped ≡ false
      → (start_at (play_effect play event).book.started start.table ≡ Some start)
      × (holder_after tale caller event start.table ≡ k)
  event-keeps tale play caller (events.Plan line) valid free other back is holds going =
      absurd (plan_late play.book line (passed-parts play (events.Plan line) free).0)
  event-keeps tale play caller events.Go valid free other back is holds going =
      absurd (go_late play.book (passed-parts play events.Go free).0)
  event-keeps tale play caller (events.Begin table row) valid free other back is holds going =
      by_table (start.table == table) refl
    where
      rests : is_playing play.book table ≡ false
      rests = (may_begin play.book table row (passed-parts play (events.Begin table row) free).0).rests

      by_table : (same : Bool) → (start.table == table) ≡ same
          → (start_at (slice_set play.book.started table (Some (next_start play.book table row.cards))) start.table
          ≡ Some start) × ((if same then caller else tale.holder start.table) ≡ k)
      by_table true same =
          let here = subst (λ (number : ℕ). start_at play.book.started number ≡ Some start)
          (eqb-true start.table table same) is in
          let plays = valid.book.tables.playing table ∙ ap is_some here in
          let never : false ≡ true = sym rests ∙ plays in
          absurd cc
      by_table false apart = (
        get_or-set_other play.book.started table start.table
            (Some (next_start play.book table row.cards)) None (λ one. other_number start.table table apart (sym one)) ∙ is,
        holds,
      )
  event-keeps tale play caller (events.Settle table) valid free other back is holds going =
      by_table (start.table == table) refl
    where
      by_start : (start.table == table) ≡ false → (found : Option HandStart)
          → start_at play.book.started table ≡ found
          → start_at (option_map_or (settled play.book)
          (option_map (λ start. record { start = start; acts = acts_at play.acts table }) found) play.book).started
          start.table ≡ Some start
      by_start apart None none = is
      by_start apart (Some there) found =
          let here : there.table ≡ table = (valid.book.hands.starts table there found).here in
          get_or-set_other play.book.started there.table start.table None None
          (λ one. other_number start.table table apart (sym (one ∙ here))) ∙ is

      by_table : (same : Bool) → (start.table == table) ≡ same
          → (start_at (play_effect play (events.Settle table)).book.started start.table ≡ Some start)
          × (tale.holder start.table ≡ k)
      by_table true same =
          let mine : tale.holder table ≡ k = ap tale.holder (sym (eqb-true start.table table same)) ∙ holds in
          let his : tale.holder table ≡ caller = eqb-true (tale.holder table) caller back in
          let one : caller ≡ k = sym his ∙ mine in
          absurd (let never : true ≡ false = sym (same_number caller k one) ∙ other in cc)
      by_table false apart = (by_start apart (start_at play.book.started table) refl, holds)
  event-keeps tale play caller events.Stop valid free other back is holds going = absurd cc
  event-keeps tale play caller event valid free other back is holds going = (is, holds)

  -- A book before which nothing stands has no hand out.
  nobody-before : (tale : Tale) → tale.state.play ≡ None → Has k start tale → ⊥
  nobody-before tale none has =
      let first : BookState = first_book (plan_of tale.state.draft) in
      let book : book_of tale ≡ first =
      ap (λ (found : Option PlayState). option_map_or (λ play. play.book) found first) none in
      let out = (has (ap (λ (book : BookState). book.stopped) book)).0 in
      let never : None ≡ Some start =
      sym (ap (λ (book : BookState). start_at book.started start.table) book
      ∙ start_none (first.plan.tables + 1) start.table) ∙ out in
      absurd cc

  has-step : (tale : Tale) (entry : JournalEntry) → IsValidState tale.state → may_come tale entry ≡ true
      → (entry.caller == k) ≡ false → Has k start tale → Has k start (told_next tale entry)
  has-step tale entry valid may other has =
      let front : List Event = acts_before entry.event entry.acts in
      let mid : State = run tale.state front in
      let parts = and_parts _ _ may in
      let later = and_parts _ _ parts.1 in
      let taken = and_parts _ _ (sym (accepted-append tale.state front (entry.event ∷ [])) ∙ parts.0) in
      let taken_last = (and_parts (is_accepted (answer_to mid entry.event)) true taken.1).0 in
      by_play mid.play refl (before-keeps tale.state entry.event entry.acts) (valid_run tale.state front valid).play
      taken_last (run-append tale.state front (entry.event ∷ [])) later.1
    where
      by_play : (found : Option PlayState)
          → (run tale.state (acts_before entry.event entry.acts)).play ≡ found
          → option_map (λ (play : PlayState). play.book) (run tale.state (acts_before entry.event entry.acts)).play
          ≡ book_in tale.state
          → ForSome (run tale.state (acts_before entry.event entry.acts)).play IsValidPlay
          → is_accepted (answer_to (run tale.state (acts_before entry.event entry.acts)) entry.event) ≡ true
          → run tale.state (events_of entry)
          ≡ state_after (run tale.state (acts_before entry.event entry.acts)) entry.event
          → is_brought_back tale entry.caller entry.event ≡ true
          → Has k start (told_next tale entry)
      by_play None is same valid_play taken final back =
          λ going. absurd (nobody-before tale
          (no_play tale.state.play (sym same ∙ ap (option_map (λ (play : PlayState). play.book)) is)) has)
        where
          no_play : (play : Option PlayState) → option_map (λ (play : PlayState). play.book) play ≡ None → play ≡ None
          no_play None none = refl
          no_play (Some play) none = absurd cc
      by_play (Some play) is same valid_play taken final back = λ going.
          let mid : State = run tale.state (acts_before entry.event entry.acts) in
          let free = accepted_none (refusal_of play entry.event)
          (sym (ap is_accepted (answer-in_play mid play entry.event is)) ∙ taken) in
          let accept = accepted-in_play mid play entry.event is free in
          let after : book_of (told_next tale entry) ≡ (play_effect play entry.event).book =
          ap (λ (state : State). option_map_or (λ (play : PlayState). play.book) state.play
          (first_book (plan_of state.draft))) final
          ∙ ap (λ (found : Option PlayState). option_map_or (λ (play : PlayState). play.book) found
          (first_book (plan_of (state_after mid entry.event).draft))) accept.play_is in
          let before : book_of tale ≡ play.book =
          book_is tale.state.play play.book (sym same ∙ ap (option_map (λ (play : PlayState). play.book)) is) in
          let goes : (book_of tale).stopped ≡ false =
          ap (λ (book : BookState). book.stopped) before
          ∙ goes_on play.book entry.event (passed-parts play entry.event free).0 in
          let held = has goes in
          let kept = event-keeps tale play entry.caller entry.event (valid_play play is) free other back
          (sym (ap (λ (book : BookState). start_at book.started start.table) before) ∙ held.0) held.1
          (sym (ap (λ (book : BookState). book.stopped) after) ∙ going) in
          (ap (λ (book : BookState). start_at book.started start.table) after ∙ kept.0, kept.1)
        where
          book_is : (found : Option PlayState) (book : BookState)
              → option_map (λ (play : PlayState). play.book) found ≡ Some book
              → option_map_or (λ (play : PlayState). play.book) found (first_book (plan_of tale.state.draft)) ≡ book
          book_is None book is = absurd cc
          book_is (Some play) book is = same_Some play.book book is

  has-from : (tale : Tale) (others : List JournalEntry) → IsValidState tale.state
      → (fold told_one tale others).legal ≡ true → filter (λ entry. journal_caller entry == k) others ≡ [] → Has k start tale
      → Has k start (fold told_one tale others)
  has-from tale [] valid legal none has = has
  has-from tale (entry ∷ entries) valid legal none has =
      let may = (and_parts tale.legal (may_come (seeded tale entry) entry)
      (legal-before (told_one tale entry) entries legal)).1 in
      by_caller (entry.caller == k) refl none
      (λ other rest. has-from (told_one tale entry) entries (valid_run tale.state (events_of entry) valid) legal rest
      (has-step (seeded tale entry) entry valid may other has))
    where
      by_caller : (mine : Bool) → (entry.caller == k) ≡ mine
          → (if mine then entry ∷ filter (λ entry. journal_caller entry == k) entries
          else filter (λ entry. journal_caller entry == k) entries) ≡ []
          → ((entry.caller == k) ≡ false → filter (λ entry. journal_caller entry == k) entries ≡ []
          → Has k start (fold told_one (told_one tale entry) entries))
          → Has k start (fold told_one (told_one tale entry) entries)
      by_caller true same none later = absurd cc
      by_caller false other none later = later other none

  -- What is out with a caller stays so while others add to a journal.
  pub has-kept : (before others : List JournalEntry) → (tale_of (before ++ others)).legal ≡ true
      → filter (λ entry. journal_caller entry == k) others ≡ [] → Has k start (tale_of before)
      → Has k start (tale_of (before ++ others))
  has-kept before others legal none has =
      let is = tale_append before others in
      let valid = subst IsValidState (sym (state-told before)) (valid_events (expand before)) in
      subst (Has k start) (sym is)
      (has-from (tale_of before) others valid (sym (ap (λ (tale : Tale). tale.legal) is) ∙ legal) none has)

-- A hand that begins is out with who began it.
pub has-begun : (journal : List JournalEntry) (entry : JournalEntry) (book : BookState) (table : ℕ) (row : CardRow)
    → entry.seed ≡ (tale_of journal).seed → entry.event ≡ events.Begin table row
    → (tale_of (journal ++ entry ∷ [])).state.play ≡ Some (at_rest (begun_book book table row.cards))
    → table < length book.started
    → Has entry.caller (next_start book table row.cards) (tale_of (journal ++ entry ∷ []))
has-begun journal entry book table row same is come within = λ going.
    let after : BookState = begun_book book table row.cards in
    let book_is = book-kept (tale_of (journal ++ entry ∷ [])) after come in
    let told = ap (λ (tale : Tale). tale.holder table) (push-seeded journal entry same) in
    let holder : holder_after (tale_of journal) entry.caller entry.event table ≡ entry.caller =
    ap (λ (event : Event). holder_after (tale_of journal) entry.caller event table) is
    ∙ ap (λ (here : Bool). if here then entry.caller else (tale_of journal).holder table) (same_number table table refl) in (
      ap (λ (book : BookState). start_at book.started table) book_is
          ∙ get_or-set_same book.started table (Some (next_start book table row.cards)) None within,
      told ∙ holder,
    )
