-- What an entry that was allowed makes of a tournament whose plan is whole: the acts before its event leave the book,
-- and the event is taken after them.
use Rattle.std.proofs.Common.{◌≡◌, ◌∙◌, refl, sym, ap, ℕ, ◌+◌, Bool, true, false, List, [], ◌∷◌, ◌++◌, map, fold}
use Rattle.std.specs.Prelude.{not, if◌then◌else◌, Option, Some, None}
use Rattle.std.specs.Option.{option_map_or}
use Rattle.std.proofs.lemmas.Bool.{and_parts}
use Rattle.table_engine.specs.declared.record.ActOf.{ActOf}
use Rattle.tournament_events.specs.declared.event.Event.{Event}
use Rattle.tournament_events.specs.declared.event.Event.TheVariants as events
use Rattle.level_plan.specs.Drafts.{plan_of}
use Rattle.tournament_rules.specs.Books.{BookState, start_at}
use Rattle.tournament_rules.specs.Effects.{first_book}
use Rattle.tournament_rules.specs.Kinds.{is_played, kind_of}
use Rattle.tournament_rules.specs.States.{State, PlayState, accepted, answer_to, is_accepted, planning_effect, play_effect, refusal_of, run, state_after}
use Rattle.tournament_rules.specs.Valid.{IsValidPlay, IsValidState}
use Rattle.tournament_rules.proofs.Entries.{start_none}
use Rattle.tournament_rules.proofs.Steps.{accepted_none, valid_run}
use Rattle.view_rules.specs.declared.entries.JournalEntry.{JournalEntry}
use Rattle.dock_rules.specs.Journals.{Tale, act_event, acts_before, are_accepted, book_of, events_of, is_brought_back, may_come, seeded, told_one}
use Rattle.dock_rules.proofs.JournalTales.{accepted-append, legal-before, run-append}
use Rattle.dock_rules.proofs.Coming.{accepted-in_play, answer-in_play}

-- A state has a tournament of this book.
record HasBook (state : State) (book : BookState) : Type 0 where
  play : PlayState
  is : state.play ≡ Some play
  same : play.book ≡ book

-- An act leaves the book, whether it is taken or not.
act-leaves : (state : State) (book : BookState) (table : ℕ) (act : ActOf) → HasBook state book
    → HasBook (state_after state (act_event table act)) book
act-leaves state book table act has = by_taken (is_accepted (answer_to state (act_event table act)))
  where
    event : Event
    event = act_event table act

    kept : (timed : Bool)
        → (play_effect has.play (if timed then events.Time table else events.Act table act.name act.act)).book
        ≡ has.play.book
    kept true = refl
    kept false = refl

    by_taken : (taken : Bool) → HasBook (if taken then accepted state event else state) book
    by_taken true = record {
      play = play_effect has.play event;
      is = ap (λ (found : Option PlayState).
          (option_map_or (λ (play : PlayState). record state { play = Some (play_effect play event) }) found
          (planning_effect state event)).play) has.is;
      same = kept act.by_time ∙ has.same;
    }
    by_taken false = has

acts-leave : (state : State) (book : BookState) (table : ℕ) (acts : List ActOf) → HasBook state book
    → HasBook (run state (map (act_event table) acts)) book
acts-leave state book table [] has = has
acts-leave state book table (act ∷ acts) has =
    acts-leave (state_after state (act_event table act)) book table acts (act-leaves state book table act has)

-- The acts before an event leave the book.
before-leaves : (state : State) (book : BookState) (event : Event) (acts : List ActOf) → HasBook state book
    → HasBook (run state (acts_before event acts)) book
before-leaves state book (events.Settle table) acts has = acts-leave state book table acts has
before-leaves state book event acts has = has

-- An event is taken after the acts before it.
pub record IsTaken (state : State) (event : Event) (acts : List ActOf) (book : BookState) : Type 0 where
  -- the tournament after these acts
  pub play : PlayState
  pub play_is : (run state (acts_before event acts)).play ≡ Some play
  pub same : play.book ≡ book
  pub valid : IsValidPlay play
  pub free : refusal_of play event ≡ None
  pub after : (run state (acts_before event acts ++ event ∷ [])).play ≡ Some (play_effect play event)

-- An event whose acts and which itself are accepted is taken.
pub event-taken : (state : State) (event : Event) (acts : List ActOf) (play : PlayState) → IsValidState state
    → state.play ≡ Some play → are_accepted state (acts_before event acts ++ event ∷ []) ≡ true
    → IsTaken state event acts play.book
event-taken state event acts play valid is all =
    let front : List Event = acts_before event acts in
    let mid : State = run state front in
    let has = before-leaves state play.book event acts (record { play = play; is = is; same = refl }) in
    let parts = and_parts _ _ (sym (accepted-append state front (event ∷ [])) ∙ all) in
    let taken = (and_parts (is_accepted (answer_to mid event)) true parts.1).0 in
    let free = accepted_none (refusal_of has.play event)
    (sym (ap is_accepted (answer-in_play mid has.play event has.is)) ∙ taken) in
    record {
      play = has.play;
      play_is = has.is;
      same = has.same;
      valid = (valid_run state front valid).play has.play has.is;
      free = free;
      after = ap (λ (after : State). after.play) (run-append state front (event ∷ []))
          ∙ (accepted-in_play mid has.play event has.is free).play_is;
    }

-- The book of a tale is that of its tournament, where the plan is whole.
pub book-told : (tale : Tale) (play : PlayState) → tale.state.play ≡ Some play → book_of tale ≡ play.book
book-told tale play is =
    ap (λ (found : Option PlayState).
    option_map_or (λ play. play.book) found (first_book (plan_of tale.state.draft))) is

-- Before the plan is whole it is the first.
pub book-planned : (tale : Tale) → tale.state.play ≡ None → book_of tale ≡ first_book (plan_of tale.state.draft)
book-planned tale none =
    ap (λ (found : Option PlayState).
    option_map_or (λ play. play.book) found (first_book (plan_of tale.state.draft))) none

-- No hand is out then.
pub none-planned : (tale : Tale) (table : ℕ) → tale.state.play ≡ None
    → start_at (book_of tale).started table ≡ None
none-planned tale table none =
    ap (λ (book : BookState). start_at book.started table) (book-planned tale none)
    ∙ start_none ((plan_of tale.state.draft).tables + 1) table

-- The first of entries of which each is allowed is allowed.
pub first-may : (tale : Tale) (entry : JournalEntry) (entries : List JournalEntry)
    → (fold told_one tale (entry ∷ entries)).legal ≡ true → may_come (seeded tale entry) entry ≡ true
first-may tale entry entries legal = (and_parts tale.legal (may_come (seeded tale entry) entry)
    (legal-before (told_one tale entry) entries legal)).1

-- An entry that is allowed is no act and no called time.
pub never-played : (tale : Tale) (entry : JournalEntry) → is_played (kind_of entry.event) ≡ true
    → may_come (seeded tale entry) entry ≡ true → ⊥
never-played tale entry plays may =
    let own = and_parts (not (is_played (kind_of entry.event))) (is_brought_back tale entry.caller entry.event)
    (and_parts (are_accepted tale.state (events_of entry)) _ may).1 in
    let never : false ≡ true = ap not (sym plays) ∙ own.0 in
    absurd cc
