-- A settle with the acts of its hand before it.
use Rattle.std.proofs.Common.{◌≡◌, ◌∙◌, refl, sym, ap, subst, ℕ, zero, suc, ◌+◌, ◌<◌, Bool, true, false, List, [], ◌∷◌, ◌++◌, arith}
use Rattle.std.specs.Prelude.{not, ◌==◌, if◌then◌else◌, map, is_some, slice_set, Option, Some, None, option_map, option_and_then}
use Rattle.std.specs.Option.{option_map_or, option_or}
use Rattle.std.proofs.lemmas.Bool.{and_parts, and_from}
use Rattle.std.proofs.lemmas.Bool.Decides.{nat_tests}
use Rattle.std.proofs.lemmas.List.{append_assoc, append-nil, get_or-set_same, length-replicate}
use Rattle.rulebook.proofs.Checks.{none_holds}
use Rattle.rulebook.specs.Checks.{first_that_holds}
use Rattle.floor_text.specs.declared.refusal.Refusal.TheVariants.{Stopped, NameUnknown, NoTable, NotPlaying, NotOver}
use Rattle.entry_list.specs.Entries.{is_known}
use Rattle.table_engine.specs.declared.start.HandStart.{HandStart}
use Rattle.table_engine.specs.declared.record.ActOf.{ActOf}
use Rattle.table_engine.specs.declared.record.HandRecord.{HandRecord}
use Rattle.table_engine.specs.Acts.{act_checks, hand_after_time, is_dealt, refusal_of_act}
use Rattle.table_engine.specs.Hands.{HandTerms, is_over}
use Rattle.table_engine.specs.Plays.{IsCompletePlay, IsLawfulPlay, recorded_hand}
use Rattle.table_engine.proofs.Plays.{lawful_play-each}
use Rattle.table_engine.proofs.TurnLaws.{time-again, time-free_again}
use Rattle.betting_round.specs.declared.act.Act.{Act}
use Rattle.tournament_events.specs.declared.event.Event.{Event}
use Rattle.tournament_events.specs.declared.event.Event.TheVariants as events
use Rattle.tournament_rules.specs.Books.{BookState, has_table, start_at}
use Rattle.tournament_rules.specs.Checks.{book_refusal, is_playing}
use Rattle.tournament_rules.specs.Effects.{settled}
use Rattle.tournament_rules.specs.States.{State, PlayState, acts_at, hand_at, no_acts, run, state_after}
use Rattle.tournament_rules.specs.Valid.{IsValid}
use Rattle.tournament_rules.specs.Apart.{hand_refusal}
use Rattle.tournament_rules.proofs.Acting.{dealt_known}
use Rattle.tournament_rules.proofs.Fitting.{table_range, table_started}
use Rattle.tournament_rules.proofs.Passed.{is_so, refusal-parts}
use Rattle.view_rules.specs.declared.entries.JournalEntry.{JournalEntry}
use Rattle.dock_rules.specs.Journals.{act_event, are_accepted, entry_told, tale_of}
use Rattle.dock_rules.specs.Kept.{IsKept, at_rest}
use Rattle.dock_rules.proofs.JournalTales.{accepted-append, run-append}
use Rattle.dock_rules.proofs.Coming.{IsAcceptedTo, accepted-in_play, kept-more, set-replicate}

-- What is set twice at one place is what is set last.
set-twice : {A : Type 0} (items : List A) (place : ℕ) (one other : A)
    → slice_set (slice_set items place one) place other ≡ slice_set items place other
set-twice [] place one other = refl
set-twice (item ∷ items) zero one other = refl
set-twice (item ∷ items) (suc place) one other = ap (◌∷◌ item) (set-twice items place one other)

-- A hand is out at a table, and the tournament goes on.
pub record IsOutAt (book : BookState) (table : ℕ) (start : HandStart) : Type 0 where
  pub going : book.stopped ≡ false
  pub there : has_table book table ≡ true
  pub playing : is_playing book table ≡ true
  pub started : start_at book.started table ≡ Some start
  pub known : (name : List ℕ) → is_dealt start name ≡ true → is_known book.entries name ≡ true
  pub within : table < book.plan.tables + 1

-- It is so where the book has its start.
pub out-at : (book : BookState) (table : ℕ) (start : HandStart) → IsValid book → book.stopped ≡ false
    → start_at book.started table ≡ Some start → IsOutAt book table start
out-at book table start valid going is =
    let there = table_started book.plan book.seating book.started table start valid.tables is in
    let range = table_range 1 book.plan.tables table there in
    record {
      going = going;
      there = there;
      playing = valid.tables.playing table ∙ ap is_some is;
      started = is;
      known = λ name dealt. dealt_known book table start name valid is dealt;
      within = let last = range.1 in omega arith;
    }

-- A tournament in which the hand at one table has these acts, and all others have none.
abbrev pub acting : BookState → ℕ → List ActOf → PlayState
acting book table acts = record { book = book; acts = slice_set (no_acts book.plan.tables) table acts }

four_pass : (stopped known there playing : Bool) → stopped ≡ false → known ≡ true → there ≡ true → playing ≡ true
    → first_that_holds ((Stopped, stopped) ∷ (NameUnknown, not known) ∷ (NoTable, not there)
    ∷ (NotPlaying, not playing) ∷ []) ≡ None
four_pass stopped known there playing going is_known is_there plays = rw (going, is_known, is_there, plays) refl

three_pass : (stopped there playing : Bool) → stopped ≡ false → there ≡ true → playing ≡ true
    → first_that_holds ((Stopped, stopped) ∷ (NoTable, not there) ∷ (NotPlaying, not playing) ∷ []) ≡ None
three_pass stopped there playing going is_there plays = rw (going, is_there, plays) refl

module _ (book : BookState) (table : ℕ) (start : HandStart) (out : IsOutAt book table start) where
  abbrev pub hand-of : List ActOf → HandTerms
  hand-of acts = record { start = start; acts = acts }

  acts-here : (acts : List ActOf) → acts_at (acting book table acts).acts table ≡ acts
  acts-here acts = get_or-set_same (no_acts book.plan.tables) table acts []
      (let within = out.within in omega (arith, length-replicate {A = List ActOf} (book.plan.tables + 1) []))

  hand-here : (acts : List ActOf) → hand_at (acting book table acts) table ≡ Some (hand-of acts)
  hand-here acts = ap (λ (found : Option HandStart).
      option_map (λ start. record { start = start; acts = acts_at (acting book table acts).acts table }) found)
      out.started
      ∙ ap (λ (kept : List ActOf). Some (hand-of kept)) (acts-here acts)

  act-taken : (name : List ℕ) (act : Act) → is_dealt start name ≡ true
      → book_refusal book (events.Act table name act) ≡ None
  unfolding book_refusal
  act-taken name act dealt = four_pass book.stopped (is_known book.entries name) (has_table book table)
      (is_playing book table) out.going (out.known name dealt) out.there out.playing

  time-taken : book_refusal book (events.Time table) ≡ None
  unfolding book_refusal
  time-taken = three_pass book.stopped (has_table book table) (is_playing book table) out.going out.there out.playing

  settle-taken : book_refusal book (events.Settle table) ≡ None
  unfolding book_refusal
  settle-taken = three_pass book.stopped (has_table book table) (is_playing book table) out.going out.there out.playing

  -- An event is refused by the hand alone.
  refusal-here : (acts : List ActOf) (event : Event) → hand_at (acting book table acts) table
      ≡ Some (hand-of acts)
      → book_refusal book event ≡ None
      → option_or (book_refusal book event)
      (option_and_then (hand_refusal event) (hand_at (acting book table acts) table))
      ≡ hand_refusal event (hand-of acts)
  refusal-here acts event here free =
      λ i. option_or (free i) (option_and_then (hand_refusal event) (here i))

  not_dealt : (hand : HandTerms) (name : List ℕ) (act : Act) → refusal_of_act hand name act ≡ None
      → is_dealt hand.start name ≡ true
  unfolding act_checks
  not_dealt hand name act free = is_so _ (and_parts _ _ (none_holds (act_checks hand name act) free)).0

  act-step : (state : State) (front : List ActOf) (act : ActOf) (back all : List ActOf)
      → state.play ≡ Some (acting book table front) → IsLawfulPlay (hand-of all) → all ≡ front ++ act ∷ back
      → IsAcceptedTo state (act_event table act) (acting book table (front ++ act ∷ []))
  act-step state front act back all is play same = by_time act.by_time refl
    where
      free : refusal_of_act (hand-of front) act.name act.act ≡ None
      free = lawful_play-each (hand-of all) front act back play same

      by_time : (timed : Bool) → act.by_time ≡ timed
          → IsAcceptedTo state (if timed then events.Time table else events.Act table act.name act.act)
          (acting book table (front ++ act ∷ []))
      by_time false not_timed =
          let event : Event = events.Act table act.name act.act in
          let dealt = not_dealt (hand-of front) act.name act.act free in
          let none = refusal-parts (acting book table front) event
          ∙ (refusal-here front event (hand-here front) (act-taken act.name act.act dealt) ∙ free) in
          subst (λ (play : PlayState). IsAcceptedTo state event play)
          (ap (λ (acts : List (List ActOf)). record { book = book; acts = acts })
          ((λ i. slice_set (acting book table front).acts table (acts-here front i
          ++ (record { name = act.name; act = act.act; by_time = sym not_timed i }) ∷ []))
          ∙ set-twice (no_acts book.plan.tables) table front (front ++ act ∷ [])))
          (accepted-in_play state (acting book table front) event is none)
      by_time true timed =
          let event : Event = events.Time table in
          let none = refusal-parts (acting book table front) event
          ∙ (refusal-here front event (hand-here front) time-taken
          ∙ time-free_again (hand-of all) front act back play same timed) in
          subst (λ (play : PlayState). IsAcceptedTo state event play)
          (ap (λ (acts : List (List ActOf)). record { book = book; acts = acts })
          (ap (λ (hand : Option HandTerms). slice_set (acting book table front).acts table
          (option_map_or (λ hand. (hand_after_time hand).acts) hand [])) (hand-here front)
          ∙ (ap (λ (hand : HandTerms). slice_set (acting book table front).acts table hand.acts)
          (time-again (hand-of all) front act back play same timed)
          ∙ set-twice (no_acts book.plan.tables) table front (front ++ act ∷ []))))
          (accepted-in_play state (acting book table front) event is none)

  -- All acts of a lawful play are accepted, and the hand has them.
  acts-walk : (state : State) (front back all : List ActOf) → state.play ≡ Some (acting book table front)
      → IsLawfulPlay (hand-of all) → all ≡ front ++ back
      → (are_accepted state (map (act_event table) back) ≡ true)
      × ((run state (map (act_event table) back)).play ≡ Some (acting book table all))
  acts-walk state front [] all is play same =
      (refl, is ∙ ap (λ (acts : List ActOf). Some (acting book table acts)) (sym (same ∙ append-nil front)))
  acts-walk state front (act ∷ back) all is play same =
      let step = act-step state front act back all is play same in
      let rest = acts-walk (state_after state (act_event table act)) (front ++ act ∷ []) back all step.play_is play
      (same ∙ sym (append_assoc front (act ∷ []) back)) in
      (and_from _ _ step.yes rest.0, rest.1)

  -- Once they are made and the hand is over, the settle is accepted.
  settle-step : (state : State) (acts : List ActOf) → state.play ≡ Some (acting book table acts)
      → is_over (hand-of acts) ≡ true
      → IsAcceptedTo state (events.Settle table) (at_rest (settled book (hand-of acts)))
  settle-step state acts is over =
      let event : Event = events.Settle table in
      let none = refusal-parts (acting book table acts) event
      ∙ (refusal-here acts event (hand-here acts) settle-taken
      ∙ ap (λ (ended : Bool). first_that_holds ((NotOver, not ended) ∷ [])) over) in
      subst (λ (play : PlayState). IsAcceptedTo state event play)
      ((λ i. record {
        book = option_map_or (settled book) (hand-here acts i) book;
        acts = set-twice (no_acts book.plan.tables) table acts [] i;
      })
      ∙ ap (λ (kept : List (List ActOf)). record { book = settled book (hand-of acts); acts = kept })
      (set-replicate (book.plan.tables + 1) table []))
      (accepted-in_play state (acting book table acts) event is none)

  -- The events of a settle's entry, from a tournament whose hands lie at their tables.
  pub settle-events : (state : State) (acts : List ActOf) → state.play ≡ Some (at_rest book)
      → IsLawfulPlay (hand-of acts) → is_over (hand-of acts) ≡ true
      → (are_accepted state (map (act_event table) acts ++ events.Settle table ∷ []) ≡ true)
      × ((run state (map (act_event table) acts ++ events.Settle table ∷ [])).play
      ≡ Some (at_rest (settled book (hand-of acts))))
  settle-events state acts is play over =
      let resting : at_rest book ≡ acting book table [] =
      ap (λ (kept : List (List ActOf)). record { book = book; acts = kept })
      (sym (set-replicate (book.plan.tables + 1) table [])) in
      let walk = acts-walk state [] acts acts (is ∙ ap Some resting) play refl in
      let last = settle-step (run state (map (act_event table) acts)) acts walk.1 over in (
        accepted-append state (map (act_event table) acts) (events.Settle table ∷ [])
            ∙ and_from _ _ walk.0 (and_from _ _ last.yes refl),
        ap (λ (after : State). after.play) (run-append state (map (act_event table) acts) (events.Settle table ∷ []))
            ∙ last.play_is,
      )

-- A journal with a settle more is kept, where who began the hand brings it back as a complete play.
pub kept-settle : (journal : List JournalEntry) (seed : List ℕ) (book : BookState) (caller : ℕ) (done : HandRecord)
    → IsKept journal seed book → IsValid book → book.stopped ≡ false
    → start_at book.started done.start.table ≡ Some done.start
    → (tale_of journal).holder done.start.table ≡ caller → IsCompletePlay done
    → IsKept (journal ++ entry_told (tale_of journal) caller (events.Settle done.start.table) done.acts ∷ []) seed
    (settled book (recorded_hand done))
kept-settle journal seed book caller done kept valid going started holder complete =
    let table : ℕ = done.start.table in
    let out = out-at book table done.start valid going started in
    let events_ = settle-events book table done.start out (tale_of journal).state done.acts kept.come complete.play
    complete.over in
    kept-more journal seed book (settled book (recorded_hand done))
    (entry_told (tale_of journal) caller (events.Settle table) done.acts) kept refl
    (and_from _ _ events_.0 (and_from _ _ refl (eqb-same _ _ holder))) refl events_.1 going refl
  where
    eqb-same : (one other : ℕ) → one ≡ other → (one == other) ≡ true
    eqb-same one other same = grind (arith, nat_tests)
