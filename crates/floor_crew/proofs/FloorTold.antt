-- The floor's lines of a journal are the floor's among the lines of its events.
use Rattle.std.proofs.Common.{◌≡◌, ◌≢◌, ◌∙◌, ◌+◌, refl, sym, ap, subst, ℕ, true, List, [], ◌∷◌, ◌++◌, append_assoc, append-nil, fold, map, length, inl, inr}
use Rattle.std.specs.Prelude.{◌==◌, filter, slice_set, Option, Some, None, option_map, option_and_then}
use Rattle.std.specs.List.{flat_map, AllByRecursion}
use Rattle.std.specs.Option.{option_map_or}
use Rattle.std.proofs.lemmas.Bool.{and_parts, cases_Bool, eqb-true}
use Rattle.std.proofs.lemmas.List.{get_or-set_other}
use Rattle.std.proofs.lemmas.List.Elements.{recursion_from_All}
use Rattle.std.proofs.lemmas.Option.{same_Some}
use Rattle.rulebook.proofs.Repeats.{get_or-repeated}
use Rattle.card_set.specs.declared.card.CardRow.{CardRow}
use Rattle.level_plan.specs.Drafts.{plan_of}
use Rattle.seat_book.specs.Players.{players_at}
use Rattle.table_engine.specs.declared.start.HandStart.{HandStart}
use Rattle.table_engine.specs.declared.record.ActOf.{ActOf}
use Rattle.table_engine.specs.Hands.{HandTerms}
use Rattle.table_engine.specs.Plays.{IsLawfulPlay}
use Rattle.table_engine.specs.Results.{players_after}
use Rattle.tournament_events.specs.declared.event.Event.{Event}
use Rattle.tournament_events.specs.declared.event.Event.TheVariants as events
use Rattle.tournament_rules.specs.Apart.{hand_refusal}
use Rattle.tournament_rules.specs.Books.{BookState, start_at}
use Rattle.tournament_rules.specs.Dealing.{next_start}
use Rattle.tournament_rules.specs.Effects.{raced}
use Rattle.tournament_rules.specs.States.{State, PlayState, acts_at, first_play, hand_at, play_effect, run, state_after}
use Rattle.tournament_rules.specs.Valid.{IsValidState}
use Rattle.tournament_rules.proofs.Fitting.{other_number}
use Rattle.tournament_rules.proofs.Passed.{end_passed, passed-parts}
use Rattle.tournament_rules.proofs.Steps.{valid_first_state, valid_run}
use Rattle.view_rules.specs.declared.entries.JournalEntry.{JournalEntry}
use Rattle.view_rules.specs.declared.entries.StackLine.{StackLine}
use Rattle.view_rules.specs.Entries.{journal_lines}
use Rattle.view_rules.specs.Lines.{floor_lines, stack_after, stack_at_rest}
use Rattle.view_rules.specs.Seen.{seen_by, seen_event}
use Rattle.view_rules.specs.Spelling.{ViewLine, Floor}
use Rattle.view_rules.specs.Views.{lines_seen_by}
use Rattle.dock_rules.specs.Journals.{IsLegalJournal, Settled, Tale, acts_before, acts_kept, are_accepted, book_of, entry_again, events_of, expand, first_tale, may_come, seeded, serial_of, settled_by, stacks_of, tale_of, told_one, with_draws}
use Rattle.dock_rules.proofs.Coming.{accepted-in_play}
use Rattle.dock_rules.proofs.JournalTales.{tale_from}
use Rattle.whole_laws.proofs.EntriesTaken.{IsTaken, book-told, event-taken, first-may, never-played}
use Rattle.whole_laws.proofs.HandActs.{acts-walk}
use Rattle.whole_laws.proofs.Planning.{by_plan, end-makes, line-leaves}
use Rattle.whole_laws.proofs.Starts.{begun-at, reset, settled-at}
use Rattle.whole_laws.proofs.Told.{settled-one}
use Rattle.floor_crew.specs.FloorPart.{is_floor_line}
use Rattle.floor_crew.specs.Tournaments.{AreLawful}
use Rattle.floor_crew.proofs.FloorLines.{before-silent, floor-append, floor-one, floor_from, floor_of, serial-out, stacks-out, stacks-raced}

-- All hands lie at their tables: those that are out have no acts so far.
abbrev DoRest : State → Type 0
DoRest state = (play : PlayState) → state.play ≡ Some play → (table : ℕ) → acts_at play.acts table ≡ []

-- It is so where it is so of this tournament.
rests : (state : State) (play : PlayState) → state.play ≡ Some play → ((table : ℕ) → acts_at play.acts table ≡ [])
    → DoRest state
rests state play is none = λ other same.
    subst (λ (play : PlayState). (table : ℕ) → acts_at play.acts table ≡ []) (same_Some play other (sym is ∙ same)) none

-- Where no table but one has acts, none has once they are taken from there.
rests-set : (acts : List (List ActOf)) (table other : ℕ) → (other ≢ table → acts_at acts other ≡ [])
    → acts_at (slice_set acts table []) other ≡ []
rests-set acts table other elsewhere = elim (cases_Bool (table == other)) [
  | inl same ↦ ap (acts_at (slice_set acts table [])) (sym (eqb-true table other same)) ∙ reset acts table []
  | inr differ ↦
      let apart = other_number table other differ in
      get_or-set_other acts table other [] [] apart ∙ elsewhere apart
]

-- The floor says of events what an entry tells, and after them all hands lie at their tables.
record IsTold (state : State) (made : List Event) (event : Event) (entry : JournalEntry) : Type 0 where
  lines : floor_from state made ≡ map Floor (floor_lines event entry.serial entry.stacks)
  after : DoRest (run state made)

-- What is told of an entry besides its event follows from what came before it.
record IsAgain (tale : Tale) (event : Event) (entry : JournalEntry) : Type 0 where
  serial : serial_of tale event ≡ entry.serial
  stacks : stacks_of tale event (acts_kept event entry.acts) ≡ entry.stacks

again : (tale : Tale) (entry : JournalEntry) → entry_again tale entry ≡ entry → IsAgain tale entry.event entry
again tale entry same =
    let drawn : with_draws tale entry.event ≡ entry.event = ap (λ (entry : JournalEntry). entry.event) same in
    record {
      serial = ap (serial_of tale) (sym drawn) ∙ ap (λ (entry : JournalEntry). entry.serial) same;
      stacks = ap (λ (event : Event). stacks_of tale event (acts_kept entry.event entry.acts)) (sym drawn)
          ∙ ap (λ (entry : JournalEntry). entry.stacks) same;
    }

module _ (tale : Tale) (entry : JournalEntry) (valid : IsValidState tale.state) (rest : DoRest tale.state) where
  -- An entry of the plan.
  planned : tale.state.play ≡ None → (event : Event)
      → are_accepted tale.state (acts_before event entry.acts ++ event ∷ []) ≡ true
      → IsTold tale.state (acts_before event entry.acts ++ event ∷ []) event entry
  unfolding floor_lines
  planned none event all = by_plan tale.state
      (λ event acts. are_accepted tale.state (acts_before event acts ++ event ∷ []) ≡ true
      → IsTold tale.state (acts_before event acts ++ event ∷ []) event entry) none
      (λ line acts taken. record {
        lines = floor-one tale.state (events.Plan line) (and_parts _ _ taken).0;
        after = λ play is. let never : None ≡ Some play = sym (line-leaves tale.state line none) ∙ is in absurd cc;
      })
      (λ acts ends taken. record {
        lines = floor-one tale.state events.Go ends;
        after = rests (run tale.state (events.Go ∷ [])) (first_play (plan_of tale.state.draft))
            (end-makes tale.state none ends)
            (λ table. get_or-repeated ((plan_of tale.state.draft).tables + 1) table []);
      })
      event entry.acts all all

  module _ (told : PlayState) (is : tale.state.play ≡ Some told) where
    book : book_of tale ≡ told.book
    book = book-told tale told is

    -- What the floor says of an event that is taken, and of the acts before it.
    taken-lines : (event : Event) (taken : IsTaken tale.state event entry.acts told.book)
        → floor_from tale.state (acts_before event entry.acts ++ event ∷ [])
        ≡ floor_of (seen_by None (run tale.state (acts_before event entry.acts))) (seen_event event)
        (seen_by None (state_after (run tale.state (acts_before event entry.acts)) event))
    taken-lines event taken =
        let front : List Event = acts_before event entry.acts in
        let mid : State = run tale.state front in
        let accept = accepted-in_play mid taken.play event taken.play_is taken.free in
        floor-append tale.state front (event ∷ [])
        ∙ (ap (λ (lines : List ViewLine). lines ++ floor_from mid (event ∷ []))
        (before-silent tale.state event entry.acts)
        ∙ floor-one mid event accept.yes)

    -- A hand begins.
    begins : (table : ℕ) (row : CardRow) → IsTaken tale.state (events.Begin table row) entry.acts told.book
        → IsAgain tale (events.Begin table row) entry
        → IsTold tale.state (events.Begin table row ∷ []) (events.Begin table row) entry
    unfolding floor_lines
    begins table row taken same =
        let event : Event = events.Begin table row in
        let at = begun-at taken.play table row taken.valid taken.free in
        let accept = accepted-in_play tale.state taken.play event taken.play_is taken.free in
        let serial = serial-out (state_after tale.state event) (play_effect taken.play event) table
        (next_start taken.play.book table row.cards) accept.play_is at.after
        ∙ (ap (λ (book : BookState). book.begun + 1) (taken.same ∙ sym book) ∙ same.serial) in
        record {
          lines = taken-lines event taken
              ∙ ap (λ (serial : ℕ). map Floor (floor_lines event serial entry.stacks)) serial;
          after = rests (run tale.state (event ∷ [])) (play_effect taken.play event) taken.after
              (λ other. rests-set taken.play.acts table other (λ apart. rest taken.play taken.play_is other));
        }

    -- A race is made.
    races : (table : ℕ) (row : CardRow) → IsTaken tale.state (events.Race table row) entry.acts told.book
        → IsAgain tale (events.Race table row) entry
        → IsTold tale.state (events.Race table row ∷ []) (events.Race table row) entry
    unfolding floor_lines
    races table row taken same =
        let event : Event = events.Race table row in
        let accept = accepted-in_play tale.state taken.play event taken.play_is taken.free in
        let stacks = stacks-raced (state_after tale.state event) (play_effect taken.play event) table accept.play_is
        ∙ (ap (λ (book : BookState). map stack_at_rest (players_at (raced book table row.cards).seating.players table))
        (taken.same ∙ sym book) ∙ same.stacks) in
        record {
          lines = taken-lines event taken
              ∙ ap (λ (stacks : List StackLine). map Floor (floor_lines event entry.serial stacks)) stacks;
          after = rests (run tale.state (event ∷ [])) (play_effect taken.play event) taken.after
              (rest taken.play taken.play_is);
        }

    -- A hand is settled, with the acts that it brings before the settle.
    settles : (table : ℕ) → IsTaken tale.state (events.Settle table) entry.acts told.book
        → IsAgain tale (events.Settle table) entry
        → AllByRecursion (λ (one : Settled). IsLawfulPlay one.hand)
        (settled_by tale entry.caller (events.Settle table) entry.acts)
        → IsTold tale.state (acts_before (events.Settle table) entry.acts ++ events.Settle table ∷ [])
        (events.Settle table) entry
    unfolding floor_lines
    settles table taken same lawful =
        let event : Event = events.Settle table in
        let mid : State = run tale.state (acts_before event entry.acts) in
        let found = settled-at taken.play table taken.valid taken.free in
        let start : HandStart = found.0 in
        let at = found.1 in
        let out : start_at told.book.started table ≡ Some start =
        ap (λ (book : BookState). start_at book.started table) (sym taken.same) ∙ at.before in
        let out_told : start_at (book_of tale).started table ≡ Some start =
        ap (λ (book : BookState). start_at book.started table) book ∙ out in
        let played = subst (AllByRecursion (λ (one : Settled). IsLawfulPlay one.hand))
        (settled-one tale entry.caller table entry.acts start out_told) lawful in
        let walk = acts-walk tale.state told table start [] entry.acts entry.acts valid is
        (record {
          going = ap (λ (book : BookState). book.stopped) (sym taken.same) ∙ at.going;
          started = out;
          has = rest told is table;
        }) played.0 refl in
        let one : walk.play ≡ taken.play = same_Some walk.play taken.play (sym walk.play_is ∙ taken.play_is) in
        let made : acts_at taken.play.acts table ≡ entry.acts =
        ap (λ (play : PlayState). acts_at play.acts table) (sym one) ∙ walk.acted.here in
        let hand : HandTerms = record { start = start; acts = acts_at taken.play.acts table } in
        let there : hand_at taken.play table ≡ Some hand =
        ap (option_map (λ start. record { start = start; acts = acts_at taken.play.acts table })) at.before in
        let over = end_passed hand (sym (ap (option_and_then (hand_refusal event)) there)
        ∙ (passed-parts taken.play event taken.free).1) in
        let brought : stacks_of tale event entry.acts
        ≡ map (stack_after table) (players_after (record { start = start; acts = entry.acts })) =
        ap (λ (found : Option HandStart). option_map_or (λ hand. map (stack_after table) (players_after hand))
        (option_map (λ start. record { start = start; acts = entry.acts }) found) []) out_told in
        let stacks = stacks-out mid taken.play table start taken.play_is at.before over
        ∙ (ap (λ (acts : List ActOf). map (stack_after table) (players_after (record { start = start; acts = acts })))
        made ∙ (sym brought ∙ same.stacks)) in
        record {
          lines = taken-lines event taken
              ∙ ap (λ (stacks : List StackLine). map Floor (floor_lines event entry.serial stacks)) stacks;
          after = rests (run tale.state (acts_before event entry.acts ++ event ∷ [])) (play_effect taken.play event)
              taken.after
              (λ other. rests-set taken.play.acts table other
              (λ apart. ap (λ (play : PlayState). acts_at play.acts other) (sym one)
              ∙ (walk.acted.elsewhere other apart ∙ rest told is other)));
        }

    -- An entry once the plan is whole.
    playing : (event : Event) → IsTaken tale.state event entry.acts told.book → IsAgain tale event entry
        → AllByRecursion (λ (one : Settled). IsLawfulPlay one.hand) (settled_by tale entry.caller event entry.acts)
        → may_come tale (record entry { event = event }) ≡ true
        → IsTold tale.state (acts_before event entry.acts ++ event ∷ []) event entry
    unfolding floor_lines
    playing (events.Begin table row) taken same lawful may = begins table row taken same
    playing (events.Act table name act) taken same lawful may =
        absurd (never-played tale (record entry { event = events.Act table name act }) refl may)
    playing (events.Time table) taken same lawful may =
        absurd (never-played tale (record entry { event = events.Time table }) refl may)
    playing (events.Settle table) taken same lawful may = settles table taken same lawful
    playing (events.Race table row) taken same lawful may = races table row taken same
    playing events.Stop taken same lawful may = record {
      lines = taken-lines events.Stop taken;
      after = rests (run tale.state (events.Stop ∷ [])) (play_effect taken.play events.Stop) taken.after
          (λ table. get_or-repeated (length taken.play.acts) table []);
    }
    playing event taken same lawful may = record {
      lines = taken-lines event taken;
      after = rests (run tale.state (event ∷ [])) (play_effect taken.play event) taken.after
          (rest taken.play taken.play_is);
    }

  -- The floor says of the events of an entry that was allowed what it tells.
  step : may_come tale entry ≡ true → entry_again tale entry ≡ entry
      → AllByRecursion (λ (one : Settled). IsLawfulPlay one.hand)
      (settled_by tale entry.caller entry.event entry.acts)
      → IsTold tale.state (events_of entry) entry.event entry
  step may same lawful = by_play tale.state.play refl
    where
      by_play : (found : Option PlayState) → tale.state.play ≡ found
          → IsTold tale.state (events_of entry) entry.event entry
      by_play None none = planned none entry.event (and_parts _ _ may).0
      by_play (Some told) is = playing told is entry.event
          (event-taken tale.state entry.event entry.acts told valid is (and_parts _ _ may).0) (again tale entry same)
          lawful may

-- the entries of a journal made again
abbrev entries_again : Tale → List JournalEntry → List JournalEntry
entries_again tale [] = []
entries_again tale (entry ∷ entries) =
    entry_again (seeded tale entry) entry ∷ entries_again (told_one tale entry) entries

again-from : (tale : Tale) (entries : List JournalEntry)
    → (fold told_one tale entries).again ≡ tale.again ++ entries_again tale entries
again-from tale [] = sym (append-nil tale.again)
again-from tale (entry ∷ entries) =
    again-from (told_one tale entry) entries
    ∙ append_assoc tale.again (entry_again (seeded tale entry) entry ∷ []) (entries_again (told_one tale entry) entries)

-- What is so of each item of two lists is so of each of both.
both : {A : Type 0} (P : A → Type 0) (one other : List A) → AllByRecursion P (one ++ other)
    → AllByRecursion P one × AllByRecursion P other
both P [] other all = (tt, all)
both P (item ∷ one) other all = let rest = both P one other all.1 in ((all.0, rest.0), rest.1)

-- What is so of each hand that was settled was so before.
settled-before : (P : Settled → Type 0) (tale : Tale) (entries : List JournalEntry)
    → AllByRecursion P (fold told_one tale entries).settled → AllByRecursion P tale.settled
settled-before P tale [] all = all
settled-before P tale (entry ∷ entries) all =
    (both P tale.settled (settled_by (seeded tale entry) entry.caller entry.event entry.acts)
    (settled-before P (told_one tale entry) entries all)).0

lines-of : (entry : JournalEntry)
    → map Floor (floor_lines entry.event entry.serial entry.stacks) ≡ journal_lines entry
unfolding journal_lines
lines-of entry = refl

-- It is so along a journal.
told-from : (tale : Tale) (entries : List JournalEntry) → IsValidState tale.state → DoRest tale.state
    → (fold told_one tale entries).legal ≡ true → entries_again tale entries ≡ entries
    → AllByRecursion (λ (one : Settled). IsLawfulPlay one.hand) (fold told_one tale entries).settled
    → floor_from tale.state (expand entries) ≡ flat_map journal_lines entries
told-from tale [] valid rest legal same lawful = refl
told-from tale (entry ∷ entries) valid rest legal same lawful =
    let P : Settled → Type 0 = λ (one : Settled). IsLawfulPlay one.hand in
    let next : Tale = told_one tale entry in
    let head : entry_again (seeded tale entry) entry ≡ entry = cc in
    let tail : entries_again next entries ≡ entries = cc in
    let own = (both P tale.settled (settled_by (seeded tale entry) entry.caller entry.event entry.acts)
    (settled-before P next entries lawful)).1 in
    let here = step (seeded tale entry) entry valid rest (first-may tale entry entries legal) head own in
    let later = told-from next entries (valid_run tale.state (events_of entry) valid) here.after legal tail lawful in
    floor-append tale.state (events_of entry) (expand entries)
    ∙ (λ i. (here.lines ∙ lines-of entry) i ++ later i)

-- The floor's lines of the entries of a legal journal, whose hands were played lawfully, are the floor's among the
-- lines of its events.
pub floor_told : (journal : List JournalEntry) → IsLegalJournal journal → AreLawful journal
    → flat_map journal_lines journal ≡ filter is_floor_line (lines_seen_by None (expand journal))
floor_told journal legal lawful =
    let from = tale_from journal in
    let all = recursion_from_All (λ (one : Settled). IsLawfulPlay one.hand) (tale_of journal).settled lawful in
    sym (told-from first_tale journal valid_first_state
    (λ play is. let never : None ≡ Some play = is in absurd cc)
    (sym (ap (λ (tale : Tale). tale.legal) from) ∙ legal.allowed)
    (sym (again-from first_tale journal) ∙ (sym (ap (λ (tale : Tale). tale.again) from) ∙ legal.told))
    (subst (λ (tale : Tale). AllByRecursion (λ (one : Settled). IsLawfulPlay one.hand) tale.settled) from all))
