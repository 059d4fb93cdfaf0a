-- The acts that a journal settles stand in the histories of the tables, each once.
use Rattle.std.proofs.Common.{◌≡◌, ◌∙◌, refl, sym, ap, subst, ◌==◌, ℕ, ◌+◌, ◌*◌, ◌≤◌, zero, suc, Bool, true, false, cond, List, [], ◌∷◌, ◌++◌, append-nil, append_assoc, fold, length, map, take, arith}
use Rattle.std.specs.Prelude.{filter, Option, None, Some, option_to_list}
use Rattle.std.specs.List.{AllByRecursion}
use Rattle.std.proofs.lemmas.List.{map-append}
use Rattle.std.proofs.lemmas.List.Elements.{filter-append}
use Rattle.table_engine.specs.declared.start.HandStart.{HandStart}
use Rattle.table_engine.specs.declared.record.ActOf.{ActOf}
use Rattle.table_engine.specs.Hands.{HandTerms}
use Rattle.tournament_events.specs.declared.event.Event.{Event}
use Rattle.tournament_events.specs.declared.event.Event.TheVariants as events
use Rattle.tournament_rules.specs.Books.{BookState, start_at}
use Rattle.tournament_rules.specs.States.{PlayState, refusal_of}
use Rattle.tournament_rules.specs.Valid.{IsValidState}
use Rattle.tournament_rules.proofs.Steps.{valid_events, valid_run}
use Rattle.history_lock.specs.Entries.{entries_by}
use Rattle.view_rules.specs.declared.entries.JournalEntry.{JournalEntry}
use Rattle.view_rules.specs.declared.entries.TableEntry.{TableEntry}
use Rattle.view_rules.specs.declared.entries.TableEntry.TheVariants.{Opened, Acted, Closed}
use Rattle.dock_rules.specs.Journals.{Settled, Tale, act_event, acts_before, are_accepted, book_of, events_of, first_tale, journal_caller, may_come, seeded, settled_by, tale_of, told_one}
use Rattle.dock_rules.specs.Whole.{TableHands, hands_after, hands_of, no_hands}
use Rattle.dock_rules.proofs.JournalTales.{tale_from}
use Rattle.whole_laws.proofs.EntriesTaken.{book-told, event-taken, first-may}
use Rattle.whole_laws.proofs.Planning.{by_plan}
use Rattle.whole_laws.proofs.Starts.{settled-at}
use Rattle.whole_laws.proofs.Told.{settled-one}
use Rattle.std.proofs.lemmas.Bool.{and_parts, eqb-true}
use Rattle.table_worker.specs.Ties.{AreWork, IsBrought, hands_closed, hands_settled, work_owed}
use Rattle.table_worker.proofs.Owed.{IsMove, owed-move}
use Rattle.floor_crew.specs.Wishes.{Wish}
use Rattle.floor_crew.proofs.Weights.{by-first, one_if, weigh, weigh-append, weigh-both, weigh-map}
use Rattle.floor_crew.proofs.AskedFor.{entry_weight, event_weight}

module _ (f : Wish → ℕ) (table : ℕ) where
  -- what an act at a table weighs, a hand with all its acts, and an entry of the table's history
  abbrev pub act_weight : ActOf → ℕ
  act_weight act = event_weight f (act_event table act)

  abbrev pub hand_weight : HandTerms → ℕ
  hand_weight hand = weigh act_weight hand.acts

  abbrev pub table_weight : TableEntry → ℕ
  table_weight (Opened start) = 0
  table_weight (Acted caller act) = act_weight act
  table_weight Closed = 0

  abbrev hands_weight : TableHands → ℕ
  hands_weight hands = weigh hand_weight hands.closed + weigh hand_weight (option_to_list hands.lying)

  after-weight : (closed : List HandTerms) (lying : Option HandTerms) (entry : TableEntry)
      → hands_weight (hands_after (record { closed = closed; lying = lying }) entry)
      ≤ hands_weight (record { closed = closed; lying = lying }) + table_weight entry
  after-weight closed lying (Opened start) = omega arith
  after-weight closed None (Acted caller act) = omega arith
  after-weight closed (Some hand) (Acted caller act) =
      let more = weigh-append act_weight hand.acts (act ∷ []) in omega (arith, more)
  after-weight closed None Closed =
      let same : weigh hand_weight (closed ++ []) ≡ weigh hand_weight closed =
      ap (weigh hand_weight) (append-nil closed) in
      omega (arith, same)
  after-weight closed (Some hand) Closed =
      let more = weigh-append hand_weight closed (hand ∷ []) in omega (arith, more)

  through-weight : (hands : TableHands) (history : List TableEntry)
      → hands_weight (fold hands_after hands history) ≤ hands_weight hands + weigh table_weight history
  through-weight hands [] = omega arith
  through-weight hands (entry ∷ history) =
      let here = after-weight hands.closed hands.lying entry in
      let later = through-weight (hands_after hands entry) history in
      omega (arith, here, later)

  -- The hands that were closed have no more acts than the history of the table.
  pub closed-weight : (history : List TableEntry)
      → weigh hand_weight (hands_closed history) ≤ weigh table_weight history
  unfolding hands_of
  closed-weight history = let all = through-weight no_hands history in omega (arith, all)

-- A settle that may come settles a hand that is out.
settle-out : (tale : Tale) (entry : JournalEntry) (table : ℕ) → IsValidState tale.state
    → entry.event ≡ events.Settle table → may_come (seeded tale entry) entry ≡ true
    → (start : HandStart) × (start_at (book_of tale).started table ≡ Some start)
settle-out tale entry table valid is may = by_play tale.state.play refl
  where
    accepted : are_accepted tale.state (events_of entry) ≡ true
    accepted = (and_parts _ _ may).0

    Out : Event → Type 0
    Out event = event ≡ events.Settle table
        → (start : HandStart) × (start_at (book_of tale).started table ≡ Some start)

    by_play : (found : Option PlayState) → tale.state.play ≡ found
        → (start : HandStart) × (start_at (book_of tale).started table ≡ Some start)
    by_play None none =
        by_plan tale.state (λ event acts. Out event) none
        (λ line acts never. absurd (let no : events.Plan line ≡ events.Settle table = never in cc))
        (λ acts ends never. absurd (let no : events.Go ≡ events.Settle table = never in cc))
        entry.event entry.acts accepted is
    by_play (Some play) at =
        let taken = event-taken tale.state entry.event entry.acts play valid at accepted in
        let found = settled-at taken.play table taken.valid
        (subst (λ (event : Event). refusal_of taken.play event ≡ None) is taken.free) in (
          found.0,
          ap (λ (book : BookState). start_at book.started table) (book-told tale play at ∙ sym taken.same)
              ∙ found.1.before,
        )

-- what an entry weighs by the acts that it settles
abbrev pub settle_weight : (Wish → ℕ) → JournalEntry → ℕ
settle_weight f entry = weigh (event_weight f) (acts_before entry.event entry.acts)

-- What the worker of a table brings: it begins hands, settles those of its table, and carries out moves.
abbrev pub IsWork : ℕ → Event → Type 0
IsWork table (events.Begin other row) = Unit {0}
IsWork table (events.Settle other) = other ≡ table
IsWork table event = IsMove event

module _ (f : Wish → ℕ) (k table : ℕ) where
  abbrev mine : Settled → Bool
  mine one = one.by == k

  -- the hands that this caller settled, of some that were
  abbrev his : List Settled → List HandTerms
  his settled = map (λ (one : Settled). one.hand) (filter mine settled)

  his-append : (some others : List Settled) → weigh (hand_weight f table) (his (some ++ others))
      ≡ weigh (hand_weight f table) (his some) + weigh (hand_weight f table) (his others)
  his-append some others =
      ap (λ (l : List Settled). weigh (hand_weight f table) (map (λ (one : Settled). one.hand) l))
      (filter-append mine some others)
      ∙ (ap (weigh (hand_weight f table)) (map-append (λ (one : Settled). one.hand) (filter mine some)
      (filter mine others))
      ∙ weigh-append (hand_weight f table) (his some) (his others))

  one-weight : (caller there : ℕ) (start : HandStart) (acts : List ActOf) (so : Bool) → (so ≡ true → there ≡ table)
      → weigh (hand_weight f table) (map (λ (one : Settled). one.hand)
      (cond so (record { by = caller; hand = record { start = start; acts = acts } } ∷ []) []))
      ≡ weigh (event_weight f) (map (act_event there) acts) * one_if so
  one-weight caller there start acts true here =
      let same : weigh (event_weight f) (map (act_event there) acts) ≡ weigh (act_weight f table) acts =
      weigh-map (event_weight f) (act_event there) acts
      ∙ ap (λ (t : ℕ). weigh (act_weight f t) acts) (here refl) in
      omega (arith, same)
  one-weight caller there start acts false here = omega arith

  -- What an entry settles for this caller weighs what its acts weigh, where it is his.
  new-weight : (tale : Tale) (entry : JournalEntry) → IsValidState tale.state
      → may_come (seeded tale entry) entry ≡ true → (entry.caller ≡ k → IsWork table entry.event)
      → weigh (hand_weight f table) (his (settled_by (seeded tale entry) entry.caller entry.event entry.acts))
      ≡ settle_weight f entry * one_if (entry.caller == k)
  new-weight tale entry valid may work = by_event entry.event refl
    where
      by_event : (event : Event) → entry.event ≡ event
          → weigh (hand_weight f table) (his (settled_by (seeded tale entry) entry.caller event entry.acts))
          ≡ weigh (event_weight f) (acts_before event entry.acts) * one_if (entry.caller == k)
      by_event (events.Settle there) is =
          let found = settle-out tale entry there valid is may in
          ap (λ (settled : List Settled). weigh (hand_weight f table) (his settled))
          (settled-one (seeded tale entry) entry.caller there entry.acts found.0 found.1)
          ∙ one-weight entry.caller there found.0 entry.acts (entry.caller == k)
          (λ so. subst (IsWork table) is (work (eqb-true entry.caller k so)))
      by_event event is = omega arith

  -- The hands that a caller settles at a table weigh what the acts of his entries weigh.
  settled-from : (tale : Tale) (entries : List JournalEntry) → IsValidState tale.state
      → (fold told_one tale entries).legal ≡ true
      → AllByRecursion (λ (entry : JournalEntry). entry.caller ≡ k → IsWork table entry.event) entries
      → weigh (hand_weight f table) (his (fold told_one tale entries).settled)
      ≡ weigh (hand_weight f table) (his tale.settled)
      + weigh (settle_weight f) (entries_by journal_caller k entries)
  settled-from tale [] valid legal work = omega arith
  settled-from tale (entry ∷ entries) valid legal work =
      let later = settled-from (told_one tale entry) entries (valid_run tale.state (events_of entry) valid) legal work.1
      in
      let here = new-weight tale entry valid (first-may tale entry entries legal) work.0 in
      let sum = his-append tale.settled (settled_by (seeded tale entry) entry.caller entry.event entry.acts) in
      let first = by-first journal_caller (settle_weight f) k entry entries in
      omega (arith, later, here, sum, first)

  -- So they do in a journal.
  settled-weight : (journal : List JournalEntry) → (tale_of journal).legal ≡ true
      → AllByRecursion (λ (entry : JournalEntry). entry.caller ≡ k → IsWork table entry.event) journal
      → weigh (settle_weight f) (entries_by journal_caller k journal)
      ≡ weigh (hand_weight f table) (hands_settled k (tale_of journal))
  settled-weight journal legal work =
      let told = tale_from journal in
      let all = settled-from first_tale journal (valid_events [])
      (sym (ap (λ (tale : Tale). tale.legal) told) ∙ legal) work in
      let same : weigh (hand_weight f table) (hands_settled k (tale_of journal))
      ≡ weigh (hand_weight f table) (his (fold told_one first_tale journal).settled) =
      ap (λ (tale : Tale). weigh (hand_weight f table) (his tale.settled)) told in
      omega (arith, all, same)

-- What a worker may bring, it brings.
owed-work : (table : ℕ) (tale : Tale) (event : Event) → work_owed table tale event ≡ Some event → IsWork table event
owed-work table tale (events.Begin other row) owed = tt
owed-work table tale (events.Settle other) owed = cc
owed-work table tale (events.Balance from to) owed = tt
owed-work table tale (events.Break there seats names) owed = tt
owed-work table tale event owed = owed-move tale event owed

work-along : (k table : ℕ) (journal front entries : List JournalEntry) → AreWork k table journal
    → journal ≡ front ++ entries
    → AllByRecursion (λ (entry : JournalEntry). entry.caller ≡ k → IsWork table entry.event) entries
work-along k table journal front [] work is = tt
work-along k table journal front (entry ∷ entries) work is = (
  λ his. owed-work table (tale_of front) entry.event (work front entries entry is his),
  work-along k table journal (front ++ entry ∷ []) entries work
      (is ∙ sym (append_assoc front (entry ∷ []) entries)),
)

-- The work of a worker comes of no wish.
work-weight : (f : Wish → ℕ) (table : ℕ) (event : Event) → IsWork table event → event_weight f event ≡ 0
work-weight f table (events.Begin other row) is = refl
work-weight f table (events.Settle other) is = refl
work-weight f table (events.Balance from to) is = refl
work-weight f table (events.Break there seats names) is = refl
work-weight f table event is = absurd is

his-none : (f : Wish → ℕ) (k table : ℕ) (entries : List JournalEntry)
    → AllByRecursion (λ (entry : JournalEntry). entry.caller ≡ k → IsWork table entry.event) entries
    → weigh (entry_weight f) (entries_by journal_caller k entries) ≡ 0
his-none f k table [] work = refl
his-none f k table (entry ∷ entries) work =
    let later = his-none f k table entries work.1 in
    let first = by-first journal_caller (entry_weight f) k entry entries in
    let here = by_caller (entry.caller == k) refl in
    omega (arith, later, first, here)
  where
    by_caller : (so : Bool) → (entry.caller == k) ≡ so → entry_weight f entry * one_if so ≡ 0
    by_caller true at =
        let none = work-weight f table entry.event (work.0 (eqb-true entry.caller k at)) in omega (arith, none)
    by_caller false at = omega arith

-- A front of hands weighs no more than all.
take-weight : (g : HandTerms → ℕ) (n : ℕ) (hands : List HandTerms) → weigh g (take n hands) ≤ weigh g hands
take-weight g zero hands = omega arith
take-weight g (suc n) [] = omega arith
take-weight g (suc n) (hand ∷ hands) = let later = take-weight g n hands in omega (arith, later)

-- what an entry weighs with the acts that it settles
abbrev pub whole_weight : (Wish → ℕ) → JournalEntry → ℕ
whole_weight f entry = settle_weight f entry + entry_weight f entry

-- What the worker of a table brought weighs no more than the table's history.
pub worker-weight : (f : Wish → ℕ) (k table : ℕ) (journal : List JournalEntry) (history : List TableEntry)
    → (tale_of journal).legal ≡ true → IsBrought k table journal history
    → weigh (whole_weight f) (entries_by journal_caller k journal) ≤ weigh (table_weight f table) history
worker-weight f k table journal history legal brought =
    let work = work-along k table journal [] journal brought.work refl in
    let his = entries_by journal_caller k journal in
    let settled = settled-weight f k table journal legal work in
    let none = his-none f k table journal work in
    let sum = weigh-both (settle_weight f) (entry_weight f) his in
    let front = take-weight (hand_weight f table) (length (hands_settled k (tale_of journal))) (hands_closed history) in
    let same : weigh (hand_weight f table) (hands_settled k (tale_of journal))
    ≡ weigh (hand_weight f table)
    (take (length (hands_settled k (tale_of journal))) (hands_closed history)) =
    ap (weigh (hand_weight f table)) brought.settled in
    let closed = closed-weight f table history in
    omega (arith, settled, none, sum, front, same, closed)
