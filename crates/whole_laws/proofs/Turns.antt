-- At each table hands begin and are settled in turn, along a journal.
use Rattle.std.proofs.Common.{◌≡◌, ◌∙◌, refl, sym, ap, subst, ℕ, ◌+◌, true, false, List, [], ◌∷◌, ◌++◌, fold, length, append-nil}
use Rattle.std.specs.Prelude.{◌==◌, Option, Some, None, option_to_list}
use Rattle.std.proofs.lemmas.Bool.{and_parts, eqb-true}
use Rattle.std.proofs.lemmas.List.{get_or-set_other, length-map}
use Rattle.card_set.specs.declared.card.CardRow.{CardRow}
use Rattle.level_plan.specs.Drafts.{plan_of}
use Rattle.table_engine.specs.declared.start.HandStart.{HandStart}
use Rattle.table_engine.specs.declared.record.ActOf.{ActOf}
use Rattle.table_engine.specs.Hands.{HandTerms}
use Rattle.tournament_events.specs.declared.event.Event.{Event}
use Rattle.tournament_events.specs.declared.event.Event.TheVariants as events
use Rattle.tournament_rules.specs.Books.{BookState, start_at}
use Rattle.tournament_rules.specs.Dealing.{next_start}
use Rattle.tournament_rules.specs.States.{PlayState, first_play, play_effect, refusal_of}
use Rattle.tournament_rules.specs.Valid.{IsValidPlay, IsValidState}
use Rattle.tournament_rules.proofs.Entries.{start_none}
use Rattle.tournament_rules.proofs.Fitting.{other_number}
use Rattle.tournament_rules.proofs.Going.{goes_on}
use Rattle.tournament_rules.proofs.Passed.{go_late, passed-parts, plan_late}
use Rattle.tournament_rules.proofs.Steps.{valid_run}
use Rattle.view_rules.specs.declared.entries.JournalEntry.{JournalEntry}
use Rattle.dock_rules.specs.Journals.{Settled, Tale, are_accepted, begun_by, book_of, events_of, first_tale, may_come, seeded, settled_by, told_one}
use Rattle.dock_rules.specs.Whole.{begun_at, settled_at}
use Rattle.whole_laws.proofs.EntriesTaken.{IsTaken, book-planned, book-told, event-taken, first-may, none-planned}
use Rattle.whole_laws.proofs.InTurn.{IsInTurn, begins-in_turn, settles-in_turn, starts_of, still-in_turn}
use Rattle.whole_laws.proofs.Planning.{by_plan, end-makes, line-leaves}
use Rattle.whole_laws.proofs.Starts.{begun-at, settled-at}
use Rattle.whole_laws.proofs.Told.{settled-one}

-- The hands of each table are in turn, as long as the tournament goes on.
abbrev pub AreInTurn : Tale → Type 0
AreInTurn tale = (book_of tale).stopped ≡ false → (table : ℕ)
    → IsInTurn table tale.begun tale.settled (start_at (book_of tale).started table)

-- An event that is taken keeps it so at each table.
in_turn-event : (tale : Tale) (caller : ℕ) (event : Event) (acts : List ActOf) (play : PlayState)
    → book_of tale ≡ play.book → IsValidPlay play → refusal_of play event ≡ None → AreInTurn tale
    → (play_effect play event).book.stopped ≡ false → (table : ℕ)
    → IsInTurn table (tale.begun ++ begun_by tale caller event) (tale.settled ++ settled_by tale caller event acts)
    (start_at (play_effect play event).book.started table)
in_turn-event tale caller event acts play same valid none turns going table = by_event event none going
  where
    before : Option HandStart
    before = start_at (book_of tale).started table

    now : start_at play.book.started table ≡ before
    now = ap (λ (book : BookState). start_at book.started table) (sym same)

    turn : play.book.stopped ≡ false → IsInTurn table tale.begun tale.settled before
    turn goes = turns (ap (λ (book : BookState). book.stopped) same ∙ goes) table

    by_event : (event : Event) → refusal_of play event ≡ None → (play_effect play event).book.stopped ≡ false
        → IsInTurn table (tale.begun ++ begun_by tale caller event)
        (tale.settled ++ settled_by tale caller event acts)
        (start_at (play_effect play event).book.started table)
    by_event (events.Plan line) none going =
        absurd (plan_late play.book line (passed-parts play (events.Plan line) none).0)
    by_event events.Go none going = absurd (go_late play.book (passed-parts play events.Go none).0)
    by_event (events.Begin there row) none going =
        let at = begun-at play there row valid none in
        begins-in_turn table tale.begun tale.settled
        (record { by = caller; start = next_start (book_of tale) there row.cards }) before
        (start_at (play_effect play (events.Begin there row)).book.started table)
        (λ mine.
        let is = eqb-true there table mine in (
          sym now ∙ (ap (start_at play.book.started) (sym is) ∙ at.before),
          ap (start_at (play_effect play (events.Begin there row)).book.started) (sym is)
              ∙ (at.after ∙ ap (λ (book : BookState). Some (next_start book there row.cards)) (sym same)),
        ))
        (λ apart. get_or-set_other play.book.started there table (Some (next_start play.book there row.cards)) None
        (other_number there table apart) ∙ now)
        (turn at.going)
    by_event (events.Settle there) none going =
        let found = settled-at play there valid none in
        let start : HandStart = found.0 in
        let at = found.1 in
        let new : Settled = record { by = caller; hand = record { start = start; acts = acts } } in
        subst (λ (settled : List Settled). IsInTurn table (tale.begun ++ []) (tale.settled ++ settled)
        (start_at (play_effect play (events.Settle there)).book.started table))
        (sym (settled-one tale caller there acts start
        (ap (λ (book : BookState). start_at book.started there) same ∙ at.before)))
        (settles-in_turn table tale.begun tale.settled new before
        (start_at (play_effect play (events.Settle there)).book.started table)
        (λ mine.
        let is : there ≡ table = sym at.here ∙ eqb-true start.table table mine in (
          sym now ∙ (ap (start_at play.book.started) (sym is) ∙ at.before),
          ap (start_at (play_effect play (events.Settle there)).book.started) (sym is) ∙ at.after,
        ))
        (λ apart. at.elsewhere table (ap (λ (number : ℕ). number == table) (sym at.here) ∙ apart) ∙ now)
        (turn at.going))
    by_event events.Stop none going = absurd cc
    by_event event none going =
        still-in_turn table tale.begun tale.settled before (start_at play.book.started table) now
        (turn (goes_on play.book event (passed-parts play event none).0))

-- An entry that is allowed keeps it so.
pub in_turn-entry : (tale : Tale) (entry : JournalEntry) → IsValidState tale.state → AreInTurn tale
    → may_come (seeded tale entry) entry ≡ true → AreInTurn (told_one tale entry)
in_turn-entry tale entry valid turns may = by_play tale.state.play refl
  where
    accepted : are_accepted tale.state (events_of entry) ≡ true
    accepted = (and_parts _ _ may).0

    by_play : (found : Option PlayState) → tale.state.play ≡ found → AreInTurn (told_one tale entry)
    by_play None none = by_plan tale.state
        (λ event acts. AreInTurn (told_one tale (entry_of event acts))) none
        (λ line acts going table.
        let after : Tale = told_one tale (entry_of (events.Plan line) acts) in
        bare table (start_at (book_of after).started table)
        (none-planned after table (line-leaves tale.state line none)))
        (λ acts ends going table.
        let after : Tale = told_one tale (entry_of events.Go acts) in
        let first : PlayState = first_play (plan_of tale.state.draft) in
        bare table (start_at (book_of after).started table)
        (ap (λ (book : BookState). start_at book.started table)
        (book-told after first (end-makes tale.state none ends))
        ∙ start_none (first.book.plan.tables + 1) table))
        entry.event entry.acts accepted
      where
        -- the entry with this event and these acts
        entry_of : Event → List ActOf → JournalEntry
        entry_of event acts = record entry { event = event; acts = acts }

        bare : (table : ℕ) (after : Option HandStart) → after ≡ None
            → IsInTurn table (tale.begun ++ []) (tale.settled ++ []) after
        bare table after after_none = still-in_turn table tale.begun tale.settled
            (start_at (book_of tale).started table) after (after_none ∙ sym (none-planned tale table none))
            (turns (ap (λ (book : BookState). book.stopped) (book-planned tale none)) table)
    by_play (Some play) is =
        let taken = event-taken tale.state entry.event entry.acts play valid is accepted in
        let after = book-told (told_one tale entry) (play_effect taken.play entry.event) taken.after in
        λ going table. subst (λ (book : BookState).
        IsInTurn table (told_one tale entry).begun (told_one tale entry).settled (start_at book.started table))
        (sym after)
        (in_turn-event (seeded tale entry) entry.caller entry.event entry.acts taken.play
        (book-told tale play is ∙ sym taken.same) taken.valid taken.free turns
        (sym (ap (λ (book : BookState). book.stopped) after) ∙ going) table)

-- It is so before any entry.
pub in_turn-first : AreInTurn first_tale
in_turn-first going table = sym (ap option_to_list (start_none ((plan_of first_tale.state.draft).tables + 1) table))

-- It is so after entries of which each is allowed.
pub in_turn-from : (tale : Tale) (entries : List JournalEntry) → IsValidState tale.state → AreInTurn tale
    → (fold told_one tale entries).legal ≡ true → AreInTurn (fold told_one tale entries)
in_turn-from tale [] valid turns legal = turns
in_turn-from tale (entry ∷ entries) valid turns legal =
    in_turn-from (told_one tale entry) entries (valid_run tale.state (events_of entry) valid)
    (in_turn-entry tale entry valid turns (first-may tale entry entries legal)) legal

-- No hand is out at a table, and the tournament goes on.
pub record IsBare (tale : Tale) (table : ℕ) : Type 0 where
  pub going : (book_of tale).stopped ≡ false
  pub none : start_at (book_of tale).started table ≡ None

-- It is so where a begin is taken.
pub bare-taken : (tale : Tale) (book : BookState) (table : ℕ) (row : CardRow) (acts : List ActOf)
    → book_of tale ≡ book → IsTaken tale.state (events.Begin table row) acts book → IsBare tale table
bare-taken tale book table row acts is taken =
    let at = begun-at taken.play table row taken.valid taken.free in
    let same = is ∙ sym taken.same in
    record {
      going = ap (λ (book : BookState). book.stopped) same ∙ at.going;
      none = ap (λ (book : BookState). start_at book.started table) same ∙ at.before;
    }

-- As many hands began at such a table as were settled there.
pub as_many : (tale : Tale) (table : ℕ) → AreInTurn tale → IsBare tale table
    → length (begun_at table tale) ≡ length (settled_at table tale)
as_many tale table turns bare =
    ap length (turns bare.going table
    ∙ (ap (λ (out : Option HandStart). starts_of (settled_at table tale) ++ option_to_list out) bare.none
    ∙ append-nil (starts_of (settled_at table tale))))
    ∙ length-map (settled_at table tale) (λ (hand : HandTerms). hand.start)
