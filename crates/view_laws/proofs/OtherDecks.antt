-- A list of events with another deck in the place of one of its begins agrees with it for a player to whom the two show
-- the same cards.
use Rattle.std.proofs.Common.{sym, subst, arith, ◌≡◌, refl, ap, ℕ, List, [], ◌∷◌, ◌++◌, inl, inr}
use Rattle.std.specs.Prelude.{slice_index_or, Option, Some, None, Contains}
use Rattle.std.specs.Option.{ForSome}
use Rattle.std.proofs.lemmas.List.Edits.{swapped_from_swap}
use Rattle.std.proofs.lemmas.List.Elements.{recursion_from_All, All-contains_itself}
use Rattle.card_set.specs.declared.card.CardRow.{CardRow}
use Rattle.card_set.specs.Decks.{IsDeck}
use Rattle.card_set.proofs.DeckLaws.{repeats_none-from_AllPairs}
use Rattle.table_engine.specs.Deals.{two_of_clubs}
use Rattle.tournament_events.specs.declared.answer.Answer.TheVariants.{Ok}
use Rattle.tournament_events.specs.declared.event.Event.{Event}
use Rattle.tournament_events.specs.declared.event.Event.TheVariants.{Begin}
use Rattle.tournament_rules.specs.Report.{report_of}
use Rattle.tournament_rules.specs.States.{State, PlayState, first_state, refusal_of, answer_to, answers, is_accepted, state_after, run}
use Rattle.tournament_rules.specs.Valid.{IsValidPlay, IsValidState}
use Rattle.tournament_rules.proofs.Begins.{start_is_lawful}
use Rattle.tournament_rules.proofs.Passed.{passed-parts}
use Rattle.tournament_rules.proofs.Steps.{accepted_none, valid_events}
use Rattle.view_rules.specs.Shown.{Viewer}
use Rattle.view_rules.specs.Views.{lines_seen_by}
use Rattle.view_rules.specs.Agreeing.{places_shown_in, IsOtherDeal, AgreeFrom, AgreeFor}
use Rattle.view_laws.specs.OtherDecks.{CouldBe, CouldChange}
use Rattle.view_laws.proofs.Members.{weaker}
use Rattle.view_laws.proofs.Decks.{exchanged-deck}
use Rattle.view_laws.proofs.Agreed.{agreed-answers, agreed-report, agreed-lines}

-- A list agrees with itself.
same-agrees : (who : Viewer) (events : List Event) (state : State) → AgreeFrom who state events events
same-agrees who [] state = tt
same-agrees who (event ∷ events) state = (inl refl, same-agrees who events (state_after state event))

-- Two lists that are the same but for one event agree where the one may stand for the other.
one-agrees : (who : Viewer) (before behind : List Event) (event entry : Event) (state : State)
    → IsOtherDeal who (run state before) behind event entry
    → AgreeFrom who state (before ++ event ∷ behind) (before ++ entry ∷ behind)
one-agrees who [] behind event entry state deal = (inr deal, same-agrees who behind (state_after state event))
one-agrees who (first ∷ before) behind event entry state deal =
    (inl refl, one-agrees who before behind event entry (state_after state first) deal)

-- So do lists with another deck that could be.
other-agrees : (who : Viewer) (before behind : List Event) (table : ℕ) (row other : CardRow)
    → CouldBe who before table row other behind
    → AgreeFor who (before ++ Begin table row ∷ behind) (before ++ Begin table other ∷ behind)
other-agrees who before behind table row other could =
    one-agrees who before behind (Begin table row) (Begin table other) first_state (record {
      table = table;
      row = row;
      other = other;
      is = refl;
      in_its_place = refl;
      accepted = ap is_accepted could.accepted;
      deck = could.deck;
      shown = could.shown;
    })

-- They are answered alike.
pub other-answers : (who : Viewer) (before behind : List Event) (table : ℕ) (row other : CardRow)
    → CouldBe who before table row other behind
    → answers first_state (before ++ Begin table row ∷ behind)
    ≡ answers first_state (before ++ Begin table other ∷ behind)
other-answers who before behind table row other could =
    agreed-answers who (before ++ Begin table row ∷ behind) (before ++ Begin table other ∷ behind)
    (other-agrees who before behind table row other could)

-- They are reported alike.
pub other-report : (who : Viewer) (before behind : List Event) (table : ℕ) (row other : CardRow)
    → CouldBe who before table row other behind
    → report_of (run first_state (before ++ Begin table row ∷ behind))
    ≡ report_of (run first_state (before ++ Begin table other ∷ behind))
other-report who before behind table row other could =
    agreed-report who (before ++ Begin table row ∷ behind) (before ++ Begin table other ∷ behind)
    (other-agrees who before behind table row other could)

-- They are told alike.
pub other-lines : (who : Viewer) (before behind : List Event) (table : ℕ) (row other : CardRow)
    → CouldBe who before table row other behind
    → lines_seen_by who (before ++ Begin table row ∷ behind)
    ≡ lines_seen_by who (before ++ Begin table other ∷ behind)
other-lines who before behind table row other could =
    agreed-lines who (before ++ Begin table row ∷ behind) (before ++ Begin table other ∷ behind)
    (other-agrees who before behind table row other could)

-- The row of a begin that is accepted is a deck.
row-deck : (state : State) (table : ℕ) (row : CardRow) → IsValidState state
    → answer_to state (Begin table row) ≡ Ok → IsDeck row.cards
row-deck state table row valid taken = by_play state.play valid.play taken
  where
    by_play : (play : Option PlayState) → ForSome play IsValidPlay
        → answer_to (record state { play = play }) (Begin table row) ≡ Ok → IsDeck row.cards
    by_play None valid taken = absurd cc
    by_play (Some play) valid taken =
        let free = accepted_none (refusal_of play (Begin table row)) (ap is_accepted taken) in
        (start_is_lawful play.book table row (valid play refl).book
        (passed-parts play (Begin table row) free).0).deck

-- A deck in which two cards that are not shown changed places could be.
pub changed-could : (who : Viewer) (before behind : List Event) (table : ℕ) (row other : CardRow) (one two : ℕ)
    → CouldChange who before table row other one two behind → CouldBe who before table row other behind
changed-could who before behind table row other one two could =
    let state = run first_state before in
    let places = places_shown_in who (state_after state (Begin table row)) table behind in
    let first : Contains (one ∷ two ∷ []) one = (0, omega arith, refl) in
    let second : Contains (one ∷ two ∷ []) two = (1, omega arith, refl) in
    let deck = row-deck state table row (valid_events before) could.accepted in
    let whole = deck.whole in
    let one_within = could.one_within in
    let two_within = could.two_within in
    let twin = exchanged-deck row.cards other.cards one two deck could.one_within could.two_within could.changed in
    let cards = swapped_from_swap row.cards other.cards one two two_of_clubs (omega (arith, whole, one_within))
    (omega (arith, whole, two_within)) could.changed in
    record {
      accepted = could.accepted;
      deck = repeats_none-from_AllPairs other.cards twin.distinct;
      shown = weaker (Contains places)
          (λ place. slice_index_or row.cards place two_of_clubs ≡ slice_index_or other.cards place two_of_clubs) places
          (λ place has. sym (cards.2 place
          (λ same. could.hidden one first (subst (λ (place : ℕ). Contains places place) same has))
          (λ same. could.hidden two second (subst (λ (place : ℕ). Contains places place) same has))))
          (recursion_from_All (Contains places) places (All-contains_itself places));
    }
