-- Lists that agree for a player from two states on are answered, reported and told to him alike.
use Rattle.std.proofs.Common.{◌≡◌, ◌∙◌, refl, sym, ap, subst, ℕ, Bool, true, cond, List, [], ◌∷◌, ◌++◌, inl, inr}
use Rattle.std.specs.Prelude.{◌⊎◌, is_some, slice_index_or, Option, Some, None, option_map, option_and_then}
use Rattle.std.specs.List.{AllByRecursion}
use Rattle.std.specs.Option.{option_map_or}
use Rattle.std.proofs.lemmas.Option.{same_Some}
use Rattle.card_set.specs.declared.card.Card.{Card}
use Rattle.card_set.specs.declared.card.CardRow.{CardRow}
use Rattle.table_engine.specs.Deals.{two_of_clubs}
use Rattle.table_engine.specs.Hands.{HandTerms}
use Rattle.tournament_events.specs.declared.event.Event.{Event}
use Rattle.tournament_events.specs.declared.event.Event.TheVariants as events
use Rattle.tournament_rules.specs.Report.{book_report, report_of, empty_report}
use Rattle.tournament_rules.specs.States.{State, PlayState, first_state, hand_at, answers, is_accepted, state_after, run}
use Rattle.tournament_rules.specs.Valid.{IsValidState}
use Rattle.tournament_rules.proofs.Steps.{valid_state_after, valid_first_state}
use Rattle.view_rules.specs.Shown.{Viewer}
use Rattle.view_rules.specs.Seen.{seen_hand, seen_by, seen_event, undealt, undealt_play, hand_in}
use Rattle.view_rules.specs.Entries.{begun, with_act}
use Rattle.view_rules.specs.Views.{Teller, told_from, lines_seen_by}
use Rattle.view_rules.specs.Lines.{lines_of_event}
use Rattle.view_rules.specs.Agreeing.{hand_left, places_shown_in, HaveSameAt, IsOtherDeal, AgreeFrom, AgreeFor}
use Rattle.view_laws.proofs.Members.{always_hold}
use Rattle.view_laws.proofs.Settles.{redealt-same}
use Rattle.view_laws.proofs.Seen.{hand-alike}
use Rattle.view_laws.proofs.Refusals.{hand_at-undealt}
use Rattle.view_laws.proofs.Reports.{report-undealt}
use Rattle.view_laws.proofs.GoesOn.{GoesOn, Ends, Stays, Begins, Acts, HasBegun, state-goes_on}
use Rattle.view_laws.proofs.Growing.{shown_of, shown-now}
use Rattle.view_laws.proofs.Alike.{AreSameAt, AreShownAlike, AreAlike, one-step}

-- The hands at each table, if both are played, have the same cards at all places that a list of events comes to show to
-- a player.
abbrev ArePromised : Viewer → State → State → List Event → Type 0
ArePromised who one other events =
    (table : ℕ) → AreSameAt (places_shown_in who one table events) (hand_in one table) (hand_in other table)

-- Cards that are the same at places are the same at any others to which all leads.
fewer : (one other : Option HandTerms) (places some : List ℕ)
    → ((P : ℕ → Type 0) → AllByRecursion P places → AllByRecursion P some) → AreSameAt places one other
    → AreSameAt some one other
fewer None other places some leads same = tt
fewer (Some one) None places some leads same = tt
fewer (Some one) (Some other) places some leads same =
    leads (λ place. slice_index_or one.start.deck place two_of_clubs
    ≡ slice_index_or other.start.deck place two_of_clubs) same

-- So the hands are shown alike now.
promised-now : (who : Viewer) (one other : State) (events : List Event) → IsValidState one
    → ArePromised who one other events → (table : ℕ) → AreShownAlike who (hand_in one table) (hand_in other table)
promised-now who one other events valid promised table =
    fewer (hand_in one table) (hand_in other table) (places_shown_in who one table events)
    (shown_of who (hand_in one table))
    (λ P. shown-now who P events one table valid) (promised table)

-- In states that are the same but for decks the same hands are played but for decks.
hands-undealt : (one other : Option PlayState) (table : ℕ)
    → option_map undealt_play one ≡ option_map undealt_play other
    → option_map undealt (option_and_then (λ play. hand_at play table) one)
    ≡ option_map undealt (option_and_then (λ play. hand_at play table) other)
hands-undealt None None table same = refl
hands-undealt None (Some other) table same = absurd cc
hands-undealt (Some one) None table same = absurd cc
hands-undealt (Some one) (Some other) table same =
    sym (hand_at-undealt one table)
    ∙ (ap (λ (play : PlayState). hand_at play table) (same_Some (undealt_play one) (undealt_play other) same)
    ∙ hand_at-undealt other table)

-- Two hands that are the same but for decks, and are shown alike, are seen the same.
hands-seen : (who : Viewer) (one other : Option HandTerms) → option_map undealt one ≡ option_map undealt other
    → AreShownAlike who one other → option_map (seen_hand who) one ≡ option_map (seen_hand who) other
hands-seen who None None same shown = refl
hands-seen who None (Some other) same shown = absurd cc
hands-seen who (Some one) None same shown = absurd cc
hands-seen who (Some one) (Some other) same shown =
    ap Some (hand-alike who one other.start.deck shown
    ∙ ap (seen_hand who) (redealt-same one other (same_Some (undealt one) (undealt other) same)))

-- Two states that are the same but for decks, in which a player is shown the same cards, are seen the same.
states-seen : (who : Viewer) (one other : State) → AreAlike one other
    → ((table : ℕ) → AreShownAlike who (hand_in one table) (hand_in other table)) → seen_by who one ≡ seen_by who other
states-seen who one other alike shown =
    let hands = λ (table : ℕ). hands-seen who (hand_in one table) (hand_in other table)
    (hands-undealt one.play other.play table alike.play) (shown table) in
    λ i. record {
      state = record { draft = alike.draft i; play = alike.play i; accepted = alike.accepted i };
      hands = λ table. hands table i;
    }

-- An event and what stands in its place are seen the same.
events-seen : (who : Viewer) (one : State) (behind : List Event) (event entry : Event)
    → (event ≡ entry) ⊎ IsOtherDeal who one behind event entry → seen_event event ≡ seen_event entry
events-seen who one behind event entry (inl same) = ap seen_event same
events-seen who one behind event entry (inr deal) = ap seen_event deal.is ∙ sym (ap seen_event deal.in_its_place)

-- A hand had this deck before.
record HadDeck (before : Option HandTerms) (hand : HandTerms) : Type 0 where
  earlier : HandTerms
  was : before ≡ Some earlier
  deck : earlier.start.deck ≡ hand.start.deck

-- The hand that is played now was played before, with the same deck.
abbrev KeepsDeck : Option HandTerms → Option HandTerms → Type 0
KeepsDeck before after = (hand : HandTerms) → after ≡ Some hand → HadDeck before hand

-- A hand goes on with its deck, or it begins.
deck-goes_on : (before after : Option HandTerms) (event : Event) (table : ℕ) → GoesOn before event table after
    → KeepsDeck before after ⊎ HasBegun before event table after
deck-goes_on before after event table (Ends none) =
    inl (λ hand is. let never : None ≡ Some hand = sym none ∙ is in absurd cc)
deck-goes_on before after event table (Stays same) =
    inl (λ hand is. record { earlier = hand; was = sym same ∙ is; deck = refl })
deck-goes_on before after event table (Begins begins) = inr begins
deck-goes_on before after event table (Acts acts) = inl (λ hand is. record {
  earlier = acts.hand;
  was = acts.was;
  deck = ap (λ (hand : HandTerms). hand.start.deck)
      (same_Some (with_act acts.act acts.hand) hand (sym acts.now ∙ is));
})

-- Hands that go on with their decks have the same cards at places where they had them.
kept-same : (places : List ℕ) (one one_after other other_after : Option HandTerms) → KeepsDeck one one_after
    → KeepsDeck other other_after → (is_some one_after ≡ true → AreSameAt places one other)
    → AreSameAt places one_after other_after
kept-same places one None other other_after his hers same = tt
kept-same places one (Some one_after) other None his hers same = tt
kept-same places one (Some one_after) other (Some other_after) his hers same =
    let first = his one_after refl in
    let second = hers other_after refl in
    let was = subst (λ (hand : Option HandTerms). AreSameAt places hand other) first.was (same refl) in
    let both : HaveSameAt places first.earlier.start.deck second.earlier.start.deck =
    subst (λ (hand : Option HandTerms). AreSameAt places (Some first.earlier) hand) second.was was in
    subst (λ (deck : List Card). HaveSameAt places one_after.start.deck deck) second.deck
    (subst (λ (deck : List Card). HaveSameAt places deck second.earlier.start.deck) first.deck both)

-- Where none was played in the first, and its hand goes on, none is played now.
none-first : (places : List ℕ) (one one_after other_after : Option HandTerms) → KeepsDeck one one_after → one ≡ None
    → AreSameAt places one_after other_after
none-first places one None other_after keeps none = tt
none-first places one (Some one_after) other_after keeps none =
    let had = keeps one_after refl in let never : None ≡ Some had.earlier = sym none ∙ had.was in absurd cc

-- The same in the second.
none-second : (places : List ℕ) (one_after other other_after : Option HandTerms) → KeepsDeck other other_after
    → other ≡ None → AreSameAt places one_after other_after
none-second places None other other_after keeps none = tt
none-second places (Some one_after) other None keeps none = tt
none-second places (Some one_after) other (Some other_after) keeps none =
    let had = keeps other_after refl in let never : None ≡ Some had.earlier = sym none ∙ had.was in absurd cc

-- Where a hand is played in neither but for decks, none is.
none-too : (one other : Option HandTerms) → option_map undealt one ≡ option_map undealt other → one ≡ None
    → other ≡ None
none-too one None same none = refl
none-too one (Some other) same none =
    let never : None ≡ Some (undealt other) = sym (ap (option_map undealt) none) ∙ same in absurd cc

-- The rows of begins that may stand for each other have the same cards at all places that the first list shows.
rows-same : (who : Viewer) (state : State) (behind : List Event) (event entry : Event) (table : ℕ) (row twin : CardRow)
    → event ≡ events.Begin table row → entry ≡ events.Begin table twin
    → (event ≡ entry) ⊎ IsOtherDeal who state behind event entry
    → HaveSameAt (places_shown_in who (state_after state event) table behind) row.cards twin.cards
rows-same who state behind event entry table row twin is is_too (inl same) =
    let begins : events.Begin table row ≡ events.Begin table twin = sym is ∙ (same ∙ is_too) in
    let rows : row ≡ twin = cc in
    subst (λ (twin : CardRow). HaveSameAt (places_shown_in who (state_after state event) table behind) row.cards
    twin.cards) rows
    (always_hold (λ place. slice_index_or row.cards place two_of_clubs ≡ slice_index_or row.cards place two_of_clubs)
    (places_shown_in who (state_after state event) table behind) (λ place. refl))
rows-same who state behind event entry table row twin is is_too (inr deal) =
    let begins : events.Begin deal.table deal.row ≡ events.Begin table row = sym deal.is ∙ is in
    let instead : events.Begin deal.table deal.other ≡ events.Begin table twin = sym deal.in_its_place ∙ is_too in
    let tables : deal.table ≡ table = cc in
    let rows : deal.row ≡ row = cc in
    let twins : deal.other ≡ twin = cc in
    subst (λ (twin : CardRow). HaveSameAt (places_shown_in who (state_after state event) table behind) row.cards
    twin.cards) twins
    (subst (λ (row : CardRow). HaveSameAt (places_shown_in who (state_after state event) table behind) row.cards
    deal.other.cards) rows
    (subst (λ (table : ℕ). HaveSameAt (places_shown_in who (state_after state event) table behind) deal.row.cards
    deal.other.cards) tables deal.shown))

-- Hands that begin by such begins have.
begun-same : (places : List ℕ) (one one_after other other_after : Option HandTerms) (event entry : Event) (table : ℕ)
    → (his : HasBegun one event table one_after) → (hers : HasBegun other entry table other_after)
    → HaveSameAt places his.row.cards hers.row.cards → AreSameAt places one_after other_after
begun-same places one one_after other other_after event entry table his hers same =
    let first = subst (λ (deck : List Card). HaveSameAt places deck hers.row.cards) (sym his.deck) same in
    let both : AreSameAt places (Some (begun his.start)) (Some (begun hers.start)) =
    subst (λ (deck : List Card). HaveSameAt places his.start.deck deck) (sym hers.deck) first in
    let second = subst (λ (hand : Option HandTerms). AreSameAt places (Some (begun his.start)) hand)
    (sym hers.now) both in
    subst (λ (hand : Option HandTerms). AreSameAt places hand other_after) (sym his.now) second

-- What the first list comes to show stays the same after an event.
promised-after : (who : Viewer) (one other : State) (behind : List Event) (event entry : Event) → IsValidState one
    → IsValidState other → AreAlike one other → ArePromised who one other (event ∷ behind)
    → (event ≡ entry) ⊎ IsOtherDeal who one behind event entry
    → ArePromised who (state_after one event) (state_after other entry) behind
promised-after who one other behind event entry valid valid_too alike promised agree table =
    let same = hands-undealt one.play other.play table alike.play in
    by_hands
    (deck-goes_on (hand_in one table) his event table (state-goes_on one event table valid))
    (deck-goes_on (hand_in other table) hers entry table (state-goes_on other entry table valid_too))
    same
  where
    his : Option HandTerms
    his = hand_in (state_after one event) table

    hers : Option HandTerms
    hers = hand_in (state_after other entry) table

    left : Option HandTerms
    left = hand_left (state_after one event) table behind

    now : is_some (hand_in (state_after one event) table) ≡ true
        → AreSameAt (places_shown_in who (state_after one event) table behind) (hand_in one table) (hand_in other table)
    now some =
        subst (λ (some : Bool). AreSameAt (shown_of who (cond some left (hand_in one table))) (hand_in one table)
        (hand_in other table)) some (promised table)

    by_hands : KeepsDeck (hand_in one table) (hand_in (state_after one event) table)
        ⊎ HasBegun (hand_in one table) event table (hand_in (state_after one event) table)
        → KeepsDeck (hand_in other table) (hand_in (state_after other entry) table)
        ⊎ HasBegun (hand_in other table) entry table (hand_in (state_after other entry) table)
        → option_map undealt (hand_in one table) ≡ option_map undealt (hand_in other table)
        → AreSameAt (places_shown_in who (state_after one event) table behind) (hand_in (state_after one event) table)
        (hand_in (state_after other entry) table)
    by_hands (inl keeps) (inl keeps_too) same =
        kept-same (places_shown_in who (state_after one event) table behind) (hand_in one table)
        (hand_in (state_after one event) table) (hand_in other table) (hand_in (state_after other entry) table) keeps
        keeps_too now
    by_hands (inl keeps) (inr begins) same =
        none-first (places_shown_in who (state_after one event) table behind) (hand_in one table)
        (hand_in (state_after one event) table) (hand_in (state_after other entry) table) keeps
        (none-too (hand_in other table) (hand_in one table) (sym same) begins.none)
    by_hands (inr begins) (inl keeps) same =
        none-second (places_shown_in who (state_after one event) table behind) (hand_in (state_after one event) table)
        (hand_in other table) (hand_in (state_after other entry) table) keeps
        (none-too (hand_in one table) (hand_in other table) same begins.none)
    by_hands (inr begins) (inr begins_too) same =
        begun-same (places_shown_in who (state_after one event) table behind) (hand_in one table)
        (hand_in (state_after one event) table) (hand_in other table) (hand_in (state_after other entry) table) event
        entry table begins begins_too
        (rows-same who one behind event entry table begins.row begins_too.row begins.is begins_too.is agree)

-- Two lists from two states on are answered alike, end in states that are the same but for decks, and are told alike.
record AreTold {A : Type 0} (tell : Teller A) (who : Viewer) (one other : State) (events entries : List Event) : Type 0
  where
    answers : answers one events ≡ answers other entries
    after : AreAlike (run one events) (run other entries)
    told : told_from tell who one events ≡ told_from tell who other entries

-- Lists that agree for a player are, whoever tells him from what he sees.
all-told : {A : Type 0} (tell : Teller A) (who : Viewer) (events entries : List Event) (one other : State)
    → IsValidState one → IsValidState other → AreAlike one other → ArePromised who one other events
    → AgreeFrom who one events entries → AreTold tell who one other events entries
all-told tell who [] [] one other valid valid_too alike promised agree =
    record { answers = refl; after = alike; told = refl }
all-told tell who [] (entry ∷ entries) one other valid valid_too alike promised agree = absurd agree
all-told tell who (event ∷ events) [] one other valid valid_too alike promised agree = absurd agree
all-told tell who (event ∷ events) (entry ∷ entries) one other valid valid_too alike promised agree =
    let one_after = state_after one event in
    let other_after = state_after other entry in
    let next = valid_state_after one event valid in
    let next_too = valid_state_after other entry valid_too in
    let shown = promised-now who one other (event ∷ events) valid promised in
    let step = one-step who one other events event entry valid valid_too alike shown agree.0 in
    let later = promised-after who one other events event entry valid valid_too alike promised agree.0 in
    let before = states-seen who one other alike shown in
    let same = events-seen who one events event entry agree.0 in
    let after = states-seen who one_after other_after step.after
    (promised-now who one_after other_after events next later) in
    let rest = all-told tell who events entries one_after other_after next next_too step.after later agree.1 in
    record {
      answers = λ i. step.answer i ∷ rest.answers i;
      after = rest.after;
      told = λ i. cond (is_accepted (step.answer i)) (tell (before i) (same i) (after i)) [] ++ rest.told i;
    }

-- Two lists that agree for a player from the first state on are.
agreed : {A : Type 0} (tell : Teller A) (who : Viewer) (events entries : List Event) → AgreeFor who events entries
    → AreTold tell who first_state first_state events entries
agreed tell who events entries agree =
    all-told tell who events entries first_state first_state valid_first_state valid_first_state
    (record { draft = refl; play = refl; accepted = refl }) (λ table. tt) agree

-- They are answered alike.
pub agreed-answers : (who : Viewer) (events entries : List Event) → AgreeFor who events entries
    → answers first_state events ≡ answers first_state entries
agreed-answers who events entries agree = (agreed lines_of_event who events entries agree).answers

-- They are told alike.
pub agreed-lines : (who : Viewer) (events entries : List Event) → AgreeFor who events entries
    → lines_seen_by who events ≡ lines_seen_by who entries
agreed-lines who events entries agree = (agreed lines_of_event who events entries agree).told

-- Tournaments that are the same but for decks are reported alike.
reports-alike : (one other : Option PlayState) → option_map undealt_play one ≡ option_map undealt_play other
    → option_map_or (λ play. book_report play.book) one empty_report
    ≡ option_map_or (λ play. book_report play.book) other empty_report
reports-alike None None same = refl
reports-alike None (Some other) same = absurd cc
reports-alike (Some one) None same = absurd cc
reports-alike (Some one) (Some other) same =
    sym (report-undealt one.book)
    ∙ (ap (λ (play : PlayState). book_report play.book) (same_Some (undealt_play one) (undealt_play other) same)
    ∙ report-undealt other.book)

-- They are reported alike.
pub agreed-report : (who : Viewer) (events entries : List Event) → AgreeFor who events entries
    → report_of (run first_state events) ≡ report_of (run first_state entries)
agreed-report who events entries agree =
    reports-alike (run first_state events).play (run first_state entries).play
    (agreed lines_of_event who events entries agree).after.play
