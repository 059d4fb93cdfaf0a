-- States that are the same but for decks, in which a player is shown the same cards: they answer alike, and stay the
-- same but for decks.
use Rattle.std.proofs.Common.{◌≡◌, ◌∙◌, refl, sym, ap, subst, ℕ, ◌+◌, true, false, List, [], ◌++◌, inl, inr}
use Rattle.std.specs.Prelude.{◌⊎◌, slice_set, Option, Some, None, option_map, option_and_then}
use Rattle.std.specs.Option.{option_map_or, option_or, ForSome}
use Rattle.std.proofs.lemmas.Option.{same_Some}
use Rattle.rulebook.proofs.Checks.{first_that_holds-later, none_holds-both}
use Rattle.floor_text.specs.declared.refusal.Refusal.{Refusal}
use Rattle.card_set.specs.declared.card.CardRow.{CardRow}
use Rattle.card_set.specs.Decks.{repeats_a_card}
use Rattle.level_plan.specs.Drafts.{Draft}
use Rattle.table_engine.specs.Hands.{HandTerms, is_over}
use Rattle.tournament_events.specs.declared.event.Event.{Event}
use Rattle.tournament_events.specs.declared.event.Event.TheVariants as events
use Rattle.tournament_rules.specs.Books.{BookState}
use Rattle.tournament_rules.specs.Checks.{book_refusal, going_checks, table_checks, due_checks, deck_checks}
use Rattle.tournament_rules.specs.Effects.{settled}
use Rattle.tournament_rules.specs.States.{State, PlayState, hand_at, refusal_of, answered, answer_to, is_accepted, play_effect, state_after}
use Rattle.tournament_rules.specs.Valid.{IsValidPlay, IsValidState}
use Rattle.tournament_rules.proofs.Passed.{refusal-parts, passed-parts, settle_passed, end_passed}
use Rattle.tournament_rules.proofs.PlayedHands.{hand_there}
use Rattle.tournament_rules.proofs.Steps.{accepted_none}
use Rattle.view_rules.specs.Shown.{Viewer, places_shown}
use Rattle.view_rules.specs.Seen.{undealt, undealt_play, hand_in}
use Rattle.view_rules.specs.Agreeing.{HaveSameAt, IsOtherDeal}
use Rattle.view_laws.proofs.Refusals.{hand_at-undealt, refusal-undealt}
use Rattle.view_laws.proofs.Effects.{is_of_cards, begun_play, begun-undealt, effect-undealt}
use Rattle.view_laws.proofs.Settles.{settled-alike}
use Rattle.view_laws.proofs.Growing.{shown_of}

-- Two hands, if both are played, have the same cards at these places.
abbrev pub AreSameAt : List ℕ → Option HandTerms → Option HandTerms → Type 0
AreSameAt places None other = Unit {0}
AreSameAt places (Some one) None = Unit {0}
AreSameAt places (Some one) (Some other) = HaveSameAt places one.start.deck other.start.deck

-- Two hands, if both are played, have the same cards at all places that the first shows to a player.
abbrev pub AreShownAlike : Viewer → Option HandTerms → Option HandTerms → Type 0
AreShownAlike who one other = AreSameAt (shown_of who one) one other

-- Two states are the same but for decks.
pub record AreAlike (one other : State) : Type 0 where
  pub draft : one.draft ≡ other.draft
  pub play : option_map undealt_play one.play ≡ option_map undealt_play other.play
  pub accepted : one.accepted ≡ other.accepted

-- Two events, one in each of two states, are answered alike, and the states after them are the same but for decks.
pub record AreStepped (one other : State) (event entry : Event) : Type 0 where
  pub answer : answer_to one event ≡ answer_to other entry
  pub after : AreAlike (state_after one event) (state_after other entry)

-- An event is refused alike in tournaments that are the same but for decks.
refused-alike : (one other : PlayState) (event : Event) → undealt_play one ≡ undealt_play other
    → refusal_of one event ≡ refusal_of other event
refused-alike one other event same =
    sym (refusal-undealt one event)
    ∙ (ap (λ (play : PlayState). refusal_of play event) same ∙ refusal-undealt other event)

-- After begins with any rows.
begun-alike : (one other : PlayState) (table : ℕ) (row twin : CardRow) → undealt_play one ≡ undealt_play other
    → undealt_play (play_effect one (events.Begin table row))
    ≡ undealt_play (play_effect other (events.Begin table twin))
begun-alike one other table row twin same =
    begun-undealt one table row
    ∙ (ap (λ (play : PlayState). begun_play play table) same ∙ sym (begun-undealt other table twin))

-- A hand that is played at a table and over, as a settle there finds it.
record IsFound (play : PlayState) (table : ℕ) : Type 0 where
  hand : HandTerms
  is : hand_at play table ≡ Some hand
  over : is_over hand ≡ true

found-at : (play : PlayState) (table : ℕ) → IsValidPlay play → refusal_of play (events.Settle table) ≡ None
    → IsFound play table
found-at play table valid free =
    let parts = passed-parts play (events.Settle table) free in
    let played = hand_there play table valid (settle_passed play.book table parts.0).playing in
    record { hand = played.hand; is = played.is; over = end_passed played.hand (rw played.is at parts.1) }

-- the tournament once a hand at a table is settled, if it is played
abbrev settled_in : PlayState → ℕ → Option HandTerms → PlayState
settled_in play table hand =
    record { book = option_map_or (settled play.book) hand play.book; acts = slice_set play.acts table [] }

-- After a settle, where the hands there are shown alike.
ended-alike : (who : Viewer) (one other : PlayState) (table : ℕ) → IsValidPlay one → IsValidPlay other
    → undealt_play one ≡ undealt_play other → AreShownAlike who (hand_at one table) (hand_at other table)
    → refusal_of one (events.Settle table) ≡ None
    → undealt_play (play_effect one (events.Settle table)) ≡ undealt_play (play_effect other (events.Settle table))
ended-alike who one other table valid valid_too same shown free =
    let his = found-at one table valid free in
    let hers = found-at other table valid_too (sym (refused-alike one other (events.Settle table) same) ∙ free) in
    let hands : undealt his.hand ≡ undealt hers.hand = same_Some _ _
    (sym (hand_at-undealt one table ∙ ap (option_map undealt) his.is)
    ∙ (ap (λ (play : PlayState). hand_at play table) same
    ∙ (hand_at-undealt other table ∙ ap (option_map undealt) hers.is))) in
    let first = subst (λ (hand : Option HandTerms). AreShownAlike who hand (hand_at other table)) his.is shown in
    let cards : HaveSameAt (places_shown who his.hand) his.hand.start.deck hers.hand.start.deck =
    subst (λ (hand : Option HandTerms). AreShownAlike who (Some his.hand) hand) hers.is first in
    let books = settled-alike who one.book other.book his.hand hers.hand
    (ap (λ (play : PlayState). play.book) same) hands his.over cards in
    let acts = ap (λ (play : PlayState). play.acts) same in
    ap (λ (hand : Option HandTerms). undealt_play (settled_in one table hand)) his.is
    ∙ ((λ i. record { book = books i; acts = slice_set (acts i) table [] })
    ∙ sym (ap (λ (hand : Option HandTerms). undealt_play (settled_in other table hand)) hers.is))

-- After an event that has nothing to do with cards.
by_effect : (one other : PlayState) (event : Event) → is_of_cards event ≡ false → undealt_play one ≡ undealt_play other
    → undealt_play (play_effect one event) ≡ undealt_play (play_effect other event)
by_effect one other event apart same =
    effect-undealt one event apart
    ∙ (ap (λ (play : PlayState). play_effect play event) same ∙ sym (effect-undealt other event apart))

-- After the same event.
effects-alike : (who : Viewer) (one other : PlayState) (event : Event) → IsValidPlay one → IsValidPlay other
    → undealt_play one ≡ undealt_play other
    → ((table : ℕ) → AreShownAlike who (hand_at one table) (hand_at other table))
    → refusal_of one event ≡ None → undealt_play (play_effect one event) ≡ undealt_play (play_effect other event)
effects-alike who one other (events.Begin table row) valid valid_too same shown free =
    begun-alike one other table row row same
effects-alike who one other (events.Settle table) valid valid_too same shown free =
    ended-alike who one other table valid valid_too same (shown table) free
effects-alike who one other event valid valid_too same shown free = by_effect one other event refl same

-- the state of a tournament whose plan is whole
abbrev whole : Draft → PlayState → ℕ → State
whole draft play count = record { draft = draft; play = Some play; accepted = count }

-- Where both events are refused alike, and both tournaments after them are the same but for decks where they are not.
stepped : (draft twin : Draft) (one other : PlayState) (count number : ℕ) (event entry : Event) → draft ≡ twin
    → count ≡ number → undealt_play one ≡ undealt_play other → refusal_of one event ≡ refusal_of other entry
    → (refusal_of one event ≡ None → undealt_play (play_effect one event) ≡ undealt_play (play_effect other entry))
    → AreStepped (whole draft one count) (whole twin other number) event entry
stepped draft twin one other count number event entry drafts counts plays refusals effects =
    by_refusal (refusal_of one event) refl
  where
    by_refusal : (found : Option Refusal) → refusal_of one event ≡ found
        → AreStepped (whole draft one count) (whole twin other number) event entry
    by_refusal None is =
        let too = sym refusals ∙ is in
        record {
          answer = ap answered refusals;
          after = rw (is, too) (record {
            draft = drafts;
            play = ap (λ (play : PlayState). Some play) (effects is);
            accepted = ap (λ (count : ℕ). count + 1) counts;
          });
        }
    by_refusal (Some refusal) is =
        let too = sym refusals ∙ is in
        record {
          answer = ap answered refusals;
          after = rw (is, too) (record {
            draft = drafts;
            play = ap (λ (play : PlayState). Some play) plays;
            accepted = counts;
          });
        }

-- A begin with another deck is accepted by the book where a begin is.
other_deck : (book : BookState) (table : ℕ) (row twin : CardRow) → book_refusal book (events.Begin table row) ≡ None
    → repeats_a_card twin.cards ≡ false → book_refusal book (events.Begin table twin) ≡ None
unfolding book_refusal
other_deck book table row twin none deck =
    let front = going_checks book ++ table_checks book table ++ due_checks book table in
    first_that_holds-later front (deck_checks twin) (none_holds-both front (deck_checks row) none).0 ∙ rw deck refl

-- So it is by the tournament.
begun_free : (play : PlayState) (table : ℕ) (row twin : CardRow) → refusal_of play (events.Begin table row) ≡ None
    → repeats_a_card twin.cards ≡ false → refusal_of play (events.Begin table twin) ≡ None
begun_free play table row twin none deck =
    let book = other_deck play.book table row twin (passed-parts play (events.Begin table row) none).0 deck in
    refusal-parts play (events.Begin table twin) ∙ ap (λ (refusal : Option Refusal). option_or refusal None) book

-- Before there is a plan two states are the same.
planned : (draft twin : Draft) (count number : ℕ) (event : Event) → draft ≡ twin → count ≡ number
    → AreStepped (record { draft = draft; play = None; accepted = count })
    (record { draft = twin; play = None; accepted = number }) event event
planned draft twin count number event drafts counts =
    let same : ◌≡◌ {A = State} (record { draft = draft; play = None; accepted = count })
    (record { draft = twin; play = None; accepted = number }) =
    λ i. record { draft = drafts i; play = None; accepted = counts i } in
    let after = ap (λ (state : State). state_after state event) same in
    record {
      answer = ap (λ (state : State). answer_to state event) same;
      after = record {
        draft = ap (λ (state : State). state.draft) after;
        play = ap (λ (state : State). option_map undealt_play state.play) after;
        accepted = ap (λ (state : State). state.accepted) after;
      };
    }

-- The same event in both.
same_event : (who : Viewer) (draft twin : Draft) (one other : Option PlayState) (count number : ℕ) (event : Event)
    → draft ≡ twin → count ≡ number → ForSome one IsValidPlay → ForSome other IsValidPlay
    → option_map undealt_play one ≡ option_map undealt_play other
    → ((table : ℕ) → AreShownAlike who (option_and_then (λ play. hand_at play table) one)
    (option_and_then (λ play. hand_at play table) other))
    → AreStepped (record { draft = draft; play = one; accepted = count })
    (record { draft = twin; play = other; accepted = number }) event event
same_event who draft twin None None count number event drafts counts valid valid_too plays shown =
    planned draft twin count number event drafts counts
same_event who draft twin None (Some other) count number event drafts counts valid valid_too plays shown = absurd cc
same_event who draft twin (Some one) None count number event drafts counts valid valid_too plays shown = absurd cc
same_event who draft twin (Some one) (Some other) count number event drafts counts valid valid_too plays shown =
    let same = same_Some (undealt_play one) (undealt_play other) plays in
    stepped draft twin one other count number event event drafts counts same (refused-alike one other event same)
    (effects-alike who one other event (valid one refl) (valid_too other refl) same shown)

-- A begin in the one, and a begin with another deck in the other.
other_deal : (draft twin : Draft) (one other : Option PlayState) (count number table : ℕ) (row deal : CardRow)
    → draft ≡ twin → count ≡ number → option_map undealt_play one ≡ option_map undealt_play other
    → is_accepted (answer_to (record { draft = draft; play = one; accepted = count }) (events.Begin table row)) ≡ true
    → repeats_a_card deal.cards ≡ false
    → AreStepped (record { draft = draft; play = one; accepted = count })
    (record { draft = twin; play = other; accepted = number }) (events.Begin table row) (events.Begin table deal)
other_deal draft twin None other count number table row deal drafts counts plays taken deck = absurd cc
other_deal draft twin (Some one) None count number table row deal drafts counts plays taken deck = absurd cc
other_deal draft twin (Some one) (Some other) count number table row deal drafts counts plays taken deck =
    let same = same_Some (undealt_play one) (undealt_play other) plays in
    let none = accepted_none (refusal_of one (events.Begin table row)) taken in
    let too = sym (refused-alike one other (events.Begin table row) same) ∙ none in
    stepped draft twin one other count number (events.Begin table row) (events.Begin table deal) drafts counts same
    (none ∙ sym (begun_free other table row deal too deck)) (λ none. begun-alike one other table row deal same)

-- One event in each of two states in which a player is shown the same cards.
pub one-step : (who : Viewer) (one other : State) (behind : List Event) (event entry : Event) → IsValidState one
    → IsValidState other → AreAlike one other
    → ((table : ℕ) → AreShownAlike who (hand_in one table) (hand_in other table))
    → (event ≡ entry) ⊎ IsOtherDeal who one behind event entry → AreStepped one other event entry
one-step who one other behind event entry valid valid_too alike shown (inl same) =
    subst (λ (entry : Event). AreStepped one other event entry) same
    (same_event who one.draft other.draft one.play other.play one.accepted other.accepted event alike.draft
    alike.accepted valid.play valid_too.play alike.play shown)
one-step who one other behind event entry valid valid_too alike shown (inr deal) =
    let taken : is_accepted (answer_to one (events.Begin deal.table deal.row)) ≡ true = rw deal.is at deal.accepted in
    subst (λ (event : Event). AreStepped one other event entry) (sym deal.is)
    (subst (λ (entry : Event). AreStepped one other (events.Begin deal.table deal.row) entry) (sym deal.in_its_place)
    (other_deal one.draft other.draft one.play other.play one.accepted other.accepted deal.table deal.row deal.other
    alike.draft alike.accepted alike.play taken deal.deck))
