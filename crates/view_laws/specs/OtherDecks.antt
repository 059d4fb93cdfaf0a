-- Which other deck a hand could have had. This project's own.
use Rattle.std.specs.Prelude.{◌≡◌, ◌<◌, ℕ, false, List, [], ◌∷◌, swap}
use Rattle.card_set.specs.declared.card.CardRow.{CardRow}
use Rattle.card_set.specs.Decks.{repeats_a_card}
use Rattle.tournament_events.specs.declared.answer.Answer.TheVariants.{Ok}
use Rattle.tournament_events.specs.declared.event.Event.{Event}
use Rattle.tournament_events.specs.declared.event.Event.TheVariants.{Begin}
use Rattle.tournament_rules.specs.States.{first_state, answer_to, state_after, run}
use Rattle.view_rules.specs.Shown.{Viewer}
use Rattle.view_rules.specs.Agreeing.{places_shown_in, HaveSameAt}
use Rattle.view_laws.specs.Apart.{AreApart}

-- A hand that begins after some events could have had another deck, as far as a player can tell: its begin is accepted,
-- no card comes twice in the other deck, and the two decks have the same cards at all places that the events behind the
-- begin come to show to him.
pub record CouldBe (who : Viewer) (before : List Event) (table : ℕ) (row other : CardRow) (behind : List Event)
    : Type 0 where
  pub accepted : answer_to (run first_state before) (Begin table row) ≡ Ok
  pub deck : repeats_a_card other.cards ≡ false
  pub shown : HaveSameAt
      (places_shown_in who (state_after (run first_state before) (Begin table row)) table behind) row.cards other.cards

-- Two cards of the deck of such a hand could change places, as far as a player can tell: neither place is among those
-- that come to be shown to him.
pub record CouldChange (who : Viewer) (before : List Event) (table : ℕ) (row other : CardRow) (one two : ℕ)
    (behind : List Event)
    : Type 0 where
  pub accepted : answer_to (run first_state before) (Begin table row) ≡ Ok
  pub changed : other.cards ≡ swap row.cards one two
  pub one_within : one < 52
  pub two_within : two < 52
  pub hidden : AreApart (one ∷ two ∷ [])
      (places_shown_in who (state_after (run first_state before) (Begin table row)) table behind)
