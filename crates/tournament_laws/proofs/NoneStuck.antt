-- No hand gets stuck: it can be played on until it is over, and then settled.
use Rattle.std.proofs.Common.{◌≡◌, ◌∙◌, refl, ap, ℕ, true, false, List, inl, inr}
use Rattle.std.proofs.lemmas.Bool.{cases_Bool}
use Rattle.std.specs.Prelude.{Option, Some, None}
use Rattle.std.specs.Option.{option_map_or, ForSome}
use Rattle.table_engine.specs.Hands.{HandTerms, is_over}
use Rattle.tournament_events.specs.declared.answer.Answer.TheVariants.{Ok}
use Rattle.tournament_events.specs.declared.event.Event.{Event}
use Rattle.tournament_events.specs.declared.event.Event.TheVariants as events
use Rattle.tournament_rules.specs.Books.{start_at}
use Rattle.tournament_rules.specs.Effects.{settled}
use Rattle.tournament_rules.specs.States.{PlayState, first_state, hand_at, refusal_of, answered, answer_to, play_effect, run}
use Rattle.tournament_rules.specs.Valid.{IsValidPlay}
use Rattle.tournament_rules.proofs.Ends.{none_started-stopped}
use Rattle.tournament_rules.proofs.Passed.{refusal-parts, passed-parts}
use Rattle.tournament_rules.proofs.Steps.{valid_events}
use Rattle.tournament_rules.proofs.Acting.{started_at, acts_freely, settle_free}
use Rattle.tournament_laws.proofs.Kept.{events_keep}
use Rattle.tournament_rules.proofs.Going.{goes_on}

-- Once the tournament is stopped no hand is played.
abbrev IsBareAtEnd : PlayState → Type 0
IsBareAtEnd play = play.book.stopped ≡ true → (table : ℕ) → start_at play.book.started table ≡ None

-- So it is after each event: it goes on until a stop, which ends all hands.
bare_kept : (play : PlayState) (event : Event) → IsValidPlay play → play.book.stopped ≡ false
    → IsBareAtEnd (play_effect play event)
bare_kept play events.Stop valid going stopped = λ table. none_started-stopped play.book table valid.book
bare_kept play (events.Settle table) valid going stopped = by_hand (hand_at play table) stopped
  where
    by_hand : (hand : Option HandTerms) → (option_map_or (settled play.book) hand play.book).stopped ≡ true
        → (table : ℕ) → start_at (option_map_or (settled play.book) hand play.book).started table ≡ None
    by_hand None stopped = absurd cc
    by_hand (Some hand) stopped = absurd cc
bare_kept play _ valid going stopped = absurd cc

bare_at_end : (before : List Event) → ForSome (run first_state before).play IsBareAtEnd
bare_at_end =
    events_keep IsBareAtEnd (λ plan stopped. absurd cc)
    (λ play event valid none so. bare_kept play event valid (goes_on play.book event (passed-parts play event none).0))

-- Where a hand is played the tournament goes on.
goes_on_there : (play : PlayState) (table : ℕ) (hand : HandTerms) → IsBareAtEnd play
    → start_at play.book.started table ≡ Some hand.start → play.book.stopped ≡ false
goes_on_there play table hand bare started = elim (cases_Bool play.book.stopped) [
  | inl stopped ↦ let none = bare stopped table in absurd cc
  | inr going ↦ going
]

-- Where a hand is played and not over, a called time is accepted.
pub time_taken : (before : List Event) (table : ℕ) (play : PlayState) → (run first_state before).play ≡ Some play
    → (hand : HandTerms) → hand_at play table ≡ Some hand → is_over hand ≡ false
    → answer_to (run first_state before) (events.Time table) ≡ Ok
time_taken before table play is hand found over =
    let valid = (valid_events before).play play is in
    let has = started_at play table hand valid found in
    let none = acts_freely play table valid (events.Time table) refl (record {
      going = goes_on_there play table hand (bare_at_end before play is) has.started;
      hand = hand;
      started = found;
      free = rw over refl;
    }) in
    rw is (ap answered none)

-- Where a hand is played and over, a settle is accepted.
pub settle_taken : (before : List Event) (table : ℕ) (play : PlayState) → (run first_state before).play ≡ Some play
    → (hand : HandTerms) → hand_at play table ≡ Some hand → is_over hand ≡ true
    → answer_to (run first_state before) (events.Settle table) ≡ Ok
settle_taken before table play is hand found over =
    let valid = (valid_events before).play play is in
    let has = started_at play table hand valid found in
    let going = goes_on_there play table hand (bare_at_end before play is) has.started in
    let book = settle_free play.book table going has.there has.playing in
    let none : refusal_of play (events.Settle table) ≡ None =
    refusal-parts play (events.Settle table) ∙ rw (book, found, over) refl in
    rw is (ap answered none)
