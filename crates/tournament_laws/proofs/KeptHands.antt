-- What an event that is not of the hands at a table leaves of the hand there.
use Rattle.std.proofs.Common.{◌≡◌, ◌≢◌, ◌∙◌, refl, sym, subst, ℕ, false, [], set}
use Rattle.std.specs.Prelude.{Option, None}
use Rattle.std.specs.Option.{option_map_or}
use Rattle.std.proofs.lemmas.List.{get_or-set_other}
use Rattle.table_engine.specs.Hands.{HandTerms}
use Rattle.tournament_events.specs.declared.event.Event.{Event}
use Rattle.tournament_events.specs.declared.event.Event.TheVariants as events
use Rattle.tournament_rules.specs.Books.{start_at}
use Rattle.tournament_rules.specs.Effects.{settled}
use Rattle.tournament_rules.specs.States.{PlayState, acts_at, hand_at, refusal_of, play_effect}
use Rattle.tournament_rules.specs.Valid.{IsValidPlay}
use Rattle.tournament_rules.proofs.Fitting.{other_number}
use Rattle.tournament_rules.proofs.Passed.{passed-parts, settle_passed}
use Rattle.tournament_rules.proofs.PlayedHands.{hand_there}
use Rattle.tournament_laws.specs.Orders.{is_of_hands}

-- The hand at a table and whether the tournament is stopped are as before.
pub record IsKeptAt (table : ℕ) (before after : PlayState) : Type 0 where
  pub start : start_at after.book.started table ≡ start_at before.book.started table
  pub acts : acts_at after.acts table ≡ acts_at before.acts table
  pub going : after.book.stopped ≡ before.book.stopped

-- The hand is the same.
pub hand_kept : (table : ℕ) (before after : PlayState) → IsKeptAt table before after
    → hand_at after table ≡ hand_at before table
hand_kept table before after kept = rw (kept.start, kept.acts) refl

-- After a settle at another table.
settle_keeps : (play : PlayState) (table there : ℕ) → IsValidPlay play → refusal_of play (events.Settle there) ≡ None
    → table ≢ there → IsKeptAt table play (play_effect play (events.Settle there))
settle_keeps play table there valid none apart =
    let free = (passed-parts play (events.Settle there) none).0 in
    let started = hand_there play there valid (settle_passed play.book there free).playing in
    subst (λ (hand : Option HandTerms). IsKeptAt table play
    (record { book = option_map_or (settled play.book) hand play.book; acts = set play.acts there [] }))
    (sym started.is)
    (record {
      start = get_or-set_other play.book.started started.hand.start.table table None None
          (λ same. apart (same ∙ started.here));
      acts = get_or-set_other play.acts there table [] [] apart;
      going = refl;
    })

-- After an event that is not of the hands at the table.
pub event_keeps : (play : PlayState) (table : ℕ) (event : Event) → IsValidPlay play → refusal_of play event ≡ None
    → is_of_hands table event ≡ false → IsKeptAt table play (play_effect play event)
event_keeps play table (events.Begin there row) valid none apart = record {
  start = get_or-set_other play.book.started there table _ None (other_number there table apart);
  acts = get_or-set_other play.acts there table [] [] (other_number there table apart);
  going = refl;
}
event_keeps play table (events.Act there name act) valid none apart = record {
  start = refl;
  acts = get_or-set_other play.acts there table _ [] (other_number there table apart);
  going = refl;
}
event_keeps play table (events.Time there) valid none apart = record {
  start = refl;
  acts = get_or-set_other play.acts there table _ [] (other_number there table apart);
  going = refl;
}
event_keeps play table (events.Settle there) valid none apart =
    settle_keeps play table there valid none (other_number there table apart)
event_keeps play table events.Stop valid none apart = absurd cc
event_keeps play table _ valid none apart = record { start = refl; acts = refl; going = refl }
