-- Each move of the place leaves fewer steps.
use Rattle.std.proofs.Common.{◌≡◌, refl, ap, ℕ, ◌+◌, ◌<◌, true, false, inl, arith}
use Rattle.std.specs.Prelude.{option_map, Option}
use Rattle.std.proofs.lemmas.Bool.{false_from_ne_true}
use Rattle.table_engine.specs.declared.start.HandStart.{HandStart}
use Rattle.tournament_rules.specs.Checks.{is_playing}
use Rattle.tournament_rules.specs.States.{PlayState, acts_at, hand_at}
use Rattle.tournament_rules.specs.Valid.{IsValidPlay}
use Rattle.tournament_rules.proofs.Begins.{none_started}
use Rattle.simulation_rules.specs.declared.place.SimPlace.{SimPlace}
use Rattle.simulation_rules.specs.Course.{IsUnderWay}
use Rattle.simulation_rules.specs.Effort.{effort_in_play, effort_of_hand}
use Rattle.simulation_rules.specs.Places.{next_round, next_table}
use Rattle.simulation_rules.proofs.Parts.{falls_by_parts, left_in_play, places-next, places-none, places-owed}

-- Where no hand is played at a table none may take any step there.
pub no-hand : (play : PlayState) (table : ℕ) → IsValidPlay play → is_playing play.book table ≡ false
    → effort_of_hand (hand_at play table) ≡ 0
no-hand play table valid rests =
    ap (λ (start : Option HandStart). effort_of_hand (option_map (λ (start : HandStart).
    record { start = start; acts = acts_at play.acts table }) start)) (none_started play.book table valid.book rests)

module _ (play : PlayState) (place : SimPlace) (valid : IsValidPlay play) (way : IsUnderWay play.book place) where
  -- The turn of the next table leaves fewer steps.
  pub falls-next_table : place.table < play.book.plan.tables
      → left_in_play play (next_table place) < effort_in_play play place
  falls-next_table further =
      let rests : is_playing play.book (place.table + 1) ≡ false =
      false_from_ne_true (is_playing play.book (place.table + 1)) (λ plays.
      let same = (way.turn (place.table + 1) plays).here in omega (arith, same)) in
      let hand = no-hand play (place.table + 1) valid rests in
      let fewer = places-next play.book place further rests in
      falls_by_parts play play place (next_table place) (omega (arith, hand, fewer))

  -- The next round leaves fewer steps, where a hand was played in this one.
  pub falls-next_round : place.any_played ≡ true → is_playing play.book 1 ≡ false
      → left_in_play play (next_round place) < effort_in_play play place
  falls-next_round any rests =
      let hand = no-hand play 1 valid rests in
      let last = way.to_last in
      let before = places-owed play.book place (inl any) in
      let after = places-none play.book (next_round place) refl rests in
      falls_by_parts play play place (next_round place) (omega (arith, hand, last, before, after))
