-- What a simulated tournament keeps where the book stays alike in all that its course asks of it.
use Rattle.std.proofs.Common.{◌≡◌, ◌∙◌, sym, ap, ℕ, ◌≤◌, ◌⊎◌, inl, inr, true, false, List, length, arith}
use Rattle.std.specs.Prelude.{◌==◌, ◌&&◌, nat_lt}
use Rattle.std.proofs.lemmas.Bool.{both_ways, false_from_ne_true}
use Rattle.level_plan.specs.Plans.{PlanTerms}
use Rattle.place_list.specs.declared.bust.Bust.{Bust}
use Rattle.seat_book.specs.Seatings.{is_race_pending}
use Rattle.tournament_rules.specs.Books.{BookState}
use Rattle.tournament_rules.specs.Checks.{is_over_for_all, is_playing}
use Rattle.tournament_rules.specs.Valid.{IsValid}
use Rattle.tournament_rules.proofs.InOrBust.{all-counted}
use Rattle.simulation_rules.specs.declared.place.SimPlace.{SimPlace}
use Rattle.simulation_rules.specs.Course.{IsUnderWay}
use Rattle.simulation_rules.specs.Entrants.{entrants}

-- Where no hand is played at the place's table, none is played at any.
pub nobody_plays : (book : BookState) (place : SimPlace) → IsUnderWay book place
    → is_playing book place.table ≡ false → (table : ℕ) → is_playing book table ≡ false
nobody_plays book place under rests table = false_from_ne_true (is_playing book table) (λ plays.
    let here = (under.turn table plays).here in
    both_ways (is_playing book place.table) rests (ap (is_playing book) (sym here) ∙ plays))

-- Where the tables are done no hand is played at any.
pub nobody_plays-done : (book : BookState) (place : SimPlace) → IsUnderWay book place → place.done ≡ true → (table : ℕ)
    → is_playing book table ≡ false
nobody_plays-done book place under done table =
    false_from_ne_true (is_playing book table) (λ plays. both_ways place.done (under.turn table plays).done done)

-- With the same entries and the same who are out, a tournament is over just where it was.
pub same_over : (before after : BookState) → IsValid before → IsValid after → after.entries ≡ before.entries
    → after.busts ≡ before.busts → is_over_for_all after ≡ is_over_for_all before
same_over before after valid valid_after entries busts =
    let was = all-counted before.entries before.seating.players before.busts valid.entries.once in
    let now = all-counted after.entries after.seating.players after.busts valid_after.entries.once in
    let names = ap (λ (names : List (List ℕ)). length names) entries in
    let outs = ap (λ (outs : List Bust). length outs) busts in
    let sit : length after.seating.players ≡ length before.seating.players = omega (arith, was, now, names, outs) in
    λ i. nat_lt 0 (length (busts i)) && sit i == 1

-- What two books of a simulated tournament have alike.
pub record AreAlike (before after : BookState) : Type 0 where
  pub plan : after.plan ≡ before.plan
  pub entries : after.entries ≡ before.entries
  pub begun : after.begun ≡ before.begun
  pub playing : (table : ℕ) → is_playing after table ≡ is_playing before table
  pub hands : after.seating.hands ≡ before.seating.hands
  pub over : is_over_for_all after ≡ is_over_for_all before

-- Once all seats are taken, a tournament stays under way where the book stays alike, and no race comes up while the
-- tables have their turns.
pub alike_under_way : (before after : BookState) (place : SimPlace) → AreAlike before after
    → entrants before.plan ≤ length before.entries → (place.done ≡ false → is_race_pending after.seating ≡ false)
    → IsUnderWay before place → IsUnderWay after place
alike_under_way before after place alike full races under =
    let tables = ap (λ (plan : PlanTerms). plan.tables) alike.plan in
    let seats = ap (λ (plan : PlanTerms). entrants plan) alike.plan in
    let names = ap (λ (names : List (List ℕ)). length names) alike.entries in
    let begun = alike.begun in
    let here = alike.playing place.table in
    record {
      from_first = under.from_first;
      to_last = let last = under.to_last in omega (arith, last, tables);
      rounds = let rounds = under.rounds in omega (arith, rounds, begun);
      own_hand = λ had. let own = under.own_hand (had_before had) in omega (arith, own, begun);
      any = under.any;
      hands_off = alike.hands ∙ under.hands_off;
      turn = λ table plays. under.turn table (sym (alike.playing table) ∙ plays);
      races = races;
      few_hands = let few = under.few_hands in omega (arith, few, begun);
      last_hand = λ most. has_after (under.last_hand (sym begun ∙ most));
      done_played = under.done_played;
      between = λ done. let fewer = under.between done in omega (arith, fewer, begun);
      over = λ over. under.over (sym alike.over ∙ over);
      over_at_table = λ over. under.over_at_table (sym alike.over ∙ over);
      entering = λ few. absurd (omega (arith, few, full, seats, names));
    }
  where
    had_before : (place.any_played ≡ true) ⊎ (is_playing after place.table ≡ true)
        → (place.any_played ≡ true) ⊎ (is_playing before place.table ≡ true)
    had_before (inl any) = inl any
    had_before (inr plays) = inr (sym (alike.playing place.table) ∙ plays)

    has_after : (is_playing before place.table ≡ true) ⊎ (place.played ≡ true)
        → (is_playing after place.table ≡ true) ⊎ (place.played ≡ true)
    has_after (inl plays) = inl (alike.playing place.table ∙ plays)
    has_after (inr played) = inr played
