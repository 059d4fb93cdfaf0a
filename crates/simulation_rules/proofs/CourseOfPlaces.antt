-- A simulated tournament stays under way where the place moves between the hands.
use Rattle.std.proofs.Common.{◌≡◌, ℕ, ◌+◌, ◌<◌, ◌≤◌, inl, inr, true, false, length, arith}
use Rattle.std.proofs.lemmas.Bool.{both_ways}
use Rattle.seat_book.specs.Seatings.{is_race_pending}
use Rattle.tournament_rules.specs.Books.{BookState}
use Rattle.tournament_rules.specs.Checks.{is_over_for_all, is_playing}
use Rattle.tournament_rules.specs.Valid.{IsValid}
use Rattle.tournament_rules.proofs.Entries.{right_has}
use Rattle.simulation_rules.specs.declared.place.SimPlace.{SimPlace}
use Rattle.simulation_rules.specs.Course.{IsUnderWay}
use Rattle.simulation_rules.specs.Entrants.{entrants}
use Rattle.simulation_rules.specs.Limits.{most_hands}
use Rattle.simulation_rules.specs.Places.{next_round, next_table, tables_done}

-- What is so between two hands: all seats are taken, no table plays, the tournament is not over, and there are hands to
-- come.
pub record IsBetween (book : BookState) : Type 0 where
  pub full : entrants book.plan ≤ length book.entries
  pub rests : (table : ℕ) → is_playing book table ≡ false
  pub goes_on : is_over_for_all book ≡ false
  pub fewer : book.begun < most_hands

module _ (book : BookState) (place : SimPlace) (under : IsUnderWay book place) (between : IsBetween book) where
  -- At the next table's turn.
  pub to_next_table : place.table < book.plan.tables → IsUnderWay book (next_table place)
  to_next_table further = record {
    from_first = omega arith;
    to_last = omega (arith, further);
    rounds = under.rounds;
    own_hand = λ had. elim had [
      | inl any ↦ under.own_hand (inl any)
      | inr plays ↦ absurd (both_ways _ (between.rests (place.table + 1)) plays)
    ];
    any = λ is. absurd cc;
    hands_off = under.hands_off;
    turn = λ table plays. absurd (both_ways _ (between.rests table) plays);
    races = under.races;
    few_hands = under.few_hands;
    last_hand = λ most. absurd (let fewer = between.fewer in omega (arith, fewer, most));
    done_played = under.done_played;
    between = under.between;
    over = λ over. absurd (both_ways _ between.goes_on over);
    over_at_table = λ over. absurd (both_ways _ between.goes_on over);
    entering = λ few. absurd (let full = between.full in omega (arith, few, full));
  }

  -- In the next round, where a hand was played in this one and no race is pending.
  pub to_next_round : IsValid book → place.any_played ≡ true → is_race_pending book.seating ≡ false
      → IsUnderWay book (next_round place)
  to_next_round valid any no_race = record {
    from_first = omega arith;
    to_last = (right_has book.plan valid.plan.right).some_tables;
    rounds = let own = under.own_hand (inl any) in omega (arith, own);
    own_hand = λ had. elim had [
      | inl never ↦ absurd cc
      | inr plays ↦ absurd (both_ways _ (between.rests 1) plays)
    ];
    any = λ is. absurd cc;
    hands_off = under.hands_off;
    turn = λ table plays. absurd (both_ways _ (between.rests table) plays);
    races = λ done. no_race;
    few_hands = under.few_hands;
    last_hand = λ most. absurd (let fewer = between.fewer in omega (arith, fewer, most));
    done_played = λ is. absurd cc;
    between = λ is. absurd cc;
    over = λ over. absurd (both_ways _ between.goes_on over);
    over_at_table = λ over. absurd (both_ways _ between.goes_on over);
    entering = λ few. absurd (let full = between.full in omega (arith, few, full));
  }

  -- Once the tables of the round are done, where a hand was played in it.
  pub to_done : place.any_played ≡ true → IsUnderWay book (tables_done place)
  to_done any = record {
    from_first = under.from_first;
    to_last = under.to_last;
    rounds = under.rounds;
    own_hand = under.own_hand;
    any = under.any;
    hands_off = under.hands_off;
    turn = λ table plays. absurd (both_ways _ (between.rests table) plays);
    races = λ is. absurd cc;
    few_hands = under.few_hands;
    last_hand = under.last_hand;
    done_played = λ is. any;
    between = λ is. between.fewer;
    over = under.over;
    over_at_table = λ over. absurd (both_ways _ between.goes_on over);
    entering = λ few. absurd (let full = between.full in omega (arith, few, full));
  }
