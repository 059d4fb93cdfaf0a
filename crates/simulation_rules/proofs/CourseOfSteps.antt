-- A simulated tournament stays under way by what comes next, by the cases of what that is.
use Rattle.std.proofs.Common.{◌≡◌, ◌∙◌, refl, sym, ap, subst, ℕ, ◌%◌, ◌<◌, ◌≤◌, true, false, cond, ◌==◌, List, [], length, inl, inr, arith}
use Rattle.std.specs.Prelude.{◌&&◌, ◌||◌, not, nat_lt, find, unwrap_or, Option, Some, None, is_none}
use Rattle.std.specs.Option.{option_map_or}
use Rattle.std.proofs.lemmas.Bool.{both_ways, cases_lt, cond_both, eqb-false, false_from_ne_true, ltb-false, ltb-true, or_parts}
use Rattle.rulebook.proofs.Found.{none-by_test}
use Rattle.seat_book.specs.Counts.{table_numbers}
use Rattle.table_engine.specs.Hands.{HandTerms, due_name, is_over}
use Rattle.tournament_events.specs.declared.event.Event.{Event}
use Rattle.tournament_events.specs.declared.event.Event.TheVariants.{Act, Balance, Begin, Break, Level, Race, Settle, Stop}
use Rattle.floor_director.specs.Orders.{next_order}
use Rattle.floor_director.specs.SimulatedActs.{simulated_act}
use Rattle.tournament_rules.specs.Checks.{book_refusal, is_last_level, is_over_for_all, is_playing, is_race_due}
use Rattle.tournament_rules.specs.Effects.{settled}
use Rattle.tournament_rules.specs.States.{PlayState, hand_at, play_effect, refusal_of}
use Rattle.tournament_rules.specs.Valid.{IsValidPlay}
use Rattle.tournament_rules.proofs.Passed.{is_so, passed-parts}
use Rattle.simulation_rules.specs.declared.place.SimPlace.{SimPlace}
use Rattle.simulation_rules.specs.declared.step.SimStep.{SimStep}
use Rattle.simulation_rules.specs.declared.step.SimStep.TheVariants.{Take, Move, End}
use Rattle.simulation_rules.specs.Course.{IsUnderWay}
use Rattle.simulation_rules.specs.Entrants.{entrants, next_entry, seat_to_take, table_to_enter}
use Rattle.simulation_rules.specs.Limits.{most_hands, rounds_of_level}
use Rattle.simulation_rules.specs.Places.{hand_played, next_round, next_table, tables_done}
use Rattle.simulation_rules.specs.Steps.{after_table, after_tables, at_table, before_hand, in_hand, in_rounds, next_in_play, racing, row_drawn}
use Rattle.simulation_rules.proofs.OrderKinds.{IsOrder, order-kind}
use Rattle.simulation_rules.proofs.CourseOfBooks.{nobody_plays, nobody_plays-done}
use Rattle.simulation_rules.proofs.CourseOfEntries.{entered_on}
use Rattle.simulation_rules.proofs.CourseOfHands.{begun_on, settled_on}
use Rattle.simulation_rules.proofs.CourseOfLevels.{leveled_on, raced_on}
use Rattle.simulation_rules.proofs.CourseOfOrders.{balanced_on, broken_on}
use Rattle.simulation_rules.proofs.CourseOfPlaces.{IsBetween, to_done, to_next_round, to_next_table}
use Rattle.simulation_rules.proofs.CourseOfTables.{none_pending}

-- What is so of a step: after the event that is taken, unless it stops the tournament, and where only the place moves,
-- the tournament is under way.
abbrev pub Stays : PlayState → SimStep → Type 0
Stays play (Take event next) = refusal_of play event ≡ None → (play_effect play event).book.stopped ≡ false
    → IsUnderWay (play_effect play event).book next
Stays play (Move next) = IsUnderWay play.book next
Stays play End = Unit {0}

module _ (seed : List ℕ) (number : ℕ) (play : PlayState) (place : SimPlace) (valid : IsValidPlay play)
    (under : IsUnderWay play.book place) (full : entrants play.book.plan ≤ length play.book.entries) where
  -- By what comes after the tables of a round.
  by_tables : IsBetween play.book → place.done ≡ false → Stays play (after_tables play.book place)
  by_tables between turns =
      cond_both {A = SimStep} (not place.any_played) (Take Stop place)
      (cond (place.round % rounds_of_level == 0 && not (is_last_level play.book)) (Take Level (tables_done place))
      (Move (next_round place))) (Stays play) (λ none refused going. let never : true ≡ false = going in absurd cc)
      (λ some.
      let any = is_so place.any_played (ap not some) in
      cond_both {A = SimStep} (place.round % rounds_of_level == 0 && not (is_last_level play.book))
      (Take Level (tables_done place)) (Move (next_round place)) (Stays play)
      (λ level refused going. leveled_on play.book (tables_done place) (to_done play.book place under between any) full
      refl)
      (λ same. to_next_round play.book place under between valid.book any (under.races turns)))

  -- By what comes after a table's turn.
  by_table : is_playing play.book place.table ≡ false → place.done ≡ false → Stays play (after_table play.book place)
  by_table rests turns =
      cond_both {A = SimStep} (is_over_for_all play.book || play.book.begun == most_hands) (Take Stop place)
      (cond (nat_lt place.table play.book.plan.tables) (Move (next_table place)) (after_tables play.book place))
      (Stays play) (λ ends refused going. let never : true ≡ false = going in absurd cc)
      (λ goes.
      let parts = or_parts (is_over_for_all play.book) (play.book.begun == most_hands) goes in
      let between : IsBetween play.book = record {
        full = full;
        rests = nobody_plays play.book place under rests;
        goes_on = parts.0;
        fewer = less play.book.begun under.few_hands parts.1;
      } in
      cond_both {A = SimStep} (nat_lt place.table play.book.plan.tables) (Move (next_table place))
      (after_tables play.book place) (Stays play)
      (λ further. to_next_table play.book place under between (ltb-true place.table play.book.plan.tables further))
      (λ last. by_tables between turns))
    where
      less : (begun : ℕ) → begun ≤ most_hands → (begun == most_hands) ≡ false → begun < most_hands
      less begun few differ = elim (cases_lt begun most_hands) [
        | inl fewer ↦ fewer
        | inr more ↦ absurd (eqb-false begun most_hands differ (omega arith))
      ]

  -- By what comes in a hand.
  by_hand : is_playing play.book place.table ≡ true → place.done ≡ false → (found : Option HandTerms)
      → hand_at play place.table ≡ found → Stays play (in_hand seed number place found)
  by_hand plays turns None is = tt
  by_hand plays turns (Some hand) is =
      cond_both {A = SimStep} (is_over hand) (Take (Settle place.table) (hand_played place))
      (Take (Act place.table (unwrap_or (due_name hand) []) (simulated_act seed number hand)) place) (Stays play)
      (λ over refused going. subst (λ (found : Option HandTerms).
      IsUnderWay (option_map_or (settled play.book) found play.book) (hand_played place)) (sym is)
      (settled_on play place hand valid under full turns plays is))
      (λ goes refused going. under)

  -- By an order.
  by_order : (order : Event) → IsOrder (Some order) → Stays play (Take order place)
  by_order (Balance from to) is = λ refused going. balanced_on play.book place from to valid.book under full
      (passed-parts play (Balance from to) refused).0
  by_order (Break table places names) is = λ refused going. broken_on play.book place table places names valid.book
      under full (passed-parts play (Break table places names) refused).0
  by_order _ is = absurd is

  -- By what comes before a hand.
  by_orders : is_playing play.book place.table ≡ false → place.played ≡ false → place.done ≡ false
      → (order : Option Event) → IsOrder order
      → Stays play (before_hand seed number play.book place order)
  by_orders rests fresh turns (Some order) is = by_order order is
  by_orders rests fresh turns None is =
      let begin = Begin place.table (row_drawn seed number) in
      cond_both {A = SimStep} (is_none (book_refusal play.book begin)) (Take begin place) (after_table play.book place)
      (Stays play)
      (λ free refused going. begun_on play.book place (row_drawn seed number) valid.book under full fresh turns
      (none-by_test (book_refusal play.book begin) free))
      (λ held. by_table rests turns)

  -- By what comes at a table's turn.
  by_turn : place.done ≡ false → Stays play (at_table seed number play place)
  by_turn turns =
      cond_both {A = SimStep} (is_playing play.book place.table)
      (in_hand seed number place (hand_at play place.table))
      (cond place.played (after_table play.book place)
      (before_hand seed number play.book place (next_order play.book.seating seed number))) (Stays play)
      (λ plays. by_hand plays turns (hand_at play place.table) refl)
      (λ rests. cond_both {A = SimStep} place.played (after_table play.book place)
      (before_hand seed number play.book place (next_order play.book.seating seed number)) (Stays play)
      (λ played. by_table rests turns)
      (λ fresh. by_orders rests fresh turns (next_order play.book.seating seed number)
      (order-kind play.book.seating seed number)))

  -- By a race, or by the move to the next round where none is pending.
  by_races : place.done ≡ true → (found : Option ℕ)
      → find (is_race_due play.book) (table_numbers play.book.plan.tables) ≡ found
      → Stays play (racing seed number place found)
  by_races done (Some table) is = λ refused going. raced_on play.book place table (row_drawn seed number) valid.book
      under full done (passed-parts play (Race table (row_drawn seed number)) refused).0
  by_races done None is =
      to_next_round play.book place under (record {
        full = full;
        rests = nobody_plays-done play.book place under done;
        goes_on = false_from_ne_true (is_over_for_all play.book)
            (λ over. both_ways place.done (under.over_at_table over) done);
        fewer = under.between done;
      }) valid.book (under.done_played done)
      (none_pending play.book.seating.tables play.book.plan.tables
      (valid.book.tables.lawful.tables ∙ valid.book.tables.tables) is)

  -- By what comes in the rounds.
  by_rounds : Stays play (in_rounds seed number play place)
  by_rounds =
      cond_both {A = SimStep} place.done
      (racing seed number place (find (is_race_due play.book) (table_numbers play.book.plan.tables)))
      (at_table seed number play place) (Stays play)
      (λ done. by_races done (find (is_race_due play.book) (table_numbers play.book.plan.tables)) refl)
      (λ turns. by_turn turns)

-- By what comes next.
pub stays_by_next : (seed : List ℕ) (number : ℕ) (play : PlayState) (place : SimPlace) → IsValidPlay play
    → (play.book.stopped ≡ false → IsUnderWay play.book place) → Stays play (next_in_play seed number play place)
unfolding next_in_play
stays_by_next seed number play place valid under =
    cond_both {A = SimStep} play.book.stopped End
    (cond (nat_lt (length play.book.entries) (entrants play.book.plan)) (Take (next_entry play.book) place)
    (in_rounds seed number play place)) (Stays play) (λ stopped. tt)
    (λ going. cond_both {A = SimStep} (nat_lt (length play.book.entries) (entrants play.book.plan))
    (Take (next_entry play.book) place) (in_rounds seed number play place) (Stays play)
    (λ few refused still. entered_on play.book place (table_to_enter play.book.seating)
    (seat_to_take play.book.seating (table_to_enter play.book.seating)) (under going)
    (ltb-true (length play.book.entries) (entrants play.book.plan) few))
    (λ full. by_rounds seed number play place valid (under going)
    (ltb-false (length play.book.entries) (entrants play.book.plan) full)))
