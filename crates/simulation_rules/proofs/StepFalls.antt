-- Whatever comes next leaves fewer steps.
use Rattle.std.proofs.Common.{◌≡◌, ◌∙◌, refl, sym, ap, ℕ, ◌%◌, ◌<◌, Bool, true, false, List, [], inl, inr, arith}
use Rattle.std.specs.Prelude.{not, nat_lt, ◌==◌, ◌&&◌, ◌||◌, find, length, unwrap_or, is_none, if◌then◌else◌, Option, Some, None}
use Rattle.std.proofs.lemmas.Bool.{both_ways, cases_eq, cond_both, false_from_ne_true, ltb-true}
use Rattle.seat_book.specs.Counts.{table_numbers}
use Rattle.table_engine.specs.Hands.{HandTerms, due_name, is_over}
use Rattle.tournament_events.specs.declared.event.Event.{Event}
use Rattle.tournament_events.specs.declared.event.Event.TheVariants as events
use Rattle.floor_director.specs.Orders.{next_order}
use Rattle.floor_director.specs.SimulatedActs.{simulated_act}
use Rattle.tournament_rules.specs.Checks.{book_refusal, is_last_level, is_over_for_all, is_playing, is_race_due}
use Rattle.tournament_rules.specs.States.{PlayState, hand_at, play_effect, refusal_of}
use Rattle.tournament_rules.specs.Valid.{IsValidPlay}
use Rattle.simulation_rules.specs.declared.place.SimPlace.{SimPlace}
use Rattle.simulation_rules.specs.declared.step.SimStep.{SimStep}
use Rattle.simulation_rules.specs.declared.step.SimStep.TheVariants.{Take, Move, End}
use Rattle.simulation_rules.specs.Course.{IsUnderWay}
use Rattle.simulation_rules.specs.Effort.{effort_in_play}
use Rattle.simulation_rules.specs.Entrants.{entrant_name, entrants, next_entry, seat_to_take, table_to_enter}
use Rattle.simulation_rules.specs.Limits.{most_hands, rounds_of_level}
use Rattle.simulation_rules.specs.Places.{hand_played, next_round, next_table, tables_done}
use Rattle.simulation_rules.specs.Steps.{after_table, after_tables, at_table, before_hand, in_hand, in_rounds, racing, row_drawn}
use Rattle.simulation_rules.proofs.FloorFalls.{falls-balance, falls-break, falls-enter, falls-level, falls-race}
use Rattle.simulation_rules.proofs.HandFalls.{falls-act, falls-begin, falls-settle, falls-stop, hand-there}
use Rattle.simulation_rules.proofs.MoveFalls.{falls-next_round, falls-next_table}
use Rattle.simulation_rules.proofs.OrderKinds.{IsOrder, order-kind}
use Rattle.simulation_rules.proofs.Parts.{left_in_play}

-- A step leaves fewer steps, where its event is not refused, and is not the end.
abbrev pub LeavesFewer : PlayState → SimPlace → SimStep → Type 0
LeavesFewer play place (Take event next) =
    refusal_of play event ≡ None → left_in_play (play_effect play event) next < effort_in_play play place
LeavesFewer play place (Move next) = left_in_play play next < effort_in_play play place
LeavesFewer play place End = ⊥

module _ (seed : List ℕ) (number : ℕ) (play : PlayState) (place : SimPlace) (valid : IsValidPlay play)
    (way : IsUnderWay play.book place) where
  fewer-racing : place.done ≡ true → (table : Option ℕ) → LeavesFewer play place (racing seed number place table)
  fewer-racing done (Some table) = λ none. falls-race play place table (row_drawn seed number) valid none
  fewer-racing done None =
      falls-next_round play place valid way (way.done_played done)
      (false_from_ne_true (is_playing play.book 1) (λ plays. both_ways place.done (way.turn 1 plays).done done))

  fewer-after_tables : is_playing play.book place.table ≡ false
      → LeavesFewer play place (after_tables play.book place)
  fewer-after_tables rests =
      cond_both {A = SimStep} (not place.any_played) (Take events.Stop place)
      (if place.round % rounds_of_level == 0 && not (is_last_level play.book) then Take events.Level (tables_done place)
      else Move (next_round place)) (LeavesFewer play place) (λ none free. falls-stop play place)
      (λ some. cond_both {A = SimStep} (place.round % rounds_of_level == 0 && not (is_last_level play.book))
      (Take events.Level (tables_done place)) (Move (next_round place)) (LeavesFewer play place)
      (λ rises free. falls-level play place valid free)
      (λ stays. falls-next_round play place valid way (not-false place.any_played some)
      (false_from_ne_true (is_playing play.book 1) (λ plays.
      both_ways (is_playing play.book place.table) rests
      (ap (is_playing play.book) (sym (way.turn 1 plays).here) ∙ plays)))))
    where
      not-false : (b : Bool) → not b ≡ false → b ≡ true
      not-false true is = refl
      not-false false is = cc

  fewer-after_table : is_playing play.book place.table ≡ false → LeavesFewer play place (after_table play.book place)
  fewer-after_table rests =
      cond_both {A = SimStep} (is_over_for_all play.book || play.book.begun == most_hands) (Take events.Stop place)
      (if nat_lt place.table play.book.plan.tables then Move (next_table place) else after_tables play.book place)
      (LeavesFewer play place) (λ over free. falls-stop play place)
      (λ goes. cond_both {A = SimStep} (nat_lt place.table play.book.plan.tables) (Move (next_table place))
      (after_tables play.book place) (LeavesFewer play place)
      (λ further. falls-next_table play place valid way (ltb-true place.table play.book.plan.tables further))
      (λ last. fewer-after_tables rests))

  fewer-in_hand : is_playing play.book place.table ≡ true → (hand : Option HandTerms)
      → hand_at play place.table ≡ hand → LeavesFewer play place (in_hand seed number place hand)
  fewer-in_hand plays None is = let there = (hand-there play place.table valid plays).hand in absurd cc
  fewer-in_hand plays (Some hand) is =
      cond_both {A = SimStep} (is_over hand) (Take (events.Settle place.table) (hand_played place))
      (Take (events.Act place.table (unwrap_or (due_name hand) []) (simulated_act seed number hand)) place)
      (LeavesFewer play place) (λ over free. falls-settle play place valid free)
      (λ goes free. falls-act play place (unwrap_or (due_name hand) []) (simulated_act seed number hand) valid free)

  few-begun : is_playing play.book place.table ≡ false → place.played ≡ false → play.book.begun < most_hands
  few-begun rests fresh =
      let few = way.few_hands in
      elim (cases_eq play.book.begun most_hands) [
        | inl most ↦ elim (way.last_hand most) [
          | inl plays ↦ absurd (both_ways (is_playing play.book place.table) rests plays)
          | inr played ↦ absurd (both_ways place.played fresh played)
        ]
        | inr fewer ↦ omega (arith, few, fewer)
      ]

  fewer-before_hand : is_playing play.book place.table ≡ false → place.played ≡ false → (order : Option Event)
      → IsOrder order → LeavesFewer play place (before_hand seed number play.book place order)
  fewer-before_hand rests fresh None is =
      let begin : Event = events.Begin place.table (row_drawn seed number) in
      cond_both {A = SimStep} (is_none (book_refusal play.book begin)) (Take begin place) (after_table play.book place)
      (LeavesFewer play place)
      (λ begins free. falls-begin play place (row_drawn seed number) valid (few-begun rests fresh) free)
      (λ not_here. fewer-after_table rests)
  fewer-before_hand rests fresh (Some (events.Balance from to)) is =
      λ free. falls-balance play place from to valid free
  fewer-before_hand rests fresh (Some (events.Break table seats names)) is =
      λ free. falls-break play place table seats names valid free
  fewer-before_hand rests fresh (Some order) is = absurd is

  fewer-at_table : LeavesFewer play place (at_table seed number play place)
  fewer-at_table =
      cond_both {A = SimStep} (is_playing play.book place.table)
      (in_hand seed number place (hand_at play place.table))
      (if place.played then after_table play.book place
      else before_hand seed number play.book place (next_order play.book.seating seed number)) (LeavesFewer play place)
      (λ plays. fewer-in_hand plays (hand_at play place.table) refl)
      (λ rests. cond_both {A = SimStep} place.played (after_table play.book place)
      (before_hand seed number play.book place (next_order play.book.seating seed number)) (LeavesFewer play place)
      (λ played. fewer-after_table rests)
      (λ fresh. fewer-before_hand rests fresh (next_order play.book.seating seed number)
      (order-kind play.book.seating seed number)))

  fewer-in_rounds : LeavesFewer play place (in_rounds seed number play place)
  fewer-in_rounds =
      cond_both {A = SimStep} place.done
      (racing seed number place (find (is_race_due play.book) (table_numbers play.book.plan.tables)))
      (at_table seed number play place) (LeavesFewer play place)
      (λ done. fewer-racing done (find (is_race_due play.book) (table_numbers play.book.plan.tables)))
      (λ goes. fewer-at_table)

  -- What comes next in a tournament that is not stopped leaves fewer steps, and is not the end.
  pub fewer-not_stopped : LeavesFewer play place
      (if nat_lt (length play.book.entries) (entrants play.book.plan) then Take (next_entry play.book) place
      else in_rounds seed number play place)
  fewer-not_stopped =
      cond_both {A = SimStep} (nat_lt (length play.book.entries) (entrants play.book.plan))
      (Take (next_entry play.book) place) (in_rounds seed number play place) (LeavesFewer play place)
      (λ few free. falls-enter play place (entrant_name (length play.book.entries)) (table_to_enter play.book.seating)
      (seat_to_take play.book.seating (table_to_enter play.book.seating)) valid
      (ltb-true (length play.book.entries) (entrants play.book.plan) few) free)
      (λ all. fewer-in_rounds)
