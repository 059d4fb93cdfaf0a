-- Every event that comes next in a simulated tournament is accepted.
use Rattle.std.proofs.Common.{◌≡◌, refl, ap, subst, ℕ, ◌%◌, ◌<◌, true, false, List, [], length, Option, Some, None, arith}
use Rattle.std.specs.Prelude.{◌==◌, ◌&&◌, ◌||◌, if◌then◌else◌, find, is_none, nat_lt, not, unwrap_or}
use Rattle.std.specs.Option.{ForSome, option_map_or}
use Rattle.std.proofs.lemmas.Bool.{and_parts, both_ways, cond_both, false_from_ne_true, ltb-true, not-true, or_parts}
use Rattle.std.proofs.lemmas.Nat.{mul-le}
use Rattle.rulebook.specs.Limits.{most_entries}
use Rattle.rulebook.proofs.Found.{none-by_test}
use Rattle.seat_book.specs.Counts.{count_at, table_numbers}
use Rattle.table_engine.specs.Hands.{HandTerms, due_name, is_over}
use Rattle.tournament_events.specs.declared.event.Event.{Event}
use Rattle.tournament_events.specs.declared.event.Event.TheVariants as events
use Rattle.tournament_events.specs.declared.answer.Answer.TheVariants.{Ok}
use Rattle.floor_director.specs.Orders.{next_order}
use Rattle.floor_director.specs.SimulatedActs.{simulated_act}
use Rattle.tournament_rules.specs.Checks.{book_refusal, is_last_level, is_over_for_all, is_playing, is_race_due}
use Rattle.tournament_rules.specs.States.{State, PlayState, answer_to, answered, hand_at, planning_answer, refusal_of}
use Rattle.tournament_rules.specs.Valid.{IsValid, IsValidPlay}
use Rattle.tournament_rules.proofs.Entries.{right_has}
use Rattle.simulation_rules.specs.declared.place.SimPlace.{SimPlace}
use Rattle.simulation_rules.specs.declared.step.SimStep.{SimStep}
use Rattle.simulation_rules.specs.declared.step.SimStep.TheVariants.{Take, Move, End}
use Rattle.simulation_rules.specs.Course.{IsOnCourse, IsUnderWay}
use Rattle.simulation_rules.specs.Entrants.{entrants, next_entry, table_to_enter}
use Rattle.simulation_rules.specs.Limits.{most_hands, rounds_of_level}
use Rattle.simulation_rules.specs.Places.{hand_played, next_round, next_table, tables_done}
use Rattle.simulation_rules.specs.Steps.{after_table, after_tables, at_table, before_hand, in_hand, in_rounds, next_in_play, racing, row_drawn, simulated_next}
use Rattle.simulation_rules.proofs.BookEvents.{free_by_book}
use Rattle.simulation_rules.proofs.DrawnRows.{row-repeats_none}
use Rattle.simulation_rules.proofs.EntriesAccepted.{entry_accepted}
use Rattle.simulation_rules.proofs.EntryRoom.{table_has_room}
use Rattle.simulation_rules.proofs.HandsAccepted.{act_accepted, settle_accepted}
use Rattle.simulation_rules.proofs.LevelsAccepted.{level_accepted, race_accepted, stop_accepted}
use Rattle.simulation_rules.proofs.OrdersAccepted.{order_accepted}

-- While there are seats to take, the table that is entered next has an empty seat, and the entry list has room.
pub entry_has_room : (play : PlayState) (place : SimPlace) → IsValid play.book
    → length play.book.entries < entrants play.book.plan
    → (count_at play.book.seating.players (table_to_enter play.book.seating) < play.book.seating.seat_count)
    × (length play.book.entries < most_entries)
entry_has_room play place valid few =
    let has = right_has play.book.plan valid.plan.right in
    let most = mul-le play.book.plan.tables play.book.plan.seats 64 10 has.most_tables has.most_seats in
    (table_has_room play.book valid few, omega (arith, few, most))

-- the event of a step is accepted, if it takes one
abbrev IsAccepted : PlayState → SimStep → Type 0
IsAccepted play (Take event place) = refusal_of play event ≡ None
IsAccepted play (Move place) = Unit {0}
IsAccepted play End = Unit {0}

module _ (seed : List ℕ) (number : ℕ) (play : PlayState) (place : SimPlace) (valid : IsValidPlay play)
    (going : play.book.stopped ≡ false) (way : IsUnderWay play.book place) where
  after_tables-accepted : place.done ≡ false → is_over_for_all play.book ≡ false
      → IsAccepted play (after_tables play.book place)
  after_tables-accepted undone goes =
      cond_both {A = SimStep} (not place.any_played) (Take events.Stop place)
      (if place.round % rounds_of_level == 0 && not (is_last_level play.book)
      then Take events.Level (tables_done place) else Move (next_round place)) (IsAccepted play)
      (λ none. stop_accepted play going)
      (λ some. cond_both {A = SimStep} (place.round % rounds_of_level == 0 && not (is_last_level play.book))
      (Take events.Level (tables_done place)) (Move (next_round place)) (IsAccepted play)
      (λ comes. level_accepted play going (way.races undone)
      (not-true (is_last_level play.book)
      (and_parts (place.round % rounds_of_level == 0) (not (is_last_level play.book)) comes).1) goes)
      (λ stays. tt))

  after_table-accepted : place.done ≡ false → IsAccepted play (after_table play.book place)
  after_table-accepted undone =
      cond_both {A = SimStep} (is_over_for_all play.book || play.book.begun == most_hands) (Take events.Stop place)
      (if nat_lt place.table play.book.plan.tables then Move (next_table place) else after_tables play.book place)
      (IsAccepted play) (λ ends. stop_accepted play going)
      (λ goes. cond_both {A = SimStep} (nat_lt place.table play.book.plan.tables) (Move (next_table place))
      (after_tables play.book place) (IsAccepted play) (λ more. tt)
      (λ last. after_tables-accepted undone
      (or_parts (is_over_for_all play.book) (play.book.begun == most_hands) goes).0))

  in_hand-accepted : (hand : Option HandTerms) → hand_at play place.table ≡ hand
      → IsAccepted play (in_hand seed number place hand)
  in_hand-accepted None is = tt
  in_hand-accepted (Some hand) is =
      cond_both {A = SimStep} (is_over hand) (Take (events.Settle place.table) (hand_played place))
      (Take (events.Act place.table (unwrap_or (due_name hand) []) (simulated_act seed number hand)) place)
      (IsAccepted play) (λ over. settle_accepted play place.table hand valid going is over)
      (λ goes. act_accepted play place.table hand valid going is seed number goes)

  before_hand-accepted : place.done ≡ false → (order : Option Event)
      → next_order play.book.seating seed number ≡ order
      → IsAccepted play (before_hand seed number play.book place order)
  before_hand-accepted undone (Some order) is = order_accepted play seed number order valid.book going is
  before_hand-accepted undone None is =
      let begin = events.Begin place.table (row_drawn seed number) in
      cond_both {A = SimStep} (is_none (book_refusal play.book begin)) (Take begin place)
      (after_table play.book place) (IsAccepted play)
      (λ free. free_by_book play begin refl (none-by_test (book_refusal play.book begin) free))
      (λ refused. after_table-accepted undone)

  at_table-accepted : place.done ≡ false → IsAccepted play (at_table seed number play place)
  at_table-accepted undone =
      cond_both {A = SimStep} (is_playing play.book place.table)
      (in_hand seed number place (hand_at play place.table))
      (if place.played then after_table play.book place
      else before_hand seed number play.book place (next_order play.book.seating seed number)) (IsAccepted play)
      (λ plays. in_hand-accepted (hand_at play place.table) refl)
      (λ rests. cond_both {A = SimStep} place.played (after_table play.book place)
      (before_hand seed number play.book place (next_order play.book.seating seed number)) (IsAccepted play)
      (λ played. after_table-accepted undone)
      (λ unplayed. before_hand-accepted undone (next_order play.book.seating seed number) refl))

  racing-accepted : place.done ≡ true → (due : Option ℕ)
      → find (is_race_due play.book) (table_numbers play.book.plan.tables) ≡ due
      → IsAccepted play (racing seed number place due)
  racing-accepted done None is = tt
  racing-accepted done (Some table) is =
      race_accepted play table (row_drawn seed number) valid.book going is
      (false_from_ne_true (is_playing play.book table) (λ plays. both_ways place.done (way.turn table plays).done done))
      (row-repeats_none seed number)
      (false_from_ne_true (is_over_for_all play.book) (λ over. both_ways place.done (way.over_at_table over) done))

  in_rounds-accepted : IsAccepted play (in_rounds seed number play place)
  in_rounds-accepted =
      let due = find (is_race_due play.book) (table_numbers play.book.plan.tables) in
      cond_both {A = SimStep} place.done (racing seed number place due) (at_table seed number play place)
      (IsAccepted play) (λ done. racing-accepted done due refl) (λ undone. at_table-accepted undone)

-- The event that comes next in play, if one does, is accepted.
next_in_play-accepted : (seed : List ℕ) (number : ℕ) (play : PlayState) (place : SimPlace) → IsValidPlay play
    → (play.book.stopped ≡ false → IsUnderWay play.book place) → IsAccepted play (next_in_play seed number play place)
unfolding next_in_play
next_in_play-accepted seed number play place valid way =
    cond_both {A = SimStep} play.book.stopped End
    (if nat_lt (length play.book.entries) (entrants play.book.plan) then Take (next_entry play.book) place
    else in_rounds seed number play place) (IsAccepted play) (λ stopped. tt)
    (λ going. cond_both {A = SimStep} (nat_lt (length play.book.entries) (entrants play.book.plan))
    (Take (next_entry play.book) place) (in_rounds seed number play place) (IsAccepted play)
    (λ less.
    let few = ltb-true (length play.book.entries) (entrants play.book.plan) less in
    entry_accepted play place valid.book going ((way going).entering few) few
    (entry_has_room play place valid.book few).1)
    (λ all. in_rounds-accepted seed number play place valid going (way going)))

-- An event that comes next is accepted.
pub next_is_accepted : (seed : List ℕ) (state : State) (place next : SimPlace) (event : Event) → IsOnCourse state place
    → simulated_next seed state place ≡ Take event next → answer_to state event ≡ Ok
next_is_accepted seed state place next event course comes =
    by_play state.play course.valid.play course.under_way comes
  where
    by_play : (play : Option PlayState) → ForSome play IsValidPlay
        → ForSome play (λ play. play.book.stopped ≡ false → IsUnderWay play.book place)
        → option_map_or (λ play. next_in_play seed state.accepted play place) play End ≡ Take event next
        → option_map_or (λ play. answered (refusal_of play event)) play (planning_answer state.draft event) ≡ Ok
    by_play None valid way comes = absurd cc
    by_play (Some play) valid way comes =
        ap answered (subst (IsAccepted play) comes
        (next_in_play-accepted seed state.accepted play place (valid play refl) (way play refl)))
