-- What comes next in a simulated tournament. This project's own.
use Rattle.std.specs.Prelude.{ℕ, ◌%◌, not, ◌==◌, ◌&&◌, ◌||◌, nat_lt, List, [], length, find, Option, Some, None, is_none, unwrap_or, if◌then◌else◌}
use Rattle.std.specs.Option.{option_map_or}
use Rattle.seat_book.specs.Counts.{table_numbers}
use Rattle.card_set.specs.declared.card.CardRow.{CardRow}
use Rattle.table_engine.specs.Hands.{HandTerms, due_name, is_over}
use Rattle.tournament_events.specs.declared.event.Event.{Event}
use Rattle.tournament_events.specs.declared.event.Event.TheVariants.{Begin, Act, Settle, Level, Race, Stop}
use Rattle.tournament_rules.specs.Books.{BookState}
use Rattle.tournament_rules.specs.Checks.{book_refusal, is_last_level, is_over_for_all, is_playing, is_race_due}
use Rattle.tournament_rules.specs.States.{State, PlayState, hand_at}
use Rattle.floor_director.specs.DrawnDecks.{deck_drawn}
use Rattle.floor_director.proofs.DrawnDecks.{drawn-deck}
use Rattle.floor_director.specs.Orders.{next_order}
use Rattle.floor_director.specs.SimulatedActs.{simulated_act}
use Rattle.simulation_rules.specs.declared.place.SimPlace.{SimPlace}
use Rattle.simulation_rules.specs.declared.step.SimStep.{SimStep}
use Rattle.simulation_rules.specs.declared.step.SimStep.TheVariants.{Take, Move, End}
use Rattle.simulation_rules.specs.Entrants.{entrants, next_entry}
use Rattle.simulation_rules.specs.Limits.{most_hands, rounds_of_level}
use Rattle.simulation_rules.specs.Places.{hand_played, next_table, tables_done, next_round}

-- The row of the deck that is drawn.
abbrev pub row_drawn : List ℕ → ℕ → CardRow
row_drawn seed number = record { cards = deck_drawn seed number; whole = (drawn-deck seed number).whole }

-- After the next level the race is made at each table where one is pending, in rising number, and then the next round
-- begins.
abbrev pub racing : List ℕ → ℕ → SimPlace → Option ℕ → SimStep
racing seed number place (Some table) = Take (Race table (row_drawn seed number)) place
racing seed number place None = Move (next_round place)

-- After the last table of a round: a round in which no hand was played is followed by the stop; after each tenth round
-- the next level comes, where the plan has one; else the next round begins.
abbrev pub after_tables : BookState → SimPlace → SimStep
after_tables book place =
    if not place.any_played then Take Stop place
    else if place.round % rounds_of_level == 0 && not (is_last_level book) then Take Level (tables_done place)
    else Move (next_round place)

-- After the turn of a table: where the tournament is over, or 20,000 hands were played, the stop; else the next table
-- has its turn.
abbrev pub after_table : BookState → SimPlace → SimStep
after_table book place =
    if is_over_for_all book || book.begun == most_hands then Take Stop place
    else if nat_lt place.table book.plan.tables then Move (next_table place)
    else after_tables book place

-- In a hand: while a player is due his simulated act, and then the settle.
abbrev pub in_hand : List ℕ → ℕ → SimPlace → Option HandTerms → SimStep
in_hand seed number place (Some hand) =
    if is_over hand then Take (Settle place.table) (hand_played place)
    else Take (Act place.table (unwrap_or (due_name hand) []) (simulated_act seed number hand)) place
in_hand seed number place None = End

-- Before a hand: an order that is owed is taken; else a hand begins, where it would be accepted.
abbrev pub before_hand : List ℕ → ℕ → BookState → SimPlace → Option Event → SimStep
before_hand seed number book place (Some order) = Take order place
before_hand seed number book place None =
    let begin = Begin place.table (row_drawn seed number) in
    if is_none (book_refusal book begin) then Take begin place else after_table book place

-- At the turn of a table: orders, a hand, and what comes after it.
abbrev pub at_table : List ℕ → ℕ → PlayState → SimPlace → SimStep
at_table seed number play place =
    if is_playing play.book place.table then in_hand seed number place (hand_at play place.table)
    else if place.played then after_table play.book place
    else before_hand seed number play.book place (next_order play.book.seating seed number)

-- In the rounds: at the turn of a table, or after the level that came behind the last one.
abbrev pub in_rounds : List ℕ → ℕ → PlayState → SimPlace → SimStep
in_rounds seed number play place =
    if place.done then racing seed number place (find (is_race_due play.book) (table_numbers play.book.plan.tables))
    else at_table seed number play place

-- What comes next, by the number of events before it: the players enter, and then the rounds follow, until the stop.
unfoldable pub next_in_play : List ℕ → ℕ → PlayState → SimPlace → SimStep
next_in_play seed number play place =
    if play.book.stopped then End
    else if nat_lt (length play.book.entries) (entrants play.book.plan) then Take (next_entry play.book) place
    else in_rounds seed number play place

-- What comes next in a state. The number of a draw is that of the events which were accepted before it.
abbrev pub simulated_next : List ℕ → State → SimPlace → SimStep
simulated_next seed state place =
    option_map_or (λ play. next_in_play seed state.accepted play place) state.play End
