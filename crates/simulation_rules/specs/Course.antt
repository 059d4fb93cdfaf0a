-- What holds of a simulated tournament at every moment. This project's own.
use Rattle.std.specs.Prelude.{◌≡◌, ◌<◌, ◌≤◌, ◌+◌, ◌⊎◌, ℕ, true, false, [], map, length}
use Rattle.std.specs.List.{range_with_len}
use Rattle.std.specs.Option.{ForSome}
use Rattle.seat_book.specs.Seatings.{is_race_pending}
use Rattle.tournament_rules.specs.Books.{BookState}
use Rattle.tournament_rules.specs.Checks.{is_over_for_all, is_playing}
use Rattle.tournament_rules.specs.States.{State}
use Rattle.tournament_rules.specs.Valid.{IsValidState}
use Rattle.simulation_rules.specs.declared.place.SimPlace.{SimPlace}
use Rattle.simulation_rules.specs.Entrants.{entrants, entrant_name}
use Rattle.simulation_rules.specs.Limits.{most_hands}
use Rattle.simulation_rules.specs.Places.{first_place}

-- While players enter no hand has begun, nobody is out or has re-entered, the level is the first, and they entered by
-- their names in order.
pub record IsEntering (book : BookState) (place : SimPlace) : Type 0 where
  pub first : place ≡ first_place
  pub begun : book.begun ≡ 0
  pub busts : book.busts ≡ []
  pub once : book.reentries ≡ 0
  pub level : book.level ≡ 1
  pub names : book.entries ≡ map entrant_name (range_with_len 0 (length book.entries))

-- What a place is at the turn of the table whose hand is played.
pub record IsTurnOf (place : SimPlace) (table : ℕ) : Type 0 where
  pub here : table ≡ place.table
  pub played : place.played ≡ false
  pub done : place.done ≡ false

-- A simulated tournament is under way.
pub record IsUnderWay (book : BookState) (place : SimPlace) : Type 0 where
  -- the place's table is one of the plan's
  pub from_first : 1 ≤ place.table
  pub to_last : place.table ≤ book.plan.tables
  -- no more rounds have begun than hands, and one
  pub rounds : place.round ≤ book.begun + 1
  -- a round in which a hand was played, or is played, has its own
  pub own_hand : (place.any_played ≡ true) ⊎ (is_playing book place.table ≡ true) → place.round ≤ book.begun
  -- a hand that was played at the table was played in the round
  pub any : place.played ≡ true → place.any_played ≡ true
  -- hand-for-hand is off
  pub hands_off : book.seating.hands ≡ false
  -- a hand is played only at the table whose turn it is
  pub turn : (table : ℕ) → is_playing book table ≡ true → IsTurnOf place table
  -- a race is pending only where the tables of the round are done
  pub races : place.done ≡ false → is_race_pending book.seating ≡ false
  -- there are not more hands than the most, and where there are as many the last is played or was just played
  pub few_hands : book.begun ≤ most_hands
  pub last_hand : book.begun ≡ most_hands → (is_playing book place.table ≡ true) ⊎ (place.played ≡ true)
  -- where the tables are done a hand was played in the round
  pub done_played : place.done ≡ true → place.any_played ≡ true
  -- where the tables are done there is another round to come
  pub between : place.done ≡ true → book.begun < most_hands
  -- the tournament is over only where the table's hand was just played
  pub over : is_over_for_all book ≡ true → place.played ≡ true
  pub over_at_table : is_over_for_all book ≡ true → place.done ≡ false
  -- while there are seats to take, players enter
  pub entering : length book.entries < entrants book.plan → IsEntering book place

-- A simulated tournament is on its course: its state is valid, and until the stop it is under way.
pub record IsOnCourse (state : State) (place : SimPlace) : Type 0 where
  pub valid : IsValidState state
  pub under_way : ForSome state.play (λ play. play.book.stopped ≡ false → IsUnderWay play.book place)
