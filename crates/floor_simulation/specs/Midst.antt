-- A simulated tournament in its midst. This project's own.
use Rattle.std.specs.Prelude.{◌≡◌, ◌≤◌, ◌+◌, ℕ, true, false, List, length, count_by}
use Rattle.std.specs.Option.{ForSome}
use Rattle.table_engine.specs.Hands.{is_over}
use Rattle.tournament_rules.specs.States.{State, hand_at, run}
use Rattle.simulation_rules.specs.declared.place.SimPlace.{SimPlace}
use Rattle.simulation_rules.specs.Course.{IsOnCourse}
use Rattle.simulation_rules.specs.Effort.{effort}
use Rattle.simulation_rules.specs.Left.{events_left}
use Rattle.simulation_rules.specs.Runs.{is_settle, most_steps}

-- What holds at every moment of a tournament that stands at a place, of which so many hands were settled.
pub record IsInMidst (state : State) (place : SimPlace) (hands : ℕ) : Type 0 where
  pub course : IsOnCourse state place
  -- few events were accepted and are to come
  pub few : state.accepted + effort state place ≤ most_steps
  -- each hand that was settled was an event
  pub counted : hands ≤ state.accepted

-- What is to come of one moment and of another ends in the same state, with as many settled hands and as many events.
pub record ComeToSame (seed : List ℕ) (one : State) (place : SimPlace) (hands : ℕ) (other : State)
    (place_there : SimPlace) (hands_there : ℕ)
    : Type 0 where
  pub runs : run other (events_left seed other place_there) ≡ run one (events_left seed one place)
  pub settles : hands_there + count_by is_settle (events_left seed other place_there)
      ≡ hands + count_by is_settle (events_left seed one place)
  pub lasts : other.accepted + length (events_left seed other place_there)
      ≡ one.accepted + length (events_left seed one place)

-- Nobody is due in the hand at the table whose turn it is, where the tournament goes on and one is played there.
abbrev pub IsUndue : State → SimPlace → Type 0
IsUndue state place = ForSome state.play (λ play. play.book.stopped ≡ false
    → ForSome (hand_at play place.table) (λ hand. is_over hand ≡ true))
