-- The events of a simulated tournament, and its text. This project's own.
use Rattle.std.specs.Prelude.{ℕ, zero, suc, ◌^◌, Bool, true, false, List, [], ◌∷◌, ◌++◌, length, map, count_by, codes, replicate}
use Rattle.std.specs.Int.{w64, to_le_bytes}
use Rattle.std.specs.Fmt.{decimal}
use Rattle.level_plan.specs.Plans.{PlanTerms}
use Rattle.line_words.specs.Words.{line_of_words}
use Rattle.plan_files.specs.PlanLines.{lines_of_plan}
use Rattle.tournament_events.specs.declared.event.Event.{Event}
use Rattle.tournament_events.specs.declared.event.Event.TheVariants as events
use Rattle.tournament_rules.specs.States.{State, first_state, run, state_after, players_of}
use Rattle.replay_rules.specs.Replay.{final_text}
use Rattle.simulation_rules.specs.declared.place.SimPlace.{SimPlace}
use Rattle.simulation_rules.specs.Places.{first_place}
use Rattle.simulation_rules.specs.declared.step.SimStep.{SimStep}
use Rattle.simulation_rules.specs.declared.step.SimStep.TheVariants.{Take, Move, End}
use Rattle.simulation_rules.specs.Steps.{simulated_next}

-- The seed of a number: the number as eight bytes, the least first, and 24 bytes of zero.
abbrev pub seed_of : ℕ → List ℕ
seed_of number = to_le_bytes w64 number ++ replicate 24 0

-- The plan's lines in the order of its items, and their end.
abbrev pub plan_events : PlanTerms → List Event
plan_events plan = map events.Plan (lines_of_plan plan) ++ events.Go ∷ []

-- The events that a step begins, with those that come from its place on.
abbrev pub events_by : (State → SimPlace → List Event) → State → SimStep → List Event
events_by more state (Take event place) = event ∷ more (state_after state event) place
events_by more state (Move place) = more state place
events_by more state End = []

-- The events from a place on, made in at most so many steps.
abbrev pub events_from : List ℕ → ℕ → State → SimPlace → List Event
events_from seed zero state place = []
events_from seed (suc steps) state place =
    events_by (events_from seed steps) state (simulated_next seed state place)

-- More steps than a simulated tournament has.
unfoldable pub most_steps : ℕ
most_steps = 2 ^ 60

-- The events of a simulated tournament: the plan's lines and their end, and then what comes next until the stop.
unfoldable pub simulated_run : List ℕ → PlanTerms → List Event
simulated_run seed plan =
    plan_events plan ++ events_from seed most_steps (run first_state (plan_events plan)) first_place

-- Whether an event settles a hand.
abbrev pub is_settle : Event → Bool
is_settle (events.Settle table) = true
is_settle _ = false

-- A line of a word and a number.
abbrev pub count_line : List ℕ → ℕ → List ℕ
count_line word number = line_of_words (word ∷ decimal number ∷ [])

-- What is told of the events of a simulated tournament: its number, how many hands were settled, how many events there
-- are and how many players are left, each on its line, and the report.
abbrev pub text_of_events : ℕ → List Event → List ℕ
text_of_events number events =
    count_line (codes "simulate") number ++
    (count_line (codes "hands") (count_by is_settle events) ++
    (count_line (codes "events") (length events) ++
    (count_line (codes "left") (length (players_of (run first_state events))) ++
    final_text (run first_state events))))

-- The text of the simulation of a number over a plan.
unfoldable pub simulation_text : ℕ → PlanTerms → List ℕ
simulation_text number plan = text_of_events number (simulated_run (seed_of number) plan)
