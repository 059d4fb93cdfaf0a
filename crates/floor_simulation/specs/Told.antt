-- What is told of a simulated tournament at its end. This project's own.
use Rattle.std.specs.Prelude.{ℕ, List, ◌++◌, length, codes}
use Rattle.replay_rules.specs.Replay.{final_text}
use Rattle.tournament_rules.specs.States.{State, players_of}
use Rattle.simulation_rules.specs.Runs.{count_line}

-- Of the tournament of a number that ended in a state after so many settled hands: these, how many events were accepted
-- and how many players are left, each on its line, and the report.
unfoldable pub told : ℕ → ℕ → State → List ℕ
told number hands state =
    count_line (codes "simulate") number ++
    (count_line (codes "hands") hands ++
    (count_line (codes "events") state.accepted ++
    (count_line (codes "left") (length (players_of state)) ++
    final_text state)))
