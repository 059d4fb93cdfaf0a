-- What is told of a simulated tournament is its text.
use Rattle.std.proofs.Common.{◌≡◌, ◌∙◌, refl, ap, ℕ, List, [], ◌++◌, append_assoc, length}
use Rattle.std.specs.Prelude.{codes, count_by, Option, Some, None}
use Rattle.std.specs.Option.{option_map_or}
use Rattle.std.proofs.lemmas.List.{length-map}
use Rattle.level_plan.specs.Plans.{PlanTerms}
use Rattle.tournament_events.specs.declared.report.Report.{Report}
use Rattle.floor_events.specs.Spelling.{report_text}
use Rattle.tournament_rules.specs.States.{PlayState, State, first_state, run, players_of}
use Rattle.replay_rules.specs.Replay.{final_text}
use Rattle.tournament_rules.specs.Report.{book_report, empty_report, report_of, reported}
use Rattle.simulation_rules.specs.Runs.{count_line, is_settle, seed_of, simulated_run, simulation_text}
use Rattle.floor_simulation.specs.Told.{told}

-- the report has a row for each player who is in
rows-left : (state : State) → length (report_of state).seats ≡ length (players_of state)
rows-left state = by_play state.play
  where
    by_play : (play : Option PlayState)
        → length (option_map_or (λ play. book_report play.book) play empty_report).seats
        ≡ length (option_map_or (λ play. play.book.seating.players) play [])
    by_play None = refl
    by_play (Some play) = length-map play.book.seating.players (reported play.book.started)

-- five texts one behind another
joined : (one two three four five : List ℕ)
    → (one ++ (two ++ (three ++ (four ++ [])))) ++ five ≡ one ++ (two ++ (three ++ (four ++ five)))
joined one two three four five = simp append_assoc

-- The four lines and the report are what is told.
pub told-so : (number hands accepted left : ℕ) (state : State) (report : Report) (lines all : List ℕ)
    → lines ≡ count_line (codes "simulate") number ++ (count_line (codes "hands") hands
    ++ (count_line (codes "events") accepted ++ (count_line (codes "left") left ++ [])))
    → all ≡ lines ++ report_text report → report ≡ report_of state → accepted ≡ state.accepted
    → left ≡ length report.seats → all ≡ told number hands state
unfolding told final_text
told-so number hands accepted left state report lines all are behind is counted rows =
    let many : left ≡ length (players_of state) =
    rows ∙ (ap (λ (report : Report). length report.seats) is ∙ rows-left state) in
    behind ∙ (ap (λ (lines : List ℕ). lines ++ report_text report) are
    ∙ (joined (count_line (codes "simulate") number) (count_line (codes "hands") hands)
    (count_line (codes "events") accepted) (count_line (codes "left") left) (report_text report)
    ∙ (λ i. count_line (codes "simulate") number ++ (count_line (codes "hands") hands
    ++ (count_line (codes "events") (counted i) ++ (count_line (codes "left") (many i) ++ report_text (is i)))))))

-- What is told of the tournament of a number is its text.
pub told-whole : (number hands : ℕ) (plan : PlanTerms) (state : State)
    → state ≡ run first_state (simulated_run (seed_of number) plan)
    → hands ≡ count_by is_settle (simulated_run (seed_of number) plan)
    → state.accepted ≡ length (simulated_run (seed_of number) plan)
    → told number hands state ≡ simulation_text number plan
unfolding told simulation_text
told-whole number hands plan state is settled counted =
    λ i. count_line (codes "simulate") number ++ (count_line (codes "hands") (settled i)
    ++ (count_line (codes "events") (counted i) ++ (count_line (codes "left") (length (players_of (is i)))
    ++ final_text (is i))))
