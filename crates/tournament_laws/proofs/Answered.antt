-- The text of a tournament whose events are all accepted is answered ok on each line, with the same report.
use Rattle.std.proofs.Common.{◌≡◌, ◌∙◌, refl, sym, ap, subst, ℕ, true, List, [], ◌∷◌, ◌++◌, map}
use Rattle.std.specs.Prelude.{Option, Some}
use Rattle.std.specs.List.{list_all, flat_map, AllByRecursion}
use Rattle.std.proofs.lemmas.Bool.{and_parts}
use Rattle.std.proofs.lemmas.List.{append-nil}
use Rattle.std.proofs.lemmas.List.Folds.{flat_map-map}
use Rattle.floor_text.specs.Lines.{lines_of_bytes}
use Rattle.floor_text.proofs.CutLines.{lines_of_bytes-nil}
use Rattle.tournament_events.specs.declared.answer.Answer.{Answer}
use Rattle.tournament_events.specs.declared.answer.Answer.TheVariants.{Ok, No, PlanWrong}
use Rattle.tournament_events.specs.declared.event.Event.{Event}
use Rattle.floor_events.specs.Spelling.{event_text, answer_text, IsWritable}
use Rattle.floor_events.proofs.EventLaws.{event_again, note_again, text_no_feed}
use Rattle.tournament_rules.specs.Report.{report_of}
use Rattle.replay_rules.specs.Replay.{item_of_cut, answers_to_items, state_after_items, final_text, replay_text, event_line, tournament_text}
use Rattle.tournament_rules.specs.States.{State, first_state, answer_to, answers, is_accepted, state_after, run}
use Rattle.tournament_laws.specs.Accepted.{are_accepted}
use Rattle.tournament_laws.proofs.Cuts.{IsLine, with_feed, lines_again}
use Rattle.tournament_laws.proofs.ReportNotes.{IsNoteLine, IsReportable, report_lines, report_is, lines_are_notes}

-- an event's text is a line
event_is_line : (event : Event) → IsWritable event → IsLine (event_text event)
event_is_line event writable = record { no_feed = text_no_feed event writable.parts; short = writable.short }

events_are_lines : (events : List Event) → AllByRecursion IsWritable events
    → AllByRecursion IsLine (map event_text events)
events_are_lines [] writable = tt
events_are_lines (event ∷ events) writable = (event_is_line event writable.0, events_are_lines events writable.1)

notes_are_lines : (notes : List (List ℕ)) → AllByRecursion IsNoteLine notes → AllByRecursion IsLine notes
notes_are_lines [] are = tt
notes_are_lines (note ∷ notes) are =
    (record { no_feed = are.0.no_feed; short = are.0.note.short }, notes_are_lines notes are.1)

-- an accepted answer is ok
accepted_ok : (answer : Answer) → is_accepted answer ≡ true → answer ≡ Ok
accepted_ok Ok taken = refl
accepted_ok (No refusal) taken = absurd cc
accepted_ok (PlanWrong item) taken = absurd cc

-- Lines are answered ok, and the state after them is this one.
record AreOk (state : State) (lines : List (Option (List ℕ))) (end : State) : Type 0 where
  ok : answers_to_items state (map item_of_cut lines) ≡ map (λ line. Ok) lines
  after : state_after_items state (map item_of_cut lines) ≡ end

notes_ok : (state : State) (notes : List (List ℕ)) → AllByRecursion IsNoteLine notes
    → AreOk state (map (λ line. Some line) notes) state
notes_ok state [] are = record { ok = refl; after = refl }
notes_ok state (note ∷ notes) are =
    let rest = notes_ok state notes are.1 in
    let read = note_again note are.0.note in
    record { ok = rw read (ap (◌∷◌ Ok) rest.ok); after = rw read rest.after }

events_ok : (state : State) (events : List Event) (notes : List (List ℕ)) → AllByRecursion IsWritable events
    → are_accepted state events ≡ true → AllByRecursion IsNoteLine notes
    → AreOk state (map (λ line. Some line) (map event_text events) ++ map (λ line. Some line) notes) (run state events)
events_ok state [] notes writable taken are = notes_ok state notes are
events_ok state (event ∷ events) notes writable taken are =
    let parts = and_parts (is_accepted (answer_to state event))
    (list_all is_accepted (answers (state_after state event) events)) taken in
    let rest = events_ok (state_after state event) events notes writable.1 parts.1 are in
    let read = event_again event writable.0 in
    record {
      ok = rw read (λ i. accepted_ok (answer_to state event) parts.0 i ∷ rest.ok i);
      after = rw read rest.after;
    }

-- what is written of a state at the end is the lines of its report
final_is : (state : State) → final_text state ≡ flat_map with_feed (report_lines (report_of state))
unfolding final_text
final_is state = report_is (report_of state)

-- the lines of the text of a tournament
tournament_lines : (events : List Event) → AllByRecursion IsWritable events
    → IsReportable (report_of (run first_state events))
    → lines_of_bytes (tournament_text events)
    ≡ map (λ line. Some line) (map event_text events)
    ++ map (λ line. Some line) (report_lines (report_of (run first_state events)))
tournament_lines events writable is =
    let report = report_of (run first_state events) in
    let notes = report_lines report in
    let lines = map event_text events in
    let first : flat_map event_line events ≡ flat_map with_feed lines =
    sym (flat_map-map with_feed event_text events) in
    let text : tournament_text events ≡ flat_map with_feed lines ++ flat_map with_feed notes =
    λ i. first i ++ final_is (run first_state events) i in
    let later : lines_of_bytes (flat_map with_feed notes) ≡ map (λ line. Some line) notes =
    ap lines_of_bytes (sym (append-nil (flat_map with_feed notes)))
    ∙ (lines_again notes [] (notes_are_lines notes (lines_are_notes report is))
    ∙ (ap (λ (rest : List (Option (List ℕ))). map (λ line. Some line) notes ++ rest) lines_of_bytes-nil
    ∙ append-nil (map (λ line. Some line) notes))) in
    ap lines_of_bytes text
    ∙ (lines_again lines (flat_map with_feed notes) (events_are_lines events writable)
    ∙ ap (λ (rest : List (Option (List ℕ))). map (λ line. Some line) lines ++ rest) later)

-- what is told of lines that are answered ok
told_ok : (state end : State) (lines : List (Option (List ℕ))) → AreOk state lines end
    → flat_map answer_text (answers_to_items state (map item_of_cut lines))
    ++ final_text (state_after_items state (map item_of_cut lines))
    ≡ flat_map (λ line. answer_text Ok) lines ++ final_text end
told_ok state end lines are =
    let each : flat_map answer_text (answers_to_items state (map item_of_cut lines))
    ≡ flat_map (λ (line : Option (List ℕ)). answer_text Ok) lines =
    ap (flat_map answer_text) are.ok ∙ flat_map-map answer_text (λ (line : Option (List ℕ)). Ok) lines in
    λ i. each i ++ final_text (are.after i)

-- The text of a tournament whose events are all accepted is answered ok on each line, and then with the same report.
pub answered_alike : (events : List Event) → AllByRecursion IsWritable events
    → are_accepted first_state events ≡ true → IsReportable (report_of (run first_state events))
    → replay_text (tournament_text events)
    ≡ flat_map (λ line. answer_text Ok) (lines_of_bytes (tournament_text events))
    ++ final_text (run first_state events)
answered_alike events writable taken is =
    let report = report_of (run first_state events) in
    let ok = events_ok first_state events (report_lines report) writable taken (lines_are_notes report is) in
    told_ok first_state (run first_state events) (lines_of_bytes (tournament_text events))
    (subst (λ (lines : List (Option (List ℕ))). AreOk first_state lines (run first_state events))
    (sym (tournament_lines events writable is)) ok)
