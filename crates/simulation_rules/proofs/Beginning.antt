-- How a simulated tournament begins: its plan is accepted, and it is on its course with few steps to come.
use Rattle.std.proofs.Common.{◌≡◌, ◌≤◌, ◌+◌, ◌∙◌, refl, sym, ap, subst, ℕ, zero, suc, [], ◌∷◌, map, length, length-append, true, false, inl, inr, arith}
use Rattle.std.specs.Prelude.{◌||◌, if◌then◌else◌, Option, None, is_some, replicate}
use Rattle.std.specs.List.{All, list_any}
use Rattle.std.specs.Option.{ForSome, option_map_or}
use Rattle.std.proofs.lemmas.Bool.{both_ways}
use Rattle.std.proofs.lemmas.List.{length-map}
use Rattle.level_plan.specs.Drafts.{empty_draft}
use Rattle.level_plan.specs.Plans.{PlanTerms, is_right}
use Rattle.plan_files.specs.PlanLines.{lines_of_plan}
use Rattle.plan_files.proofs.MadeAgain.{few_lines, made_again}
use Rattle.tournament_events.specs.declared.answer.Answer.TheVariants.{Ok}
use Rattle.tournament_events.specs.declared.event.Event.TheVariants as events
use Rattle.seat_book.specs.declared.table_status.TableStatus.{TableStatus}
use Rattle.tournament_rules.specs.Effects.{first_book, first_status}
use Rattle.tournament_rules.specs.States.{PlayState, first_play, first_state, run, answers}
use Rattle.tournament_rules.specs.Units.{is_due}
use Rattle.tournament_rules.proofs.Entries.{right_has}
use Rattle.tournament_rules.proofs.Plays.{some_so}
use Rattle.tournament_rules.proofs.Steps.{valid_events}
use Rattle.simulation_rules.specs.Course.{IsOnCourse, IsUnderWay}
use Rattle.simulation_rules.specs.Effort.{effort, effort_in_play}
use Rattle.simulation_rules.specs.Places.{first_place}
use Rattle.simulation_rules.specs.Runs.{plan_events, most_steps}
use Rattle.simulation_rules.proofs.FirstEffort.{few_steps, none_plays}
use Rattle.simulation_rules.proofs.PlanTaken.{BeginsBy, lines_taken}

plan_begins : (plan : PlanTerms) → is_right plan ≡ true → BeginsBy plan first_state (plan_events plan)
plan_begins plan right = lines_taken plan empty_draft 0 (lines_of_plan plan) (made_again plan right)

-- The lines of a right plan and their end are accepted.
pub plan_is_accepted : (plan : PlanTerms) → is_right plan ≡ true
    → All (λ answer. answer ≡ Ok) (answers first_state (plan_events plan))
plan_is_accepted plan right = (plan_begins plan right).all

none_due : (count : ℕ) (status : TableStatus) → status.race ≡ None → list_any is_due (replicate count status) ≡ false
none_due zero status none = refl
none_due (suc count) status none =
    ap (λ (race : Option ℕ). is_some race || list_any is_due (replicate count status)) none
    ∙ none_due count status none

under_way_first : (plan : PlanTerms) → is_right plan ≡ true → IsUnderWay (first_book plan) first_place
under_way_first plan right = record {
  from_first = omega arith;
  to_last = (right_has plan right).some_tables;
  rounds = omega arith;
  own_hand = λ had. elim had [
    | inl any ↦ absurd cc
    | inr plays ↦ absurd (both_ways _ (none_plays plan 1) plays)
  ];
  any = λ is. absurd cc;
  hands_off = refl;
  turn = λ table plays. absurd (both_ways _ (none_plays plan table) plays);
  races = λ done. none_due plan.tables (first_status plan) refl;
  few_hands = omega arith;
  last_hand = λ most. absurd (omega (arith, most));
  done_played = λ is. absurd cc;
  between = λ is. absurd cc;
  over = λ is. absurd cc;
  over_at_table = λ is. refl;
  entering = λ few. record { first = refl; begun = refl; busts = refl; once = refl; level = refl; names = refl };
}

-- Behind the lines of a right plan and their end a simulated tournament is on its course.
pub begins_on_course : (plan : PlanTerms) → is_right plan ≡ true
    → IsOnCourse (run first_state (plan_events plan)) first_place
begins_on_course plan right = record {
  valid = valid_events (plan_events plan);
  under_way = subst (λ (found : Option PlayState).
      ForSome found (λ play. play.book.stopped ≡ false → IsUnderWay play.book first_place))
      (sym (plan_begins plan right).play)
      (some_so (λ play. play.book.stopped ≡ false → IsUnderWay play.book first_place) (first_play plan)
      (λ going. under_way_first plan right));
}

few_events : (plan : PlanTerms) → is_right plan ≡ true → length (plan_events plan) ≤ 49
few_events plan right =
    let levels = (right_has plan right).level_count in
    let lines = few_lines plan in
    let plans = length-map (lines_of_plan plan) events.Plan in
    let all = length-append (map events.Plan (lines_of_plan plan)) (events.Go ∷ []) in
    omega (arith, levels, lines, plans, all)

-- It has fewer steps than most_steps, counting the lines.
pub begins_with_few : (plan : PlanTerms) → is_right plan ≡ true
    → (run first_state (plan_events plan)).accepted + effort (run first_state (plan_events plan)) first_place
    ≤ most_steps
unfolding most_steps
begins_with_few plan right =
    let begins = plan_begins plan right in
    let counted = begins.counted in
    let lines = few_events plan right in
    let steps = few_steps plan right in
    let all : effort (run first_state (plan_events plan)) first_place ≡ effort_in_play (first_play plan) first_place =
    ap (λ (found : Option PlayState).
    option_map_or (λ play. if play.book.stopped then 0 else effort_in_play play first_place) found 0) begins.play in
    omega (arith, counted, lines, steps, all)
