-- The journal of a plan alone.
use Rattle.std.proofs.Common.{◌≡◌, ◌∙◌, refl, sym, ap, ℕ, suc, ◌≢◌, ◌+◌, Bool, true, false, List, [], ◌∷◌, ◌++◌, fold, map, arith}
use Rattle.std.specs.Prelude.{not, ◌==◌, if◌then◌else◌, Ok as Made}
use Rattle.std.specs.List.{All, list_all}
use Rattle.std.proofs.lemmas.Bool.{and_parts, and_from}
use Rattle.std.proofs.lemmas.Bool.Decides.{nat_tests}
use Rattle.std.proofs.lemmas.List.{append_assoc, append-nil}
use Rattle.level_plan.specs.declared.line.PlanLine.{PlanLine}
use Rattle.level_plan.specs.Drafts.{empty_draft}
use Rattle.level_plan.specs.Plans.{PlanTerms}
use Rattle.plan_files.specs.PlanLines.{lines_of_plan, plan_of_lines}
use Rattle.tournament_events.specs.declared.answer.Answer.{Answer}
use Rattle.tournament_events.specs.declared.answer.Answer.TheVariants.{Ok}
use Rattle.tournament_events.specs.declared.event.Event.{Event}
use Rattle.tournament_events.specs.declared.event.Event.TheVariants as events
use Rattle.tournament_rules.specs.Effects.{first_book}
use Rattle.tournament_rules.specs.Kinds.{kind_of, is_played}
use Rattle.tournament_rules.specs.States.{State, answer_to, answers, first_state, is_accepted, run}
use Rattle.view_rules.specs.declared.entries.JournalEntry.{JournalEntry}
use Rattle.simulation_rules.specs.Runs.{plan_events}
use Rattle.simulation_rules.proofs.PlanTaken.{lines_taken}
use Rattle.dock_rules.specs.Journals.{Tale, acts_before, acts_kept, are_accepted, first_tale, is_brought_back, is_stop, plain_entry, seeded, serial_of, stacks_of, told_one, with_draws}
use Rattle.dock_rules.specs.Kept.{IsKept}
use Rattle.dock_rules.proofs.JournalTales.{count-told, tale_from}

-- whether an event is one of the plan
abbrev is_of_plan : Event → Bool
is_of_plan (events.Plan line) = true
is_of_plan events.Go = true
is_of_plan event = false

-- What an event of the plan has besides: nothing.
record IsPlain (tale : Tale) (caller : ℕ) (event : Event) : Type 0 where
  front : acts_before event [] ≡ []
  mine : not (is_played (kind_of event)) ≡ true
  back : is_brought_back tale caller event ≡ true
  acts : acts_kept event [] ≡ []
  drawn : with_draws tale event ≡ event
  serial : serial_of tale event ≡ 0
  stacks : stacks_of tale event [] ≡ []
  goes_on : is_stop event ≡ false

plain : (tale : Tale) (caller : ℕ) (event : Event) → is_of_plan event ≡ true → IsPlain tale caller event
plain tale caller (events.Plan line) of_plan = record {
  front = refl;
  mine = refl;
  back = refl;
  acts = refl;
  drawn = refl;
  serial = refl;
  stacks = refl;
  goes_on = refl;
}
plain tale caller events.Go of_plan = record {
  front = refl;
  mine = refl;
  back = refl;
  acts = refl;
  drawn = refl;
  serial = refl;
  stacks = refl;
  goes_on = refl;
}
plain tale caller event of_plan = absurd cc

-- What the entries of events of the plan come to.
record AreTaken (seed : List ℕ) (before : Tale) (entries : List JournalEntry) (events_ : List Event) (after : Tale)
    : Type 0 where
  legal : after.legal ≡ true
  again : after.again ≡ before.again ++ entries
  state : after.state ≡ run before.state events_
  ended : after.ended ≡ false
  seeded_so : (if after.count == 0 then seed else after.seed) ≡ seed

module _ (caller : ℕ) (seed : List ℕ) where
  one-taken : (tale : Tale) (event : Event) → (if tale.count == 0 then seed else tale.seed) ≡ seed
      → tale.legal ≡ true
      → is_of_plan event ≡ true → is_accepted (answer_to tale.state event) ≡ true
      → AreTaken seed tale (plain_entry caller seed event ∷ []) (event ∷ []) (told_one tale (plain_entry caller seed event))
  one-taken tale event same legal of_plan taken =
      let entry : JournalEntry = plain_entry caller seed event in
      let with_seed : Tale = seeded tale entry in
      let is = plain with_seed caller event of_plan in
      let accepted = ap (λ (front : List Event). are_accepted tale.state (front ++ event ∷ [])) is.front
      ∙ and_from _ _ taken refl in
      record {
        legal = and_from _ _ legal (and_from _ _ accepted (and_from _ _ is.mine is.back));
        again = (λ i. tale.again ++ (record {
          caller = caller;
          seed = same i;
          event = is.drawn i;
          serial = serial_of with_seed (is.drawn i);
          acts = is.acts i;
          stacks = stacks_of with_seed (is.drawn i) (is.acts i);
        }) ∷ [])
            ∙ (λ i. tale.again ++ (record {
              caller = caller;
              seed = seed;
              event = event;
              serial = is.serial i;
              acts = [];
              stacks = is.stacks i;
            }) ∷ []);
        state = ap (λ (front : List Event). run tale.state (front ++ event ∷ [])) is.front;
        ended = is.goes_on;
        seeded_so = by_count (tale.count + 1 == 0) same;
      }
    where
      by_count : (first : Bool) → (if tale.count == 0 then seed else tale.seed) ≡ seed
          → (if first then seed else (if tale.count == 0 then seed else tale.seed)) ≡ seed
      by_count true same = refl
      by_count false same = same

  -- Entries that are taken one after another.
  all-taken : (tale : Tale) (events_ : List Event) → (if tale.count == 0 then seed else tale.seed) ≡ seed
      → tale.legal ≡ true → tale.ended ≡ false → list_all is_of_plan events_ ≡ true
      → are_accepted tale.state events_ ≡ true
      → AreTaken seed tale (map (plain_entry caller seed) events_) events_
      (fold told_one tale (map (plain_entry caller seed) events_))
  all-taken tale [] same legal open_ of_plan accepted = record {
    legal = legal;
    again = sym (append-nil tale.again);
    state = refl;
    ended = open_;
    seeded_so = same;
  }
  all-taken tale (event ∷ events_) same legal open_ of_plan accepted =
      let kinds = and_parts _ _ of_plan in
      let parts = and_parts _ _ accepted in
      let entry : JournalEntry = plain_entry caller seed event in
      let first = one-taken tale event same legal kinds.0 parts.0 in
      let rest = all-taken (told_one tale entry) events_ first.seeded_so first.legal first.ended kinds.1
      (ap (λ (state : State). are_accepted state events_) first.state ∙ parts.1) in
      record {
        legal = rest.legal;
        again = rest.again ∙ (ap (λ (entries : List JournalEntry). entries ++ map (plain_entry caller seed) events_)
            first.again ∙ append_assoc tale.again (entry ∷ []) (map (plain_entry caller seed) events_));
        state = rest.state ∙ ap (λ (state : State). run state events_) first.state;
        ended = rest.ended;
        seeded_so = rest.seeded_so;
      }

all_of_plan : (lines : List PlanLine) → list_all is_of_plan (map events.Plan lines ++ events.Go ∷ []) ≡ true
all_of_plan [] = refl
all_of_plan (line ∷ lines) = all_of_plan lines

all_accepted : (given : List Answer) → All (λ answer. answer ≡ Ok) given → list_all is_accepted given ≡ true
all_accepted [] all = refl
all_accepted (answer ∷ given) all =
    and_from _ _ (ap is_accepted (all 0 Ok (omega arith)))
    (all_accepted given (λ k d within. all (suc k) d (omega (arith, within))))

seed-now : (count : ℕ) (seed now : List ℕ) → count ≢ 0 → (if count == 0 then seed else now) ≡ seed → now ≡ seed
seed-now count seed now some is = by_test (count == 0) refl is
  where
    by_test : (none : Bool) → (count == 0) ≡ none → (if none then seed else now) ≡ seed → now ≡ seed
    by_test true none same = let zero_is : count ≡ 0 = grind (arith, nat_tests) in absurd (some zero_is)
    by_test false none same = same

-- The journal of a plan is kept, where its lines make it, and comes to its first book.
pub kept-opening : (caller : ℕ) (seed : List ℕ) (plan : PlanTerms)
    → plan_of_lines empty_draft (lines_of_plan plan) ≡ Made plan
    → IsKept (map (plain_entry caller seed) (plan_events plan)) seed (first_book plan)
kept-opening caller seed plan makes =
    let journal : List JournalEntry = map (plain_entry caller seed) (plan_events plan) in
    let begins = lines_taken plan empty_draft 0 (lines_of_plan plan) makes in
    let is = all-taken caller seed first_tale (plan_events plan) refl refl refl (all_of_plan (lines_of_plan plan))
    (all_accepted (answers first_state (plan_events plan)) begins.all) in
    let from = tale_from journal in
    let count = ap (λ (tale : Tale). tale.count) (sym from) ∙ count-told journal in
    record {
      legal = record {
        allowed = ap (λ (tale : Tale). tale.legal) from ∙ is.legal;
        told = ap (λ (tale : Tale). tale.again) from ∙ is.again;
      };
      come = ap (λ (tale : Tale). tale.state.play) from ∙ (ap (λ (state : State). state.play) is.state ∙ begins.play);
      seeded = ap (λ (tale : Tale). tale.seed) from
          ∙ seed-now (fold told_one first_tale journal).count seed (fold told_one first_tale journal).seed
          (λ none. absurd (omega (arith, count, none))) is.seeded_so;
      counted = count-told journal;
      ended = ap (λ (tale : Tale). tale.ended) from ∙ is.ended;
      accepted = omega arith;
    }
