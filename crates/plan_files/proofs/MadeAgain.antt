-- The lines of a right plan, and then `go`, make this plan.
use Rattle.std.proofs.Common.{◌≡◌, ◌≤◌, ◌+◌, ℕ, refl, sym, ap, ◌∙◌, true, false, List, [], ◌∷◌, ◌++◌, length, length-append, map, append_assoc, append-nil, arith}
use Rattle.std.specs.Prelude.{Bool, ◌&&◌, ◌||◌, ◌==◌, ◌%◌, not, nat_le, nat_lt, Option, Some, None, Result, Ok, unwrap_or, if◌then◌else◌}
use Rattle.std.proofs.lemmas.Bool.{and_parts, and_from, not_from_true}
use Rattle.std.proofs.lemmas.Bool.Decides.{nat_tests}
use Rattle.std.proofs.lemmas.List.{length-map}
use Rattle.toml.specs.Data.{Members}
use Rattle.rulebook.specs.Checks.{first_that_holds}
use Rattle.rulebook.specs.Limits.{most_seats, most_tables}
use Rattle.level_plan.specs.declared.line.PlanItem.{PlanItem}
use Rattle.level_plan.specs.declared.line.PlanLine.{PlanLine}
use Rattle.level_plan.specs.declared.line.PlanLine.TheVariants as lines
use Rattle.level_plan.specs.declared.plan.Blind.{Blind}
use Rattle.level_plan.specs.Items.{is_between, are_levels, are_shares}
use Rattle.level_plan.specs.Limits.{fewest_seats, greatest_amount, most_wagers}
use Rattle.level_plan.specs.Drafts.{Draft, empty_draft, is_wrong_line, draft_after, go_fault, plan_of}
use Rattle.level_plan.specs.Plans.{PlanTerms, is_right, unit_of_level}
use Rattle.plan_files.specs.PlanFiles.{unless, given, is_wrong_limit, item_checks, items_in, plan_in}
use Rattle.plan_files.specs.PlanLines.{limit_given, limit_lines, whole_draft, lines_of_plan, plan_of_lines}
use Rattle.plan_files.proofs.LevelRules.{all_fit, fits, all_fit-are_right}

-- a line that is taken is followed by the others
pub taken : (draft : Draft) (line : PlanLine) (more : List PlanLine) (made : Result PlanTerms PlanItem)
    → is_wrong_line draft line ≡ false → plan_of_lines (draft_after draft line) more ≡ made
    → plan_of_lines draft (line ∷ more) ≡ made
taken draft line more made right rest = rw right rest

-- what makes a plan right, part by part
pub record IsRight (plan : PlanTerms) : Type 0 where
  pub tables : is_between 1 most_tables plan.tables ≡ true
  pub seats : is_between fewest_seats most_seats plan.seats ≡ true
  pub stack : is_between 1 greatest_amount plan.stack ≡ true
  pub buyin : nat_le plan.buyin greatest_amount ≡ true
  pub late : is_between 1 (length plan.blinds) plan.late ≡ true
  pub few : nat_le (length plan.blinds) 40 ≡ true
  pub levels : are_levels plan.blinds ≡ true
  pub shares : are_shares plan.shares ≡ true
  pub cap : nat_le plan.cap most_wagers ≡ true
  pub whole : (plan.stack % unit_of_level plan.blinds plan.late == 0) ≡ true

parts_of : (plan : PlanTerms) → is_right plan ≡ true → IsRight plan
parts_of plan right =
    let tables = and_parts _ _ right in
    let seats = and_parts _ _ tables.1 in
    let stack = and_parts _ _ seats.1 in
    let buyin = and_parts _ _ stack.1 in
    let late = and_parts _ _ buyin.1 in
    let few = and_parts _ _ late.1 in
    let levels = and_parts _ _ few.1 in
    let shares = and_parts _ _ levels.1 in
    let cap = and_parts _ _ shares.1 in
    record {
      tables = tables.0;
      seats = seats.0;
      stack = stack.0;
      buyin = buyin.0;
      late = late.0;
      few = few.0;
      levels = levels.0;
      shares = shares.0;
      cap = cap.0;
      whole = cap.1;
    }

-- levels that fit are taken one after another
levels_taken : (draft : Draft) (front blinds : List Blind) (more : List PlanLine) (made : Result PlanTerms PlanItem)
    → all_fit front blinds ≡ true → plan_of_lines (record draft { blinds = front ++ blinds }) more ≡ made
    → plan_of_lines (record draft { blinds = front }) (map lines.Blinds blinds ++ more) ≡ made
levels_taken draft front [] more made fit rest = rw (sym (append-nil front)) rest
levels_taken draft front (blind ∷ blinds) more made fit rest =
    let here = and_parts (fits front blind) (all_fit (front ++ blind ∷ []) blinds) fit in
    taken (record draft { blinds = front }) (lines.Blinds blind) _ made (not_full _ _ here.0)
    (levels_taken draft (front ++ blind ∷ []) blinds more made here.1 (rw (append_assoc front (blind ∷ []) blinds) rest))
  where
    not_full : (full lawful : Bool) → (not full && lawful) ≡ true → (full || not lawful) ≡ false
    not_full true lawful fit = cc
    not_full false true fit = refl
    not_full false false fit = cc

no_fault : (plan : PlanTerms) → IsRight plan → go_fault (whole_draft plan) ≡ None
no_fault plan is =
    let some : (length plan.blinds == 0) ≡ false = grind (arith, nat_tests, is.late) in
    let level : nat_lt (length plan.blinds) plan.late ≡ false = grind (arith, nat_tests, is.late) in
    rw (some, level, is.whole)

no_longer : (n : ℕ) → nat_le n 1000000000 ≡ true → nat_lt 1000000000 n ≡ false
no_longer n few = grind (arith, nat_tests)

-- the cap that a draft gives of which the fixed limit of a plan is given
cap_given : (cap : ℕ) → unwrap_or (limit_given cap) 0 ≡ cap
cap_given cap = by_test (nat_lt 0 cap) refl
  where
    by_test : (some : Bool) → nat_lt 0 cap ≡ some → unwrap_or (if some then Some cap else None) 0 ≡ cap
    by_test true is = refl
    by_test false is = grind (arith, nat_tests, is)

-- the plan of a draft of which all is given
whole_plan : (plan : PlanTerms) → plan_of (whole_draft plan) ≡ plan
whole_plan plan = ap (λ (cap : ℕ). record plan { cap = cap }) (cap_given plan.cap)

ends : (plan : PlanTerms) → IsRight plan → plan_of_lines (whole_draft plan) [] ≡ Ok plan
ends plan is = rw (no_fault plan is) (ap Ok (whole_plan plan))

limit_lawful : (cap : ℕ) → nat_lt 0 cap ≡ true → nat_le cap most_wagers ≡ true → is_between 1 most_wagers cap ≡ true
limit_lawful cap some few = grind (arith, nat_tests)

-- the fixed limit is given last, where there is one
limit_taken : (cap : ℕ) (draft : Draft) (made : Result PlanTerms PlanItem) → nat_le cap most_wagers ≡ true
    → plan_of_lines (record draft { cap = limit_given cap }) [] ≡ made
    → plan_of_lines (record draft { cap = None }) (limit_lines cap) ≡ made
limit_taken cap draft made few rest = by_test (nat_lt 0 cap) refl rest
  where
    by_test : (some : Bool) → nat_lt 0 cap ≡ some
        → plan_of_lines (record draft { cap = if some then Some cap else None }) [] ≡ made
        → plan_of_lines (record draft { cap = None }) (if some then lines.Limit cap ∷ [] else []) ≡ made
    by_test true is rest =
        taken (record draft { cap = None }) (lines.Limit cap) [] made (not_from_true _ (limit_lawful cap is few)) rest
    by_test false is rest = rest

-- the fixed limit of a right plan is not wrong
right_limit : (cap : ℕ) → nat_le cap most_wagers ≡ true → is_wrong_limit (limit_given cap) ≡ false
right_limit cap few = by_test (nat_lt 0 cap) refl
  where
    by_test : (some : Bool) → nat_lt 0 cap ≡ some → is_wrong_limit (if some then Some cap else None) ≡ false
    by_test true is = not_from_true _ (limit_lawful cap is few)
    by_test false is = refl

late_lawful : (late count : ℕ) → is_between 1 count late ≡ true → nat_le count 40 ≡ true → is_between 1 40 late ≡ true
late_lawful late count level few = grind (arith, nat_tests)

-- The lines of a right plan, and then `go`, make this plan.
pub made_again : (plan : PlanTerms) → is_right plan ≡ true → plan_of_lines empty_draft (lines_of_plan plan) ≡ Ok plan
made_again plan right =
    let is = parts_of plan right in
    let d1 : Draft = record empty_draft { game = Some plan.game } in
    let d2 : Draft = record d1 { tables = Some plan.tables } in
    let d3 : Draft = record d2 { seats = Some plan.seats } in
    let d4 : Draft = record d3 { stack = Some plan.stack } in
    let d5 : Draft = record d4 { buyin = Some plan.buyin } in
    let d6 : Draft = record d5 { late = Some plan.late } in
    let d7 : Draft = record d6 { blinds = plan.blinds } in
    let fit : all_fit [] plan.blinds ≡ true =
    all_fit-are_right [] plan.blinds refl ∙ and_from _ _ is.few is.levels in
    let d8 : Draft = record d7 { shares = Some plan.shares } in
    let after8 : List PlanLine = limit_lines plan.cap in
    let after7 : List PlanLine = lines.Shares plan.shares ∷ after8 in
    let after6 : List PlanLine = map lines.Blinds plan.blinds ++ after7 in
    let after5 : List PlanLine = lines.Late plan.late ∷ after6 in
    let after4 : List PlanLine = lines.Buyin plan.buyin ∷ after5 in
    let after3 : List PlanLine = lines.Stack plan.stack ∷ after4 in
    let after2 : List PlanLine = lines.Seats plan.seats ∷ after3 in
    let after1 : List PlanLine = lines.Tables plan.tables ∷ after2 in
    taken empty_draft (lines.Game plan.game) after1 (Ok plan) refl
    (taken d1 (lines.Tables plan.tables) after2 (Ok plan) (not_from_true _ is.tables)
    (taken d2 (lines.Seats plan.seats) after3 (Ok plan) (not_from_true _ is.seats)
    (taken d3 (lines.Stack plan.stack) after4 (Ok plan) (not_from_true _ is.stack)
    (taken d4 (lines.Buyin plan.buyin) after5 (Ok plan) (no_longer plan.buyin is.buyin)
    (taken d5 (lines.Late plan.late) after6 (Ok plan)
    (not_from_true _ (late_lawful plan.late (length plan.blinds) is.late is.few))
    (levels_taken d6 [] plan.blinds after7 (Ok plan) fit
    (taken d7 (lines.Shares plan.shares) after8 (Ok plan) (not_from_true _ is.shares)
    (limit_taken plan.cap d8 (Ok plan) is.cap (ends plan is)))))))))

some_levels : (levels late : ℕ) → is_between 1 levels late ≡ true → nat_le levels 40 ≡ true → is_between 1 40 levels ≡ true
some_levels levels late level few = grind (arith, nat_tests)

-- no item of a right plan is wrong alone
no_wrong_item : (plan : PlanTerms) → IsRight plan → first_that_holds (item_checks (whole_draft plan)) ≡ None
no_wrong_item plan is =
    rw (
      is.tables,
      is.seats,
      is.stack,
      no_longer plan.buyin is.buyin,
      late_lawful plan.late (length plan.blinds) is.late is.few,
      some_levels (length plan.blinds) plan.late is.late is.few,
      is.levels,
      is.shares,
      right_limit plan.cap is.cap,
    )

right_items : (file : Members) (plan : PlanTerms) → IsRight plan → given file ≡ whole_draft plan
    → items_in file ≡ Ok (whole_draft plan)
unfolding items_in
right_items file plan is says =
    ap (λ (said : Draft). unless (first_that_holds (item_checks said)) said) says
    ∙ ap (λ (found : Option PlanItem). unless found (whole_draft plan)) (no_wrong_item plan is)

-- A file that gives each item of a right plan is read as this plan.
pub right_file : (file : Members) (plan : PlanTerms) → is_right plan ≡ true → given file ≡ whole_draft plan
    → plan_in file ≡ Ok plan
unfolding plan_in
right_file file plan right says =
    rw (right_items file plan (parts_of plan right) says)
    (rw (no_fault plan (parts_of plan right)) (ap Ok (whole_plan plan)))

-- the lines of a plan without that of its fixed limit
abbrev pub item_lines : PlanTerms → List PlanLine
item_lines plan =
    lines.Game plan.game ∷
    lines.Tables plan.tables ∷
    lines.Seats plan.seats ∷
    lines.Stack plan.stack ∷
    lines.Buyin plan.buyin ∷
    lines.Late plan.late ∷
    map lines.Blinds plan.blinds ++ lines.Shares plan.shares ∷ []

-- the line of the fixed limit behind them
pub limit_behind : (plan : PlanTerms) → item_lines plan ++ limit_lines plan.cap ≡ lines_of_plan plan
limit_behind plan =
    rw (append_assoc (map lines.Blinds plan.blinds) (lines.Shares plan.shares ∷ []) (limit_lines plan.cap))

few_limit_lines : (cap : ℕ) → length (limit_lines cap) ≤ 1
few_limit_lines cap = by_test (nat_lt 0 cap)
  where
    by_test : (some : Bool) → length (if some then lines.Limit cap ∷ [] else []) ≤ 1
    by_test true = omega arith
    by_test false = omega arith

-- a plan has a line for each of its levels, and at most eight others
pub few_lines : (plan : PlanTerms) → length (lines_of_plan plan) ≤ length plan.blinds + 8
few_lines plan =
    let limit = few_limit_lines plan.cap in
    let levels = length-map plan.blinds lines.Blinds in
    let all = length-append (map lines.Blinds plan.blinds) (lines.Shares plan.shares ∷ limit_lines plan.cap) in
    omega (arith, limit, levels, all)
