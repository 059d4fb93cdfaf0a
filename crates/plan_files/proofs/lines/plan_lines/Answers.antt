-- A plan is right by its type, and so its lines make it again.
use Rattle.std.proofs.Common.{◌≡◌, ◌∙◌, ◌++◌, List, sym, ap, true, rules}
use Rattle.level_plan.specs.declared.line.PlanLine.{PlanLine}
use Rattle.level_plan.specs.Drafts.{empty_draft}
use Rattle.level_plan.specs.Plans.{is_right}
use Rattle.plan_files.specs.PlanLines.{limit_lines, lines_of_plan, plan_of_lines}
use Rattle.plan_files.proofs.MadeAgain.{item_lines, limit_behind, made_again}
use Rattle.plan_files.proofs.lines.plan_lines.Goals as goal

all_lines : (c : goal.In_ok-push_limit) → c.push_limit.new.lines.items ≡ lines_of_plan c.args.plan.now
all_lines c =
    let before : c.push-7.new.self.items ≡ item_lines c.args.plan.now = search rules in
    let behind : c.push_limit.new.lines.items ≡ c.push-7.new.self.items ++ limit_lines c.args.plan.now.cap = search rules in
    behind
    ∙ ap (λ (lines : List PlanLine). lines ++ limit_lines c.args.plan.now.cap) before
    ∙ limit_behind c.args.plan.now

pub returns-clause-lines : goal.returns-clause-lines
returns-clause-lines c = all_lines c

pub returns-clause-again : goal.returns-clause-again
returns-clause-again c =
    let right : is_right c.args.plan.now ≡ true = rw (sym c.plan.view_is) c.plan.invariant in
    ap (plan_of_lines empty_draft) (all_lines c) ∙ made_again c.args.plan.now right
