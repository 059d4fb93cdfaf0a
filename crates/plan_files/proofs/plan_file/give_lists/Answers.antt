-- The levels, the shares and the fixed limit are given in turn.
use Rattle.std.proofs.Common.{◌≡◌, rules}
use Rattle.std.specs.Prelude.{option_map}
use Rattle.toml.specs.View.{table_view}
use Rattle.level_plan.specs.declared.line.PlanItem.TheVariants as items
use Rattle.level_plan.specs.declared.line.PlanLine.TheVariants as lines
use Rattle.level_plan.specs.Drafts.{Draft}
use Rattle.plan_files.specs.PlanFiles.{given}
use Rattle.plan_files.specs.Steps.{after_line, after_blinds, after_limit, after_lists}
use Rattle.plan_files.proofs.Wrong.{handed_on, first_wrong, second_wrong, third_wrong, third_given}
use Rattle.plan_files.proofs.plan_file.give_lists.Goals as goal

pub returns-in_err-give_blinds-clause-wrong : goal.returns-in_err-give_blinds-clause-wrong
unfolding after_lists
returns-in_err-give_blinds-clause-wrong c =
    let said : Draft = given (table_view c.args.file.now) in
    let blinds : c.items.result.now ≡ said.blinds = search rules in
    handed_on (after_lists said c.args.draft.now) c.in_err-give_blinds.field-0.0
    c.from_residual-in_err-give_blinds.result c.from_residual-in_err-give_blinds.ensures.1
    (first_wrong (after_blinds said.blinds c.args.draft.now)
    (after_line items.Shares (option_map lines.Shares said.shares)) (after_limit said.cap)
    c.in_err-give_blinds.field-0.0 (rw blinds at c.in_err-give_blinds.ensures.wrong))

pub returns-in_err-give-clause-wrong : goal.returns-in_err-give-clause-wrong
unfolding after_lists
returns-in_err-give-clause-wrong c =
    let said : Draft = given (table_view c.args.file.now) in
    let blinds : c.items.result.now ≡ said.blinds = search rules in
    let shares : c.map-shares.result ≡ option_map lines.Shares said.shares = search rules in
    handed_on (after_lists said c.args.draft.now) c.in_err-give.field-0.0 c.from_residual-in_err-give.result
    c.from_residual-in_err-give.ensures.1
    (second_wrong (after_blinds said.blinds c.args.draft.now)
    (after_line items.Shares (option_map lines.Shares said.shares)) (after_limit said.cap) c.give_blinds.new.draft
    c.in_err-give.field-0.0 (rw blinds at c.in_ok-give_blinds.ensures.given)
    (rw shares at c.in_err-give.ensures.wrong))

pub returns-clause-given : goal.returns-clause-given
unfolding after_lists
returns-clause-given c =
    let said : Draft = given (table_view c.args.file.now) in
    let blinds : c.items.result.now ≡ said.blinds = search rules in
    let shares : c.map-shares.result ≡ option_map lines.Shares said.shares = search rules in
    third_given (after_blinds said.blinds c.args.draft.now)
    (after_line items.Shares (option_map lines.Shares said.shares)) (after_limit said.cap) c.give_blinds.new.draft
    c.give.new.draft c.give_limit.new.draft c.give_limit.result (rw blinds at c.in_ok-give_blinds.ensures.given)
    (rw shares at c.in_ok-give.ensures.given) (rw c.limit_at.ensures at c.give_limit.ensures.given)

pub returns-clause-wrong : goal.returns-clause-wrong
unfolding after_lists
returns-clause-wrong c =
    let said : Draft = given (table_view c.args.file.now) in
    let blinds : c.items.result.now ≡ said.blinds = search rules in
    let shares : c.map-shares.result ≡ option_map lines.Shares said.shares = search rules in
    third_wrong (after_blinds said.blinds c.args.draft.now)
    (after_line items.Shares (option_map lines.Shares said.shares)) (after_limit said.cap) c.give_blinds.new.draft
    c.give.new.draft c.give_limit.result (rw blinds at c.in_ok-give_blinds.ensures.given)
    (rw shares at c.in_ok-give.ensures.given) (rw c.limit_at.ensures at c.give_limit.ensures.wrong)
