-- All items are given in turn.
use Rattle.toml.specs.View.{table_view}
use Rattle.level_plan.specs.Drafts.{Draft, empty_draft}
use Rattle.plan_files.specs.PlanFiles.{given}
use Rattle.plan_files.specs.Steps.{after_room, after_entry, after_lists, after_items}
use Rattle.plan_files.proofs.Wrong.{handed_on, first_wrong, second_wrong}
use Rattle.plan_files.proofs.plan_file.items_in.Goals as goal

pub returns-in_err-give_room-clause-wrong : goal.returns-in_err-give_room-clause-wrong
unfolding after_items
returns-in_err-give_room-clause-wrong c =
    let said : Draft = given (table_view c.args.file.now) in
    handed_on (after_items said) c.in_err-give_room.field-0.0 c.from_residual.result c.from_residual.ensures.1
    (first_wrong (after_room said empty_draft) (after_entry said) (after_lists said) c.in_err-give_room.field-0.0
    (rw c.new-draft.ensures at c.in_err-give_room.ensures.wrong))

pub returns-in_err-give_entry-clause-wrong : goal.returns-in_err-give_entry-clause-wrong
unfolding after_items
returns-in_err-give_entry-clause-wrong c =
    let said : Draft = given (table_view c.args.file.now) in
    handed_on (after_items said) c.in_err-give_entry.field-0.0 c.from_residual-in_err-give_entry.result
    c.from_residual-in_err-give_entry.ensures.1
    (second_wrong (after_room said empty_draft) (after_entry said) (after_lists said) c.give_room.new.draft
    c.in_err-give_entry.field-0.0 (rw c.new-draft.ensures at c.in_ok-give_room.ensures.given)
    c.in_err-give_entry.ensures.wrong)

pub returns-in_err-give_lists-clause-wrong : goal.returns-in_err-give_lists-clause-wrong
unfolding after_items
returns-in_err-give_lists-clause-wrong c =
    let said : Draft = given (table_view c.args.file.now) in
    handed_on (after_items said) c.in_err-give_lists.field-0.0 c.from_residual-in_err-give_lists.result
    c.from_residual-in_err-give_lists.ensures.1
    (rw (rw c.new-draft.ensures at c.in_ok-give_room.ensures.given, c.in_ok-give_entry.ensures.given)
    c.in_err-give_lists.ensures.wrong)

pub returns-clause-items : goal.returns-clause-items
unfolding after_items
returns-clause-items c =
    rw (rw c.new-draft.ensures at c.in_ok-give_room.ensures.given, c.in_ok-give_entry.ensures.given)
    c.in_ok-give_lists.ensures.given
